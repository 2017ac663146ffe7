-- The proofs of what is guaranteed.
pub mod Located
pub mod Reading
pub mod StatusWord
pub mod Transition
pub mod Store
pub mod Alarms
pub mod Memory
pub mod Unsaved
pub mod EveryAnswer
pub mod Making
pub mod Settling
pub mod TwoRuns
pub mod Unchanged
pub mod Ticks
pub mod ZeroCopy
pub mod Numbering
pub mod Readout
