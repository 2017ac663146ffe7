-- The reference model, the burn log, the history rule, and what is guaranteed in their terms.
pub mod Reference
pub mod BurnLog
pub mod History
pub mod Behaviour
pub mod Guarantees
