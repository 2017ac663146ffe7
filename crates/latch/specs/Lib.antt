-- What the contracts of `latch` cite.
pub mod Latch
