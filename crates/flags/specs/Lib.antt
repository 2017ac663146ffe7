-- What the contracts of `flags` cite.
pub mod Flags
