-- What the contracts of `settling` cite.
pub mod Settling
