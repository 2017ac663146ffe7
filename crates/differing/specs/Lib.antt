-- What the contracts of `differing` cite.
pub mod Differing
