-- What the contracts of `store` cite.
pub mod Bytes
