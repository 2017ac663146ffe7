-- What the contract of `registers` cites.
pub mod Map
