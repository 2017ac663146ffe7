-- What the contracts of `printout` cite.
pub mod Line
