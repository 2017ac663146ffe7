-- What the contracts of `reads` cite.
pub mod Reads
