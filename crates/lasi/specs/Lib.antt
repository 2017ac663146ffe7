-- What the contracts of `lasi` cite.
pub mod Lasi
