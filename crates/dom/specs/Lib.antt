-- What the contracts of `dom` cite.
pub mod Codes
pub mod Readout
