-- What the contracts of `recording` cite.
pub mod Recording
