-- What the contracts of `play` cite.
pub mod Turn
