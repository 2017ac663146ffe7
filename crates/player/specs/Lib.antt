-- What the contracts of `player` cite.
pub mod Player
