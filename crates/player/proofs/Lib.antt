-- Laws of `player` that belong to no one function.
pub mod Keeping
pub mod Playing
