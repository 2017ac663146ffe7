-- Laws of `play` that belong to no one function.
pub mod Turns
