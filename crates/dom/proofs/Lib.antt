-- Laws of `dom` that belong to no one function.
pub mod Tenths
pub mod Rounding
