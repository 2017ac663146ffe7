-- Laws of `creation` that belong to no one function.
pub mod Judging
