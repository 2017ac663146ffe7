-- Laws of `settling` that belong to no one function.
pub mod Settling
