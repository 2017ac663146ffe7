-- Laws of `store` that belong to no one function.
pub mod Zeros
