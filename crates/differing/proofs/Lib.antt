-- Laws of `differing` that belong to no one function.
pub mod Counting
pub mod Keeping
