-- Laws of `registers` that belong to no one function.
pub mod Between
