-- Laws of `flags` that belong to no one function.
pub mod FlagBits
