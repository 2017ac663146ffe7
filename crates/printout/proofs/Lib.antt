-- Laws of `printout` that belong to no one function.
pub mod Text
