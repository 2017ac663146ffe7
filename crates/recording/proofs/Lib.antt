-- Laws of `recording` that belong to no one function.
pub mod KnownKinds
