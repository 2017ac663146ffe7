-- Laws of `thresholds` that belong to no one function.
pub mod Mapped
