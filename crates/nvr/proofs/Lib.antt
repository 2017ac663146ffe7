-- Laws of `nvr` that belong to no one function.
pub mod Regions
pub mod Registers
