-- What the contracts of `nvr` cite.
pub mod Image
pub mod Command
