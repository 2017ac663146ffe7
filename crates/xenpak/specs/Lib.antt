-- What the contracts of `xenpak` cite.
pub mod Frame
pub mod Calls
