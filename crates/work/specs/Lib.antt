-- What the contracts of `work` cite.
pub mod Work
