-- What the contracts of `thresholds` cite.
pub mod Thresholds
