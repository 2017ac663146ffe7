-- What the contracts of `controls` cite.
pub mod Controls
