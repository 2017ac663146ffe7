-- What the contracts of `creation` cite.
pub mod Creation
