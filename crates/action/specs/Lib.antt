-- What the contracts of `action` cite.
pub mod Action
