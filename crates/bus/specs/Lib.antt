-- What the contracts of `bus` cite.
pub mod Bus
