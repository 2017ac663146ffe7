-- What the contracts of `monitor` cite.
pub mod Monitor
