-- What the contracts of `alarms` cite.
pub mod Alarms
