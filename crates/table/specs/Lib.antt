-- The table of proved cases.
pub mod Table
