-- The proof of the table.
pub mod Table
