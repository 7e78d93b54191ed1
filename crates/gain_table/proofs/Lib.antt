-- Ranges: what the table's numbers lie in.
pub mod Ranges
