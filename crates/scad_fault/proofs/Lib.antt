-- The lines of the report, by example.
pub mod Lines
