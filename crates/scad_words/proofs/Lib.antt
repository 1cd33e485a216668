pub mod CommandNames
pub mod Subcommands
pub mod Documents
pub mod Ranges
pub mod Numerals
pub mod Ascending
pub mod LeastFault
pub mod CommandForms
