pub mod Entries
pub mod CosineLaws
