pub mod Ascending
mod LookUp
pub mod Meanings
