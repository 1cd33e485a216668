pub mod Table
pub mod Meanings
