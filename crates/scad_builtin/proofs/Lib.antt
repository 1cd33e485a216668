mod Examples
mod Crosses
pub mod Rows
pub mod Signs
mod Squares
pub mod Meanings
