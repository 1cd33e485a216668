pub mod NamePlaces
pub mod Notes
pub mod Rows
