pub mod Condition
pub mod InPlace
pub mod Lists
pub mod Parts
pub mod RunsLeft
