pub mod Marks
pub mod Printing
