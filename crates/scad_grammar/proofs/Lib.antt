mod Rows
pub mod Unique
mod faults
mod grammar
mod nesting
mod printing
mod reader
pub mod rules
