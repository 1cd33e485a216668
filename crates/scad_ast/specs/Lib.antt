pub mod Scope
pub mod Tree
pub mod View
pub mod Text
