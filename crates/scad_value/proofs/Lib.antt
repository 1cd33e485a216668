pub mod Access
pub mod Equality
mod Examples
pub mod Others
pub mod Memory
pub mod Operands
pub mod Quotients
pub mod Rows
pub mod Steps
pub mod Sums
pub mod Lists
