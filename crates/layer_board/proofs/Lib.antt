pub mod Lists
pub mod Counts
pub mod Steps
pub mod Events
pub mod Joining
pub mod Splitting
pub mod Ending
pub mod Orders
pub mod Table
pub mod Dealing
mod Examples
