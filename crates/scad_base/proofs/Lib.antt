pub mod Appends
pub mod Integers
pub mod Lists
pub mod Memories
pub mod Products
pub mod Tests
mod Examples
pub mod Results
