pub mod Appends
pub mod Characters
pub mod Memory
pub mod Results
