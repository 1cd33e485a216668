pub mod Counts
pub mod Memory
pub mod Parameters
pub mod Solids
