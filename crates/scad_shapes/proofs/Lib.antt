mod Examples
mod HoldsExamples
pub mod Holds
pub mod Roundings
pub mod Solids
pub mod Stacks
pub mod TriangleCount
