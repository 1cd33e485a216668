pub mod Matrix
pub mod Makers
