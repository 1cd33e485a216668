pub mod Sameness
pub mod Outlines
pub mod Layers
