pub mod Angles
pub mod Faces
pub mod Fragments
pub mod Matrices
pub mod Onto
pub mod Outlines
pub mod Paths
pub mod Profiles
pub mod Takes
mod Meanings
