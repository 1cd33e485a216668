pub mod TriangleCount
pub mod Alike
