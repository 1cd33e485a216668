pub mod Circle
pub mod Cosine
pub mod Laws
