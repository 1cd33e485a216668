pub mod Supports
pub mod Apart
pub mod Laws
