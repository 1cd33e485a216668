pub mod Closure
pub mod Within
pub mod Pushes
