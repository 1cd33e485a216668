pub mod Arguments
pub mod Elements
pub mod Going
pub mod Groups
pub mod Parameters
pub mod Program
pub mod Pushes
pub mod Turns
