pub mod Cells
pub mod Layout
pub mod Chain
pub mod Held
