pub mod Counting
pub mod Layouts
pub mod Sound
pub mod Chains
pub mod Rows
pub mod Adding
pub mod Shown
pub mod Sizes
