pub mod Ends
pub mod Sections
pub mod Clear
pub mod Membership
pub mod Border
pub mod Surfaces
pub mod Within
