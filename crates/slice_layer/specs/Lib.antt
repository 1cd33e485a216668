pub mod Cuts
pub mod Outlines
pub mod Membership
pub mod Border
pub mod Laws
pub mod Within
pub mod Refusal
