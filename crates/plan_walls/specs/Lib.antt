pub mod Rings
pub mod Walls
pub mod Clearance
pub mod Lengths
pub mod Refusal
pub mod Laws
