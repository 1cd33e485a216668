-- What the public calls promise.
pub mod Moves
pub mod Infill
pub mod Plan
pub mod Clearance
pub mod Lengths
pub mod Refusal
pub mod There
pub mod One
