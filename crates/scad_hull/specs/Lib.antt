-- What the public calls promise.
pub mod Plane
pub mod Chain
pub mod Ring
pub mod Distinct
pub mod Flat
pub mod Space
pub mod Faces
pub mod Laws
-- What only the steps of the code promise to one another.
pub mod Spot
pub mod Node
pub mod Blocks
pub mod Wrapping
