-- What the public calls promise.
pub mod Order
pub mod Drawing
pub mod Corners
pub mod Outlines
pub mod Laws
pub mod Lengths
-- What only the steps of the code promise to one another.
pub mod Ascending
pub mod Remaining
