-- What the public calls promise.
pub mod Limits
pub mod Octagon
pub mod Nearness
pub mod Ring
pub mod Corners
-- What only the steps of the code promise to one another.
pub mod Tests
