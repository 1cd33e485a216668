-- What the public calls promise.
pub mod Assignments
pub mod NamePlaces
pub mod Names
-- What only the steps of the code promise to one another.
pub mod Notes
