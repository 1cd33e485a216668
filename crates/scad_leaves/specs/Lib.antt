-- What the public calls promise.
pub mod Fineness
pub mod FlatLeaves
pub mod Hulls
pub mod Operation
pub mod Products
pub mod Profiles
pub mod Shapes
pub mod Where
-- What only the steps of the code promise to one another.
pub mod View
