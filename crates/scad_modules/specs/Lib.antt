-- What the public calls promise.
pub mod Arguments
pub mod Extrusions
pub mod FlatShapes
pub mod Names
pub mod Outline
pub mod Primitive
pub mod Profile
pub mod Reading
pub mod Shapes
pub mod Transforms
pub mod View
-- What only the steps of the code promise to one another.
pub mod Ids
