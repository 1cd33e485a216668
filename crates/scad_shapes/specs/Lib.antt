pub mod Limits
pub mod Faults
pub mod Outline
pub mod Rings
pub mod Polyhedron
pub mod Count
pub mod Laws
pub mod Pushes
