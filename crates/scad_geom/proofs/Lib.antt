mod Examples
pub mod Integers
pub mod Ring
pub mod Signs
pub mod Lines
pub mod Heights
pub mod Order
pub mod Turns
pub mod Shapes
pub mod Bounds
pub mod Crossing
pub mod CommonDivisor
pub mod Leaves
pub mod Balance
pub mod Places
pub mod PointOrder
pub mod Nearest
mod RoundingExamples
pub mod Bits
pub mod Casts
pub mod Coordinates
pub mod Crossings
pub mod Square
pub mod Points
pub mod Sums
pub mod Removal
pub mod Rising
mod Boxes
pub mod LeafEdges
