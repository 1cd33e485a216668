pub mod NearLevel
pub mod Stretches
pub mod LeftValues
pub mod BothSides
pub mod Climbing
pub mod LevelEdges
pub mod Along
pub mod SomeStops
mod Bits
