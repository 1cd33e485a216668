pub mod RegionTurns
pub mod Exits
pub mod Spread
pub mod Apart
pub mod EdgeCrossing
