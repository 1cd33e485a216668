pub mod SameSpots
pub mod Pairs
pub mod Ties
pub mod EndOrder
pub mod Joints
pub mod ChainLinks
pub mod RoundedPieces
