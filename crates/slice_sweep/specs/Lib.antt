-- What the public calls promise.
pub mod Keys
pub mod Chains
pub mod Strands
pub mod Lows
pub mod LowerEnds
pub mod Front
pub mod Changes
-- What only the steps of the code promise to one another.
pub mod Mending
pub mod Rays
pub mod Places
pub mod Spots
