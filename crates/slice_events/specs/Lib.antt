-- What the public calls promise.
pub mod Limits
pub mod Levels
pub mod Refusal
pub mod Common
pub mod Boxes
-- What only the steps of the code promise to one another.
pub mod Distinct
pub mod Collection
pub mod Reading
pub mod Lines
pub mod KeptHeights
pub mod Stays
pub mod Pairs
pub mod Yields
pub mod AllPairs
