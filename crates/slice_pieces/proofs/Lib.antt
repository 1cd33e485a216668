pub mod OneLine
pub mod GoingOn
pub mod Ends
pub mod Ways
pub mod SameSpots
pub mod Opposite
pub mod SideBySide
pub mod SpotRange
pub mod ChainEnds
pub mod Pairs
pub mod Balance
pub mod Counts
pub mod OneRest
pub mod SamePieces
pub mod Courses
pub mod TwoPairs
pub mod OneMerging
mod Examples
