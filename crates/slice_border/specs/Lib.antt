-- What a border is, and its laws.
pub mod Pieces
pub mod Ends
pub mod Within
pub mod PieceNames
pub mod OnEdges
pub mod Balance
pub mod Cover
pub mod Centre
pub mod BorderPoints
pub mod Outlines
pub mod NothingOpen
pub mod Membership
pub mod NearBorder
pub mod Fault
pub mod Laws
-- What is near it, for those who find it.
pub mod Tally
pub mod Keeping
pub mod Beside
pub mod Levels
pub mod Flats
pub mod Stops
