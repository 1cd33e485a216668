-- What the public calls promise.
pub mod Spots
pub mod Inside
pub mod Pieces
pub mod Naming
pub mod Merging
pub mod Rounding
pub mod Cancelling
pub mod Laws
-- What only the steps of the code promise to one another.
pub mod Spans
-- What the lemmas on merged pieces say.
pub mod Joining
