-- What the public calls promise.
pub mod Stays
pub mod Verdict
pub mod Laws
-- What only the steps of the code promise to one another.
pub mod Extent
pub mod Index
pub mod Trial
pub mod Fields
pub mod Judgement
pub mod Limits
