-- What the public calls promise.
pub mod Part
pub mod Shares
pub mod Rates
pub mod Script
pub mod Sums
pub mod Survey
-- What only the steps of the code promise to one another.
pub mod Pools
pub mod Rounds
