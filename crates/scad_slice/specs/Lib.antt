-- What the public calls promise.
pub mod Budgets
pub mod Supports
pub mod Layer
pub mod Parts
pub mod Script
pub mod Membership
pub mod Laws
-- What only the steps of the code promise to one another.
pub mod LayerEnd
pub mod Covers
