-- What the public calls promise.
pub mod Section
-- What only the steps of the code promise to one another.
pub mod Through
pub mod Exact
