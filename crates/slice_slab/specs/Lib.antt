-- What the public calls promise.
pub mod Active
-- What only the steps of the code promise to one another.
pub mod Passages
