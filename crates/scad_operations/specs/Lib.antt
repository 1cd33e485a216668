-- What the public calls promise.
pub mod Operation
pub mod Parts
pub mod Runs
pub mod Values
-- What only the steps of the code promise to one another.
pub mod Condition
