-- What the public calls promise.
pub mod Runs
pub mod Extent
pub mod Multiple
pub mod There
pub mod Lengths
-- What only the steps of the code promise to one another.
pub mod Quotient
pub mod Steps
pub mod Sweep
pub mod Columns
pub mod Reach
