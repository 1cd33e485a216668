-- What the public calls promise.
pub mod Edges
-- What only the steps of the code promise to one another.
pub mod Tests
