-- What the public calls promise.
pub mod JudgedFault
-- What only the steps of the code promise to one another.
pub mod Heads
pub mod Reading
pub mod ReadingStatements
pub mod Standing
