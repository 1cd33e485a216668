-- What the public calls and the law promise.
pub mod Bundles
pub mod KeptOrder
-- What the crates above say of edges by their numbers.
pub mod Touching
pub mod Starts
pub mod Times
pub mod CoverHeight
pub mod Joined
-- What only the steps of the code promise to one another.
pub mod Numbers
