-- What the public calls promise.
pub mod Limits
pub mod Numbers
pub mod Pass
pub mod Events
pub mod Sound
pub mod Orders
pub mod Calls
-- What only the steps of the code promise to one another.
pub mod Rule
