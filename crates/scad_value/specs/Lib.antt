-- What the public calls promise.
pub mod Comparison
pub mod Datum
pub mod Elementwise
pub mod Faults
pub mod Index
pub mod Kinds
pub mod Measures
pub mod Memory
pub mod Negative
pub mod Operators
pub mod Products
pub mod Texts
pub mod View
-- What only the steps of the code promise to one another.
pub mod Actions
