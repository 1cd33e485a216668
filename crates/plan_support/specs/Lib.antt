-- What the public calls promise.
pub mod Stretches
pub mod Rows
pub mod Spans
pub mod On
pub mod Covers
pub mod Supports
pub mod Lines
-- What only the steps of the code promise to one another.
pub mod Shares
pub mod Free
pub mod Near
pub mod Unite
pub mod Lists
