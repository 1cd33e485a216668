-- What the public calls promise.
pub mod Chain
pub mod Definitions
pub mod Env
pub mod FrameNames
pub mod Listing
pub mod Names
pub mod ListedValues
pub mod Slots
pub mod FrameStore
pub mod View
-- What only the steps of the code promise to one another.
pub mod NameSearch
pub mod Tables
pub mod Words
