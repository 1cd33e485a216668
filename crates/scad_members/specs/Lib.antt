-- What the public calls promise.
pub mod Choice
pub mod Frames
pub mod Meaning
pub mod Modules
pub mod OpenFrames
pub mod Scopes
pub mod Stack
-- What only the steps of the code promise to one another.
pub mod ChildRange
