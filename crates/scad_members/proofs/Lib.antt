pub mod AssignedNames
pub mod ChildBounds
pub mod Items
pub mod KeptRound
pub mod Levels
pub mod Onward
pub mod ScopeFrames
