-- How many constructs stand open.
pub mod PartEnd
pub mod Expressions
pub mod OpenRest
pub mod Open
pub mod Openings
pub mod Places
pub mod Real
pub mod RealSteps
pub mod Statements
pub mod Tracks
