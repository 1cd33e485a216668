pub mod Fine
pub mod FlatRounds
pub mod HullFacts
pub mod KeptPoints
pub mod MadeTrees
pub mod Readings
pub mod Steps
pub mod Sweeps
