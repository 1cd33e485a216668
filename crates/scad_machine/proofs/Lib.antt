pub mod Giving
pub mod Homes
pub mod OpenFrames
