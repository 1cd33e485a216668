-- The grammar as it stands on paper, and the one whose parts are as long as they can be.
pub mod Follow
pub mod Loose
pub mod Tight
