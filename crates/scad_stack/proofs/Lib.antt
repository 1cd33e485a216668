pub mod DepthLeft
pub mod LoneNames
pub mod Loops
pub mod StackBegins
pub mod StackTurns
pub mod Views
