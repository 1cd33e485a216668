pub mod Consecutive
pub mod Stretches
pub mod HeightRows
pub mod WoundStretches
pub mod LineRows
mod Examples
mod CoverExamples
pub mod RunUnion
pub mod Canonical
pub mod Without
pub mod HoleRests
pub mod Starts
pub mod NearRow
pub mod NearEdge
pub mod EdgeReach
pub mod Wholly
pub mod Holes
pub mod LineWork
pub mod InTurn
pub mod GroupPool
pub mod ListPushes
pub mod SupportRuns
pub mod Ascending
pub mod RowGathering
pub mod StretchCount
pub mod Widened
