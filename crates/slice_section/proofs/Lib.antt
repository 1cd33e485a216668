pub mod WeightedMean
pub mod SideCuts
pub mod Edges
pub mod WindingSum
pub mod CutBalance
pub mod Balance
mod Differences
mod Doubled
mod Weights
mod FirstSide
