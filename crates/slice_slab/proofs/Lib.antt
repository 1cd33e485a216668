mod Ranking
mod Steps
mod Bundling
mod Beginning
pub mod Standing
