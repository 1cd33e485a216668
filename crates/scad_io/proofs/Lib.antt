-- Of the pieces that a desk sends and takes.
mod Pieces
pub mod Output
mod Input
pub mod Unfailing
