mod Examples
mod Holes
mod Length
