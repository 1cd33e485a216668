-- What the public calls promise.
pub mod Meaning
pub mod Pieces
pub mod Places
pub mod Stack
-- What lies below.
pub use Rattle.scad_operations.specs.Operation
pub use Rattle.scad_operations.specs.Parts
pub use Rattle.scad_operations.specs.Runs
pub use Rattle.scad_operations.specs.Values
