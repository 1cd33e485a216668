-- What the public calls promise.
pub mod Model
-- What lies below.
pub use Rattle.scad_members.specs.Choice
pub use Rattle.scad_members.specs.Meaning
pub use Rattle.scad_members.specs.Modules
pub use Rattle.scad_members.specs.OpenFrames
pub use Rattle.scad_members.specs.Scopes
-- What only the steps of the code promise to one another.
pub mod Calls
pub mod FirstFrames
pub mod Turns
pub mod View
