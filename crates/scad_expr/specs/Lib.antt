-- What the public calls promise.
pub mod Laws
-- What lies below.
pub use Rattle.scad_stack.specs.Meaning
pub use Rattle.scad_stack.specs.Places
pub use Rattle.scad_operations.specs.Runs
pub use Rattle.scad_operations.specs.Values
pub use Rattle.scad_machine.specs.Answers
pub use Rattle.scad_machine.specs.Arguments
pub use Rattle.scad_machine.specs.Functions
pub use Rattle.scad_machine.specs.Lookup
pub use Rattle.scad_machine.specs.Parameters
pub use Rattle.scad_machine.specs.Machine
pub use Rattle.scad_machine.specs.OpenFrames
pub use Rattle.scad_machine.specs.EchoLines
pub use Rattle.scad_machine.specs.State
pub use Rattle.scad_machine.specs.Variables
pub use Rattle.scad_machine.specs.View
-- What only the steps of the code promise to one another.
pub mod Turns
