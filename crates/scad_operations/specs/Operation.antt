-- What gives a value as soon as its last operand has one.
use Rattle.scad_value.specs.Datum.{Datum, boolean}
use Rattle.scad_value.specs.Comparison.{truth}
use Rattle.scad_value.specs.Index.{indexed}
use Rattle.scad_value.specs.Operators.{unary_op}
use Rattle.scad_value.specs.View.{datum_of}
use Rattle.scad_machine.specs.State.{Action, pure, make}
use Rattle.scad_machine.specs.Machine.{Held, env_in, along_in}
use Rattle.scad_machine.specs.Variables.{variable}
use Rattle.scad_operations.specs.declared.operation.Operation.{Operation}
use Rattle.scad_operations.specs.declared.operation.Operation.TheVariants.{Ends, Stepped, Unary, Truth, Indexed, IndexedName, Member}
use Rattle.scad_operations.specs.Values.{ranged, ranged_by_one, member_of}

-- what it gives with that operand; a variable is what it is then
unfoldable pub operates : Operation → Held → Datum → Action Datum
operates (Ends start) h d = pure (ranged_by_one (datum_of start) d)
operates (Stepped at bounds) h d = ranged at (datum_of bounds.value.start) (datum_of bounds.value.step) d
operates (Unary at o) h d = make at (unary_op o d)
operates Truth h d = pure (boolean (truth d))
operates (Indexed of) h d = pure (indexed (datum_of of) d)
operates (IndexedName word) h d = pure (indexed (variable word.now (env_in h) (along_in h)) d)
operates (Member word) h d = pure (member_of word.now d)
