use Rattle.scad_parse.specs.Standing.{standing}
use Rattle.scad_parse.proofs.loops.Parameters.{ParametersGo}
use Rattle.scad_parse.proofs.loops.Turns.{to_come}
use Rattle.scad_parse.proofs.definition.parameters.Given as goal

abbrev pub invariant-members : goal.invariant-members
invariant-members l = ParametersGo l.room l.fn.reader l.reader l.params.items

abbrev pub decreases-members : goal.decreases-members
decreases-members l = to_come (standing l.reader)
