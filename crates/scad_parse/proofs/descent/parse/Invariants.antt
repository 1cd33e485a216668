use Rattle.scad_ast.specs.Scope.{items}
use Rattle.scad_parse.specs.Standing.{standing}
use Rattle.scad_parse.proofs.loops.Program.{ProgramGo}
use Rattle.scad_parse.proofs.loops.Turns.{to_come}
use Rattle.scad_parse.proofs.descent.parse.Given as goal

-- the items so far, and where the reader stands
abbrev pub invariant-statements : goal.invariant-statements
invariant-statements l = ProgramGo l.tokens.list.items l.tokens.end l.reader (items l.scope.items)

abbrev pub decreases-statements : goal.decreases-statements
decreases-statements l = to_come (standing l.reader)
