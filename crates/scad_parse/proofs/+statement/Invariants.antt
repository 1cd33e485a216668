use Rattle.std.proofs.Common.{◌+◌, ◌*◌}
use Rattle.scad_ast.specs.Scope.{items}
use Rattle.scad_parse.specs.Standing.{standing}
use Rattle.scad_parse.proofs.loops.Groups.{GroupGo}
use Rattle.scad_parse.proofs.loops.Turns.{to_come}
use Rattle.scad_parse.proofs.+statement.Given as goal

abbrev pub decreases-definition::module : goal.decreases-definition::module
decreases-definition::module l = 8 * l.open.room + 4

abbrev pub decreases-instance::call : goal.decreases-instance::call
decreases-instance::call l = 8 * l.room + 3

abbrev pub decreases-instance::called_first : goal.decreases-instance::called_first
decreases-instance::called_first l = 8 * l.room + 0

abbrev pub decreases-instance::child : goal.decreases-instance::child
decreases-instance::child l = 8 * l.room + 2

abbrev pub decreases-instance::choice : goal.decreases-instance::choice
decreases-instance::choice l = 8 * l.room + 4

abbrev pub decreases-instance::first : goal.decreases-instance::first
decreases-instance::first l = 8 * l.room + 1

abbrev pub decreases-instance::marked : goal.decreases-instance::marked
decreases-instance::marked l = 8 * l.room + 6

abbrev pub decreases-instance::otherwise : goal.decreases-instance::otherwise
decreases-instance::otherwise l = 8 * l.room + 3

abbrev pub decreases-instance::run : goal.decreases-instance::run
decreases-instance::run l = 8 * l.room + 5

abbrev pub decreases-statement::definition : goal.decreases-statement::definition
decreases-statement::definition l = 8 * l.room + 2

abbrev pub decreases-statement::group : goal.decreases-statement::group
decreases-statement::group l = 8 * l.room + 4

abbrev pub decreases-statement::statement : goal.decreases-statement::statement
decreases-statement::statement l = 8 * l.room + 3

abbrev pub decreases-statement::word_behind : goal.decreases-statement::word_behind
decreases-statement::word_behind l = 8 * l.room + 4

abbrev pub decreases-statement::worded : goal.decreases-statement::worded
decreases-statement::worded l = 8 * l.room + 0

abbrev pub decreases-statement::group-statements : goal.decreases-statement::group-statements
decreases-statement::group-statements l = to_come (standing l.reader)

abbrev pub invariant-statement::group-statements : goal.invariant-statement::group-statements
invariant-statement::group-statements l =
    GroupGo l.room l.definitions (items l.fn.scope.items) l.fn.reader l.reader (items l.all.items)
