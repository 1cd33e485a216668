use Rattle.std.proofs.Common.{◌+◌, ◌*◌}
use Rattle.scad_parse.specs.Standing.{standing}
use Rattle.scad_parse.proofs.loops.Arguments.{ArgumentsGo}
use Rattle.scad_parse.proofs.loops.Elements.{ElementsGo}
use Rattle.scad_parse.proofs.loops.Turns.{to_come}
use Rattle.scad_parse.proofs.+expression.Given as goal

abbrev pub decreases-argument::argument : goal.decreases-argument::argument
decreases-argument::argument l = 512 * l.room + 302

abbrev pub decreases-argument::arguments : goal.decreases-argument::arguments
decreases-argument::arguments l = 512 * l.room + 303

abbrev pub decreases-argument::closed_arguments : goal.decreases-argument::closed_arguments
decreases-argument::closed_arguments l = 512 * l.room + 304

abbrev pub decreases-argument::round_arguments : goal.decreases-argument::round_arguments
decreases-argument::round_arguments l = 512 * l.room + 0

abbrev pub decreases-element::element : goal.decreases-element::element
decreases-element::element l = 512 * l.room + 302

abbrev pub decreases-element::for_element : goal.decreases-element::for_element
decreases-element::for_element l = 512 * l.open.room + 303

abbrev pub decreases-element::for_head : goal.decreases-element::for_head
decreases-element::for_head l = 512 * l.room + 305

abbrev pub decreases-element::otherwise : goal.decreases-element::otherwise
decreases-element::otherwise l = 512 * l.whole.room + 0

abbrev pub decreases-element::round_head : goal.decreases-element::round_head
decreases-element::round_head l = 512 * l.room + 0

abbrev pub decreases-expression::bound : goal.decreases-expression::bound
decreases-expression::bound l = 512 * l.open.room + 301

abbrev pub decreases-expression::choice : goal.decreases-expression::choice
decreases-expression::choice l = 512 * l.room + 0

abbrev pub decreases-expression::closed : goal.decreases-expression::closed
decreases-expression::closed l = 512 * l.room + 301

abbrev pub decreases-expression::expression : goal.decreases-expression::expression
decreases-expression::expression l = 512 * l.room + 300

abbrev pub decreases-expression::round_expression : goal.decreases-expression::round_expression
decreases-expression::round_expression l = 512 * l.room + 0

abbrev pub decreases-operand::indexed : goal.decreases-operand::indexed
decreases-operand::indexed l = 512 * l.open.room + 0

abbrev pub decreases-operand::links : goal.decreases-operand::links
decreases-operand::links l = 512 * l.room + 0

abbrev pub decreases-operand::posts : goal.decreases-operand::posts
decreases-operand::posts l = 512 * l.room + 0

abbrev pub decreases-operand::prefixed : goal.decreases-operand::prefixed
decreases-operand::prefixed l = 512 * l.open.room + 3

abbrev pub decreases-operand::unary : goal.decreases-operand::unary
decreases-operand::unary l = 512 * l.room + 2

abbrev pub decreases-primary::named : goal.decreases-primary::named
decreases-primary::named l = 512 * l.room + 0

abbrev pub decreases-primary::primary : goal.decreases-primary::primary
decreases-primary::primary l = 512 * l.room + 1

abbrev pub decreases-vector::brackets : goal.decreases-vector::brackets
decreases-vector::brackets l = 512 * l.open.room + 305

abbrev pub decreases-vector::range : goal.decreases-vector::range
decreases-vector::range l = 512 * l.open.room + 303

abbrev pub decreases-vector::ranged : goal.decreases-vector::ranged
decreases-vector::ranged l = 512 * l.open.room + 302

abbrev pub decreases-operand::operand : goal.decreases-operand::operand
decreases-operand::operand l = 512 * l.room + (3 + l.lines)

abbrev pub decreases-operand::chain : goal.decreases-operand::chain
decreases-operand::chain l = 512 * l.room + (1 + l.lines)

abbrev pub decreases-argument::arguments-members : goal.decreases-argument::arguments-members
decreases-argument::arguments-members l = to_come (standing l.reader)

abbrev pub decreases-vector::brackets-members : goal.decreases-vector::brackets-members
decreases-vector::brackets-members l = to_come (standing l.reader)

abbrev pub invariant-argument::arguments-members : goal.invariant-argument::arguments-members
invariant-argument::arguments-members l = ArgumentsGo l.room l.fn.reader l.reader l.args.items

abbrev pub invariant-vector::brackets-members : goal.invariant-vector::brackets-members
invariant-vector::brackets-members l = ElementsGo l.open.room l.open.at l.fn.reader l.reader l.all.items
