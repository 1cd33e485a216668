-- What an answer unfolds to compute the meaning of a literal expression.
use Rattle.std.specs.Prelude.{⊤}
use Rattle.std.specs.Fmt.{digits}
use Rattle.scad_num.specs.Number.{number_of, quotient_of, remainder_of}
use Rattle.scad_num.specs.Rounding.{half_up, half_away}
use Rattle.scad_num.specs.Root.{root, root_in_steps, root_after, sqrt_of}
use Rattle.scad_builtin.specs.Names.{meaning_of}
use Rattle.scad_machine.specs.State.{fault, fault_of, over, take, step, make, say}
use Rattle.scad_machine.specs.Variables.{variable, set}
use Rattle.scad_machine.specs.Functions.{function_named}
use Rattle.scad_machine.specs.Lookup.{item_named}
use Rattle.scad_operations.specs.Runs.{items}
use Rattle.scad_machine.specs.Arguments.{given, set_all, with_children}
use Rattle.scad_machine.specs.EchoLines.{echo_line}
use Rattle.scad_operations.specs.Values.{operated, called_builtin, ranged, ranged_by_one, member_of, asserted, judge_named, judge_variables}
use Rattle.scad_stack.specs.Meaning.{values, default_value, defaults, bound, called_own, called, bound_in_order, elements, turns, for_variables, loop_turns, truth_of, right_side, node, value_layer, element_node, meaning}

unfoldable pub expressions_on_literals : ⊤
unfolding digits number_of quotient_of remainder_of half_up half_away root root_in_steps root_after sqrt_of meaning_of
    fault fault_of over take step make say variable set item_named function_named items given set_all with_children echo_line
    operated called_builtin ranged ranged_by_one member_of asserted judge_named judge_variables values default_value
    defaults bound called_own called bound_in_order elements turns for_variables loop_turns truth_of right_side node
    value_layer element_node meaning
expressions_on_literals = tt
