use Rattle.std.proofs.Common.{◌≡◌, ◌++◌, Some, length}
use Rattle.scad_operations.specs.Runs.{numbers_left}
use Rattle.scad_value.specs.View.{data_in}
use Rattle.scad_operations.proofs.sequence.add_numbers.Given as goal

abbrev pub invariant-numbers : goal.invariant-numbers
invariant-numbers l = data_in l.out ++ numbers_left l.next l.step l.end ≡ data_in l.fn.out ++ numbers_left
    (Some l.fn.start) l.step l.end

abbrev pub decreases-numbers : goal.decreases-numbers
decreases-numbers l = length (numbers_left l.next l.step l.end)
