use Rattle.std.proofs.Common.{◌≡◌, ◌≤ℤ◌, pos, drop}
use Rattle.scad_value.specs.View.{elements}
use Rattle.scad_builtin.specs.Arguments.{numbers}
use Rattle.scad_builtin.specs.Numbers.{squares_onto}
use Rattle.scad_builtin.proofs.norm.squares.Given as goal

abbrev pub invariant-loop-value : goal.invariant-loop-value
invariant-loop-value l = record {
  sign : pos 0 ≤ℤ l.total;
  sum : squares_onto l.total (numbers (elements (drop l.value-index l.values))) ≡ squares_onto (pos 0)
      (numbers (elements l.values));
}
