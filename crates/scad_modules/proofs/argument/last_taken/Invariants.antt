use Rattle.std.proofs.Common.{◌≡◌, ◌≤◌, drop, None}
use Rattle.scad_ast.specs.View.{arguments}
use Rattle.scad_modules.specs.Arguments.{taken_from}
use Rattle.scad_modules.specs.View.{datum_in}
use Rattle.scad_value.specs.View.{data_of}
use Rattle.scad_modules.proofs.argument.last_taken.Given as goal

abbrev pub invariant-arguments : goal.invariant-arguments
invariant-arguments l = record {
  counted : l.i ≤ l.arg-index;
  along : l.k ≡ l.arg-index;
  taken : taken_from l.place l.name l.i (arguments (drop l.arg-index l.args)) (data_of (drop l.k l.values))
      (datum_in l.found) ≡ taken_from l.place l.name 0 (arguments l.args) (data_of l.values) None;
}
