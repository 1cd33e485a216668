-- What is left to print makes the whole.
use Rattle.std.proofs.Common.{drop, map, true}
use Rattle.scad_ast.specs.Text.{parameters_text}
use Rattle.scad_ast.specs.Scope.{parameter}
use Rattle.text_scan.specs.Printing.{Printed, Adds}
use Rattle.scad_ast.proofs.printing.statement.write_params.Given as goal

abbrev pub invariant-params : goal.invariant-params
invariant-params l =
    (end : Printed) → Adds (parameters_text l.first (map parameter (drop l.param-index l.params.items))) l.out end
    → Adds (parameters_text true (map parameter l.params.items)) l.fn.out end
