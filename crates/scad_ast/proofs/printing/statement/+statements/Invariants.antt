-- What is left to print makes the whole.
use Rattle.std.proofs.Common.{drop}
use Rattle.scad_ast.specs.Text.{items_text}
use Rattle.scad_ast.specs.Scope.{items}
use Rattle.text_scan.specs.Printing.{Printed, Adds}
use Rattle.scad_ast.proofs.printing.statement.+statements.Given as goal

abbrev pub invariant-write_items-items : goal.invariant-write_items-items
invariant-write_items-items l =
    (end : Printed) → Adds (items_text (items (drop l.item-index l.scope.items))) l.out end
    → Adds (items_text (items l.scope.items)) l.fn.out end
