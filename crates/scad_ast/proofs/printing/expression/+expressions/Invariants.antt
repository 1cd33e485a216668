-- What is left to print makes the whole.
use Rattle.std.proofs.Common.{drop, true}
use Rattle.scad_ast.specs.Text.{arguments_text, elements_text}
use Rattle.scad_ast.specs.View.{arguments, elements}
use Rattle.text_scan.specs.Printing.{Printed, Adds}
use Rattle.scad_ast.proofs.printing.expression.+expressions.Given as goal

abbrev pub invariant-write_arguments-arguments : goal.invariant-write_arguments-arguments
invariant-write_arguments-arguments l =
    (end : Printed) → Adds (arguments_text l.first (arguments (drop l.arg-index l.args.items))) l.out end
    → Adds (arguments_text true (arguments l.args.items)) l.fn.out end

abbrev pub invariant-write_elements-elements : goal.invariant-write_elements-elements
invariant-write_elements-elements l =
    (end : Printed) → Adds (elements_text l.first (elements (drop l.elem-index l.elems.items))) l.out end
    → Adds (elements_text true (elements l.elems.items)) l.fn.out end
