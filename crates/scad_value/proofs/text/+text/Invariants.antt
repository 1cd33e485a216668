-- What is left to print makes the whole.
use Rattle.std.proofs.Common.{◌∷◌, true, drop}
use Rattle.scad_base.specs.Characters.{open_square}
use Rattle.text_scan.specs.Printing.{Printed, Adds}
use Rattle.scad_value.specs.Texts.{elements_text}
use Rattle.scad_value.specs.View.{elements}
use Rattle.scad_value.proofs.text.+text.Given as goal

abbrev pub invariant-push_vector-elements : goal.invariant-push_vector-elements
invariant-push_vector-elements l =
    (end : Printed) → Adds (elements_text l.first (elements (drop l.v-index l.all))) l.out end
    → Adds (open_square ∷ elements_text true (elements l.all)) l.fn.out end
