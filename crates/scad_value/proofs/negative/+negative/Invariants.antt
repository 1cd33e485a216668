use Rattle.std.proofs.Common.{◌≡◌, drop}
use Rattle.scad_value.specs.Negative.{negatives}
use Rattle.scad_value.specs.View.{elements, elements_onto}
use Rattle.scad_value.proofs.negative.+negative.Given as goal

-- what is made, and then what is left
abbrev pub invariant-negatives-elements : goal.invariant-negatives-elements
invariant-negatives-elements l = elements_onto l.made.items (negatives (elements (drop l.v-index l.all)))
    ≡ negatives (elements l.all)
