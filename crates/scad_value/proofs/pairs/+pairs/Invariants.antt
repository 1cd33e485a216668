use Rattle.std.proofs.Common.{◌≡◌, drop}
use Rattle.scad_value.specs.Actions.{pairing}
use Rattle.scad_value.specs.Elementwise.{by_pairs_of}
use Rattle.scad_value.specs.View.{elements}
use Rattle.scad_value.proofs.Steps.{onto_all}
use Rattle.scad_value.proofs.pairs.+pairs.Given as goal

-- what is made, and then what is left
abbrev pub invariant-by_pairs_of-pairs : goal.invariant-by_pairs_of-pairs
invariant-by_pairs_of-pairs l = onto_all l.made.items (by_pairs_of (pairing l.operation) (elements (drop l.i l.xs))
    (elements (drop l.i l.ys))) ≡ by_pairs_of (pairing l.operation) (elements l.xs) (elements l.ys)
