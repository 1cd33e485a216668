use Rattle.std.proofs.Common.{◌≡◌, drop}
use Rattle.scad_value.specs.Actions.{action}
use Rattle.scad_value.specs.Elementwise.{each_of}
use Rattle.scad_value.specs.View.{elements}
use Rattle.scad_value.proofs.Steps.{onto_all}
use Rattle.scad_value.proofs.elementwise.+each.Given as goal

-- what is made, and then what is left
abbrev pub invariant-each_of-elements : goal.invariant-each_of-elements
invariant-each_of-elements l = onto_all l.made.items (each_of (action l.operation) (elements (drop l.v-index l.all)))
    ≡ each_of (action l.operation) (elements l.all)
