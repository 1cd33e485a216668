use Rattle.std.proofs.Common.{◌≡◌, true}
use Rattle.std.specs.List.{flat_map, list_all}
use Rattle.scad_tree.specs.View.{solids}
use Rattle.scad_tree.specs.Normal.{parts, is_apart}
use Rattle.scad_tree.proofs.operations.unite.Given as goal

abbrev pub invariant-loop-member : goal.invariant-loop-member
invariant-loop-member l = (solids l.parts.items ≡ flat_map parts (solids l.yielded))
    × (list_all is_apart (solids l.parts.items) ≡ true)
