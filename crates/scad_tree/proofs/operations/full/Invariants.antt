use Rattle.std.proofs.Common.{◌≡◌, true}
use Rattle.std.specs.List.{list_all}
use Rattle.scad_tree.specs.View.{solids}
use Rattle.scad_tree.specs.Normal.{is_kept, not_empty}
use Rattle.scad_tree.proofs.operations.full.Given as goal

abbrev pub invariant-loop-member : goal.invariant-loop-member
invariant-loop-member l = (solids l.nodes.items ≡ not_empty (solids l.yielded))
    × (list_all is_kept (solids l.nodes.items) ≡ true)
