use Rattle.std.proofs.Common.{◌≡◌, true, false}
use Rattle.std.specs.List.{list_all, list_any}
use Rattle.scad_tree.specs.View.{solids}
use Rattle.scad_tree.specs.Normal.{is_kept, is_nothing}
use Rattle.scad_tree.proofs.operations.intersect.Given as goal

abbrev pub invariant-loop-member : goal.invariant-loop-member
invariant-loop-member l = (solids l.nodes.items ≡ solids l.yielded) × (list_all is_kept (solids l.nodes.items) ≡ true)
    × (list_any is_nothing (solids l.yielded) ≡ false)
