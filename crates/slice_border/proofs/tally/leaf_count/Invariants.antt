use Rattle.std.proofs.Common.{ℕ, ◌<◌, get_or}
use Rattle.scad_geom.specs.declared.level.LeafEdge.{LeafEdge}
use Rattle.slice_border.proofs.tally.leaf_count.Given as goal

abbrev pub invariant-edges : goal.invariant-edges
invariant-edges l = (d : LeafEdge) (k : ℕ) → k < l.e-index → (get_or l.edges k d).leaf < l.count
