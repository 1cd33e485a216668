-- The edges of each leaf of a solid tree.
use Rattle.std.specs.Prelude.{ℕ, ◌==◌, List, map, filter}
use Rattle.scad_geom.specs.declared.point.Edge.{Edge}
use Rattle.scad_geom.specs.declared.level.LeafEdge.{LeafEdge}
use Rattle.scad_geom.specs.Segment.{segments}
use Rattle.scad_geom.specs.Balance.{IsBalanced}

-- the edges of one leaf
abbrev pub edges_of : ℕ → List LeafEdge → List Edge
edges_of leaf es = map (λ e. e.edge) (filter (λ e. e.leaf == leaf) es)

-- each leaf's edges are closed
pub record AreLeavesBalanced (es : List LeafEdge) : Type 0 where
  pub each : (leaf : ℕ) → IsBalanced (segments (edges_of leaf es))
