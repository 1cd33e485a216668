-- The edges that have begun at a height, and those that haven't.
use Rattle.std.specs.Prelude.{true, List, ◌++◌, ℕ, ◌<◌, ◌≤◌, ◌≡◌, length, ◌*ℤ◌, int_le}
use Rattle.std.specs.List.{AllByRecursion}
use Rattle.scad_geom.specs.declared.level.Level.{Level}
use Rattle.scad_geom.specs.declared.level.LeafEdge.{LeafEdge}
use Rattle.scad_geom.specs.Line.{low}
use Rattle.slice_bundles.specs.declared.start.Start.{Start}
use Rattle.slice_bundles.specs.Bundles.{edge_at}
use Rattle.slice_bundles.specs.Touching.{touches}
use Rattle.slice_bundles.specs.Starts.{numbers_of}
use Rattle.slice_bundles.specs.Times.{times}

-- the edges of these numbers have begun at a height, and with those pending they hold each edge at most once, and all
-- that meet it
pub record CoverHeight (edges : List LeafEdge) (at : Level) (live : List ℕ) (pending : List Start) : Type 0 where
  pub begun : AllByRecursion (λ k. int_le ((low (edge_at edges k)).y *ℤ at.d) at.n ≡ true) live
  pub once : (k : ℕ) → times k (live ++ numbers_of pending) ≤ 1
  pub all : (k : ℕ) → k < length edges → touches (edge_at edges k) at ≡ true
      → times k (live ++ numbers_of pending) ≡ 1
