-- The front of a sweep: the bundles that have reached a height, and the edges that start later.
use Rattle.std.specs.Prelude.{List, ◌++◌, drop, ℕ, ◌<◌, ◌≤◌, ◌≡◌, true, length, pos, ◌<ℤ◌, All}
use Rattle.std.specs.List.{AllByRecursion}
use Rattle.scad_geom.specs.declared.level.Level.{Level}
use Rattle.scad_geom.specs.declared.level.LeafEdge.{LeafEdge}
use Rattle.scad_geom.specs.Line.{low}
use Rattle.scad_geom.specs.Level.{level_of, IsLower, IsAtMost}
use Rattle.slice_bundles.specs.declared.start.Start.{Start}
use Rattle.slice_bundles.specs.Bundles.{edge_at, reaches}
use Rattle.slice_bundles.specs.Starts.{AreStarts, AreRising, numbers_of}
use Rattle.slice_bundles.specs.Times.{times}
use Rattle.slice_sweep.specs.declared.front.Front.{Front}
use Rattle.slice_sweep.specs.LowerEnds.{starts_of}
use Rattle.slice_sweep.specs.Strands.{bundles_of, numbers_in, AreWaiting}
use Rattle.slice_sweep.specs.Lows.{AreLow}

-- the bundles above the height that it was lifted to last, from left to right
abbrev pub bundles_in : Front → List (List ℕ)
bundles_in f = bundles_of f.strands.items

-- the edges of these numbers and those pending hold each edge at most once, and all that aren't flat and reach a height
pub record AreAll (edges : List LeafEdge) (at : Level) (live : List ℕ) (pending : List Start) : Type 0 where
  pub once : (k : ℕ) → times k (live ++ numbers_of pending) ≤ 1
  pub all : (k : ℕ) → k < length edges → reaches (edge_at edges k) at at ≡ true
      → times k (live ++ numbers_of pending) ≡ 1

-- it can be lifted to a height
pub record IsReadyFor (edges : List LeafEdge) (at : Level) (f : Front) : Type 0 where
  pub starts : AreStarts edges (starts_of f.ends.items)
  pub rising : AreRising (starts_of f.ends.items)
  pub begun : f.begun ≤ length f.ends.items
  pub waiting : AreWaiting edges at f.strands.items
  pub low : AreLow f.lows.items f.strands.items
  pub later : (h : Level) → pos 0 <ℤ h.d → IsAtMost at h
      → AreAll edges h (numbers_in f.strands.items) (starts_of (drop f.begun f.ends.items))

-- edges of which none starts below a height
abbrev pub StartFrom : Level → List LeafEdge → Type 0
StartFrom at edges = All (λ e. IsAtMost at (level_of (low e.edge).y)) edges

-- the edge of a number starts below a height
abbrev pub StartsBelow : List LeafEdge → Level → ℕ → Type 0
StartsBelow edges at k = IsLower (level_of (low (edge_at edges k)).y) at

-- it holds the edges that start below a height, and none of those that are pending does
pub record IsBegunTo (edges : List LeafEdge) (at : Level) (f : Front) : Type 0 where
  pub live : AllByRecursion (StartsBelow edges at) (numbers_in f.strands.items)
  pub pending : AllByRecursion (λ s. IsAtMost at (level_of s.y)) (starts_of (drop f.begun f.ends.items))
