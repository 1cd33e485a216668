-- What is known of a sweep between two of its levels.
use Rattle.std.specs.Prelude.{false, ◌≡◌, ◌≤◌, ◌⊎◌, ⊤, List, [], ◌∷◌, ◌++◌, length, take, drop}
use Rattle.std.specs.List.{AllByRecursion}
use Rattle.std.specs.List.Sorted.{IsPermutation}
use Rattle.scad_geom.specs.declared.level.Level.{Level}
use Rattle.scad_geom.specs.declared.level.LeafEdge.{LeafEdge}
use Rattle.scad_geom.specs.declared.shape.Shape.{Shape}
use Rattle.scad_geom.specs.Level.{level_of, IsLower, IsAtMost}
use Rattle.scad_geom.specs.Heights.{AreNeighbours}
use Rattle.slice_events.specs.Levels.{AreLevels}
use Rattle.slice_pieces.specs.Rounding.{rounded_edges}
use Rattle.slice_sweep.specs.Front.{bundles_in, IsReadyFor, IsBegunTo}
use Rattle.sweep_laws.specs.Ways.{Way, pieces_of}
use Rattle.sweep_laws.specs.Fronts.{Strand, bundles_of, IsFront}
use Rattle.sweep_laws.specs.Sweeps.{HasSweptTo}
use Rattle.slice_outlines.specs.declared.sweep.Sweep.{Sweep}
use Rattle.slice_outlines.specs.Marks.{AreKept}
use Rattle.slice_outlines.specs.Cursors.{StandOn}
use Rattle.slice_outlines.specs.Flats.{AreFlats}

-- the front can be lifted to the first of these, below which all edges start that are on it
abbrev pub IsReadyForFirst : List LeafEdge → List Level → Sweep → Type 0
IsReadyForFirst es [] s = ⊤
IsReadyForFirst es (l ∷ ls) s = IsReadyFor es l s.front × IsBegunTo es l s.front

-- the flat edges that are passed lie below the first of some levels, and no others do
pub record ArePassedBelow (l : Level) (s : Sweep) : Type 0 where
  pub passed : AllByRecursion (λ f. IsLower (level_of f.y) l) (take s.passed s.flats.items)
  pub later : AllByRecursion (λ f. IsAtMost l (level_of f.y)) (drop s.passed s.flats.items)

abbrev pub ArePassedBelowFirst : List Level → Sweep → Type 0
ArePassedBelowFirst [] s = ⊤
ArePassedBelowFirst (l ∷ ls) s = ArePassedBelow l s

-- nothing lies below the first of all levels; below any other the front is that between it and the one before
abbrev pub IsFrontBelow : List LeafEdge → Shape → List Level → List Level → List Strand → Type 0
IsFrontBelow es shape levels [] front = ⊤
IsFrontBelow es shape levels (m ∷ ls) front = ((front ≡ []) × (levels ≡ m ∷ ls))
    ⊎ ((l : Level) × AreNeighbours es l m × IsFront es shape l m front)

-- a sweep over some levels that has passed all but those that are left
pub record HasSwept (es : List LeafEdge) (shape : Shape) (levels left : List Level) (s : Sweep) : Type 0 where
  pub done : List Level
  pub front : List Strand
  pub closed : List Way
  pub all : levels ≡ done ++ left
  pub swept : HasSweptTo es shape levels left front closed
  pub given : IsPermutation (rounded_edges (pieces_of closed)) s.kept.given.items
  pub bundles : bundles_of front ≡ bundles_in s.front
  pub kept : AreKept false s.kept.marks.items front
  pub cursors : StandOn es shape (bundles_in s.front) s.kept.cursors
  pub flats : AreFlats es s.flats.items
  pub passed : s.passed ≤ length s.flats.items
  pub flats_below : ArePassedBelowFirst left s
  pub ready : IsReadyForFirst es left s
  pub below : IsFrontBelow es shape levels left front

-- a sweep over all levels that has come to one that isn't the last, and is to be lifted to the next
pub record CanClimb (es : List LeafEdge) (at upper : Level) (s : Sweep) : Type 0 where
  pub shape : Shape
  pub levels : List Level
  pub later : List Level
  pub are_levels : AreLevels es levels
  pub swept : HasSwept es shape levels (at ∷ (upper ∷ later)) s

-- one that has come to the last
pub record CanEnd (es : List LeafEdge) (top : Level) (s : Sweep) : Type 0 where
  pub shape : Shape
  pub levels : List Level
  pub are_levels : AreLevels es levels
  pub swept : HasSwept es shape levels (top ∷ []) s
