-- The bundles on the front and their wake-up keys, at a height.
use Rattle.std.specs.Prelude.{List, [], ◌∷◌, map, ℕ, ◌<◌, ◌≡◌, true, length, slice_index_or, pos, ◌<ℤ◌, All}
use Rattle.std.specs.List.{AllByRecursion, concat}
use Rattle.scad_geom.specs.declared.point.Edge.{Edge}
use Rattle.scad_geom.specs.declared.level.Level.{Level}
use Rattle.scad_geom.specs.declared.level.LeafEdge.{LeafEdge}
use Rattle.scad_geom.specs.Line.{high}
use Rattle.scad_geom.specs.Level.{level_of, IsLower, IsAtMost}
use Rattle.slice_bundles.specs.Bundles.{no_edge, edge_at, reaches, IsBundle}
use Rattle.slice_bundles.specs.KeptOrder.{IsLeftAt, IsNotRightAt, IsSamePlaceAt}
use Rattle.slice_sweep.specs.declared.strand.Strand.{Strand}
use Rattle.slice_sweep.specs.Keys.{IsBelowKey, stale}
use Rattle.slice_sweep.specs.Chains.{Chain}

abbrev pub bundles_of : List Strand → List (List ℕ)
bundles_of strands = map (λ s. s.bundle) strands

-- the numbers of all edges on the front
abbrev pub numbers_in : List Strand → List ℕ
numbers_in strands = concat (bundles_of strands)

-- the first edge of a bundle
abbrev pub head : List LeafEdge → List ℕ → Edge
head edges [] = no_edge.edge
head edges (k ∷ ks) = edge_at edges k

-- at a height, one strand lies to the left of another; not to its right
abbrev pub LiesLeft : List LeafEdge → Level → Strand → Strand → Type 0
LiesLeft edges at s t = IsLeftAt at (head edges s.bundle) (head edges t.bundle)

abbrev pub LiesNotRight : List LeafEdge → Level → Strand → Strand → Type 0
LiesNotRight edges at s t = IsNotRightAt at (head edges s.bundle) (head edges t.bundle)

-- the number of an edge that isn't flat and reaches two heights
pub record IsReaching (edges : List LeafEdge) (lower upper : Level) (k : ℕ) : Type 0 where
  pub there : k < length edges
  pub reaches : reaches (edge_at edges k) lower upper ≡ true

-- the edges of these numbers end above a height
abbrev pub EndAbove : List LeafEdge → Level → List ℕ → Type 0
EndAbove edges at ks = AllByRecursion (λ k. IsLower at (level_of (high (edge_at edges k)).y)) ks

-- a strand at a height: a bundle of edges that reach it, of which none ends at a height that isn't below it and is
-- below the key
pub record IsHeld (edges : List LeafEdge) (at : Level) (s : Strand) : Type 0 where
  pub bundle : IsBundle edges at s.bundle
  pub reach : AllByRecursion (IsReaching edges at at) s.bundle
  pub ends : (h : Level) → pos 0 <ℤ h.d → IsAtMost at h → IsBelowKey h s.wake → EndAbove edges h s.bundle

-- neighbours at a height: the first doesn't lie to the right, and lies to the left at each height above it and below
-- the first one's key
pub record AreHeld (edges : List LeafEdge) (at : Level) (s t : Strand) : Type 0 where
  pub order : LiesNotRight edges at s t
  pub left : (h : Level) → pos 0 <ℤ h.d → IsLower at h → IsBelowKey h s.wake → LiesLeft edges h s t

-- the first lies to the left at the height itself, if that is below its key
abbrev pub AreApart : List LeafEdge → Level → Strand → Strand → Type 0
AreApart edges at s t = IsBelowKey at s.wake → LiesLeft edges at s t

-- strands from left to right that have reached a height, as they come from below it or start there
pub record AreWaiting (edges : List LeafEdge) (at : Level) (strands : List Strand) : Type 0 where
  pub held : AllByRecursion (IsHeld edges at) strands
  pub ordered : Chain (AreHeld edges at) strands
  pub apart : Chain (AreApart edges at) strands

-- a strand without a key
abbrev pub restaled : Strand → Strand
restaled s = record { bundle = s.bundle; wake = stale }

-- strands of which the last has no key
abbrev pub weakened : List Strand → List Strand
weakened [] = []
weakened (s ∷ []) = restaled s ∷ []
weakened (s ∷ (t ∷ ss)) = s ∷ weakened (t ∷ ss)

-- bundles as strands without keys
abbrev pub fresh : List (List ℕ) → List Strand
fresh bs = map (λ b. record { bundle = b; wake = stale }) bs

abbrev pub no_strand : Strand
no_strand = record { bundle = []; wake = pos 0 }

abbrev pub strand_at : List Strand → ℕ → Strand
strand_at strands i = slice_index_or strands i no_strand

-- the edges of strands are edges of the list
abbrev pub AreThere : List LeafEdge → List Strand → Type 0
AreThere edges strands = All (λ s. All (λ k. k < length edges) s.bundle) strands

-- they lie at one place
abbrev pub IsTogether : List LeafEdge → Level → Strand → Strand → Type 0
IsTogether edges at s t = IsSamePlaceAt at (head edges s.bundle) (head edges t.bundle)
