-- The order of passages: by x, then by slope, then by number.
use Rattle.std.specs.Prelude.{Bool, not, List, [], ◌∷◌, map, length, ℕ, zero, suc, true, false, ◌<◌, ◌≡◌, if◌then◌else◌, ◌&&◌, ◌||◌, ◌*ℤ◌, int_lt, nat_lt}
use Rattle.std.specs.Ordering.{int_eq}
use Rattle.scad_geom.specs.declared.level.Level.{Level}
use Rattle.scad_geom.specs.declared.level.LeafEdge.{LeafEdge}
use Rattle.scad_geom.specs.Line.{rise, run, x_at}
use Rattle.slice_bundles.specs.Bundles.{edge_at}
use Rattle.slice_bundles.specs.Joined.{joined}
use Rattle.slice_slab.specs.declared.passage.Passage.{Passage}

abbrev pub is_left : Passage → Passage → Bool
is_left p q = int_lt (p.x *ℤ q.rise) (q.x *ℤ p.rise)

abbrev pub leans_left : Passage → Passage → Bool
leans_left p q = int_lt (p.run *ℤ q.rise) (q.run *ℤ p.rise)

-- by the first order, and where it doesn't decide by the second
abbrev pub first_by : (Passage → Passage → Bool) → (Passage → Passage → Bool) → Passage → Passage → Bool
first_by lt mt p q = lt p q || (not (lt q p) && mt p q)

abbrev pub comes_first : Passage → Passage → Bool
comes_first = first_by is_left (first_by leans_left (λ p q. nat_lt p.number q.number))

-- the passage of an edge at a height
pub record IsPassageOf (edges : List LeafEdge) (at : Level) (p : Passage) : Type 0 where
  pub there : p.number < length edges
  pub x : p.x ≡ x_at (edge_at edges p.number) at.n at.d
  pub rise : p.rise ≡ rise (edge_at edges p.number)
  pub run : p.run ≡ run (edge_at edges p.number)

abbrev pub numbers_of : List Passage → List ℕ
numbers_of ps = map (λ p. p.number) ps

-- whether two passages coincide from their height on
abbrev pub is_aligned : Passage → Passage → Bool
is_aligned p q = int_eq (p.x *ℤ q.rise) (q.x *ℤ p.rise) && int_eq (p.run *ℤ q.rise) (q.run *ℤ p.rise)

-- neighbours that coincide, together
abbrev pub bundles_of : List Passage → List (List ℕ)
bundles_of [] = []
bundles_of (p ∷ []) = (p.number ∷ []) ∷ []
bundles_of (p ∷ (q ∷ ps)) = if is_aligned p q then joined p.number (bundles_of (q ∷ ps)) else (p.number ∷ [])
    ∷ bundles_of (q ∷ ps)

-- whether the passage doesn't coincide with the next, or is the last
abbrev pub ends_bundle : List Passage → ℕ → Bool
ends_bundle [] i = true
ends_bundle (p ∷ []) i = true
ends_bundle (p ∷ (q ∷ ps)) zero = not (is_aligned p q)
ends_bundle (p ∷ (q ∷ ps)) (suc i) = ends_bundle (q ∷ ps) i

-- passages from left to right
abbrev pub AreSorted : List Passage → Type 0
AreSorted [] = Unit {0}
AreSorted (p ∷ []) = Unit {0}
AreSorted (p ∷ (q ∷ ps)) = (comes_first q p ≡ false) × AreSorted (q ∷ ps)
