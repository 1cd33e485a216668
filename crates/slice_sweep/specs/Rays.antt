-- Edges that go on from one place: by slope, then by number.
use Rattle.std.specs.Prelude.{Bool, not, List, [], ◌∷◌, map, length, ℕ, zero, suc, true, false, ◌<◌, ◌≡◌, if◌then◌else◌, ◌&&◌, ◌||◌, ◌*ℤ◌, int_lt, nat_lt}
use Rattle.std.specs.Ordering.{int_eq}
use Rattle.scad_geom.specs.declared.level.LeafEdge.{LeafEdge}
use Rattle.scad_geom.specs.Line.{rise, run}
use Rattle.slice_bundles.specs.Bundles.{edge_at}
use Rattle.slice_bundles.specs.Joined.{joined}
use Rattle.slice_sweep.specs.declared.ray.Ray.{Ray}

-- the ray of an edge
pub record IsRayOf (edges : List LeafEdge) (r : Ray) : Type 0 where
  pub there : r.number < length edges
  pub rise : r.rise ≡ rise (edge_at edges r.number)
  pub run : r.run ≡ run (edge_at edges r.number)

abbrev pub numbers_of : List Ray → List ℕ
numbers_of rs = map (λ r. r.number) rs

abbrev pub leans_left : Ray → Ray → Bool
leans_left r s = int_lt (r.run *ℤ s.rise) (s.run *ℤ r.rise)

-- whether they coincide
abbrev pub is_parallel : Ray → Ray → Bool
is_parallel r s = int_eq (r.run *ℤ s.rise) (s.run *ℤ r.rise)

abbrev pub comes_first : Ray → Ray → Bool
comes_first r s = leans_left r s || (not (leans_left s r) && nat_lt r.number s.number)

-- neighbours that coincide, together
abbrev pub bundles_of : List Ray → List (List ℕ)
bundles_of [] = []
bundles_of (r ∷ []) = (r.number ∷ []) ∷ []
bundles_of (r ∷ (s ∷ rs)) = if is_parallel r s then joined r.number (bundles_of (s ∷ rs)) else (r.number ∷ [])
    ∷ bundles_of (s ∷ rs)

-- whether the ray doesn't coincide with the next, or is the last
abbrev pub ends_bundle : List Ray → ℕ → Bool
ends_bundle [] i = true
ends_bundle (r ∷ []) i = true
ends_bundle (r ∷ (s ∷ rs)) zero = not (is_parallel r s)
ends_bundle (r ∷ (s ∷ rs)) (suc i) = ends_bundle (s ∷ rs) i

-- rays from left to right
abbrev pub AreSorted : List Ray → Type 0
AreSorted [] = Unit {0}
AreSorted (r ∷ []) = Unit {0}
AreSorted (r ∷ (s ∷ rs)) = (comes_first s r ≡ false) × AreSorted (s ∷ rs)
