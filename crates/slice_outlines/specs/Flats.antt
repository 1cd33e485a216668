-- Flat edges, by height and then from left to right.
use Rattle.std.specs.Prelude.{◌≡◌, ◌⊎◌, ⊤, ℤ, ◌<ℤ◌, List, [], ◌∷◌, map, ℕ, ◌+◌, ◌<◌, ◌≤ℤ◌, length, if◌then◌else◌, ◌*ℤ◌}
use Rattle.std.specs.Int.{int_max}
use Rattle.std.specs.Ordering.{int_eq, int_cmp, ordering_then}
use Rattle.std.specs.declared.cmp.Ordering.{Ordering}
use Rattle.std.specs.List.{AllByRecursion}
use Rattle.std.specs.List.Sorted.{IsPermutation, IsSorted}
use Rattle.scad_geom.specs.declared.level.Level.{Level}
use Rattle.scad_geom.specs.declared.level.LeafEdge.{LeafEdge}
use Rattle.slice_bundles.specs.Bundles.{edge_at}
use Rattle.slice_pieces.specs.declared.piece.Spot.{Spot}
use Rattle.slice_border.specs.Pieces.{whole_spot, IsLeft}
use Rattle.slice_outlines.specs.declared.flat.Flat.{Flat}

-- the flat edge of its number, its ends from left to right
pub record IsFlatOf (es : List LeafEdge) (f : Flat) : Type 0 where
  pub there : f.number < length es
  pub height : (edge_at es f.number).a.y ≡ f.y
  pub flat : (edge_at es f.number).b.y ≡ f.y
  pub order : f.left ≤ℤ f.right
  pub ends : ((edge_at es f.number).a.x ≡ f.left × (edge_at es f.number).b.x ≡ f.right)
      ⊎ ((edge_at es f.number).a.x ≡ f.right × (edge_at es f.number).b.x ≡ f.left)

-- the numbers of the flat edges of a list, counted from the first number on
abbrev pub flat_numbers : ℕ → List LeafEdge → List ℕ
flat_numbers k [] = []
flat_numbers k (e ∷ es) = if int_eq e.edge.a.y e.edge.b.y then k ∷ flat_numbers (k + 1) es else flat_numbers (k + 1) es

abbrev pub numbers_of : List Flat → List ℕ
numbers_of fs = map (λ f. f.number) fs

-- a flat edge that lies on a height
abbrev pub LiesOn : Level → Flat → Type 0
LiesOn l f = f.y *ℤ l.d ≡ l.n

-- by height, then from left to right
abbrev pub flat_cmp : Flat → Flat → Ordering
flat_cmp e f = ordering_then (int_cmp e.y f.y) (int_cmp e.left f.left)

-- all flat edges of a list, in order
pub record AreFlats (es : List LeafEdge) (fs : List Flat) : Type 0 where
  pub all : IsPermutation (flat_numbers 0 es) (numbers_of fs)
  pub each : AllByRecursion (IsFlatOf es) fs
  pub sorted : IsSorted flat_cmp fs

-- the first of these doesn't lie on a height
abbrev pub IsOff : Level → List Flat → Type 0
IsOff l [] = ⊤
IsOff l (f ∷ fs) = LiesOn l f → ⊥

-- one that lies to the right of a spot of its height, or to the left
abbrev pub LiesAside : Level → Spot → Flat → Type 0
LiesAside l s f = IsLeft s (whole_spot f.left l) ⊎ IsLeft (whole_spot f.right l) s

-- flat edges that are joined: each starts no farther to the right than the greatest end of those before it; the
-- greatest end of all is given
abbrev pub JoinOn : ℤ → List Flat → ℤ → Type 0
JoinOn most [] right = most ≡ right
JoinOn most (f ∷ fs) right = (f.left ≤ℤ most) × JoinOn (int_max most f.right) fs right

abbrev pub AreJoined : List Flat → ℤ → Type 0
AreJoined [] right = ⊥
AreJoined (f ∷ fs) right = JoinOn f.right fs right

-- the first of these starts to the right of an end
abbrev pub StartsBehind : ℤ → List Flat → Type 0
StartsBehind right [] = ⊤
StartsBehind right (f ∷ fs) = right <ℤ f.left
