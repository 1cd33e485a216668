-- The front of a sweep between two heights: its bundles from left to right, each with the shape's value to its
-- left and the place where its open piece began.
use Rattle.std.specs.Prelude.{Bool, ◌≡◌, ⊤, List, [], ◌∷◌, ◌++◌, map, ℕ}
use Rattle.scad_geom.specs.declared.level.Level.{Level}
use Rattle.scad_geom.specs.declared.level.LeafEdge.{LeafEdge}
use Rattle.scad_geom.specs.declared.shape.Shape.{Shape}
use Rattle.slice_bundles.specs.Bundles.{edge_at, AreBundles}
use Rattle.slice_pieces.specs.declared.piece.Spot.{Spot}
use Rattle.slice_border.specs.Pieces.{spot_on}
use Rattle.slice_border.specs.Beside.{left_value}
use Rattle.sweep_laws.specs.Ways.{Way, way_between}

pub record Strand : Type 0 where
  pub bundle : List ℕ
  pub left : Bool
  pub start : Spot

abbrev pub bundles_of : List Strand → List (List ℕ)
bundles_of ss = map (λ s. s.bundle) ss

-- the value to the left of the first strand, or that to the right of all where there are none
abbrev pub value_before : List Strand → Bool → Bool
value_before [] right = right
value_before (s ∷ ss) right = s.left

-- ---- the ways of strands: where the values on both sides of a bundle differ, named by its least edge
abbrev pub way_up : List LeafEdge → Level → Bool → Bool → Spot → List ℕ → List Way
way_up es u left right start [] = []
way_up es u left right start (k ∷ ks) = way_between left right start (spot_on (edge_at es k) u) k

-- up to a height, each from where it began; the value to the right of the last is given
abbrev pub ways_up : List LeafEdge → Level → Bool → List Strand → List Way
ways_up es u right [] = []
ways_up es u right (s ∷ ss) = way_up es u s.left (value_before ss right) s.start s.bundle ++ ways_up es u right ss

-- from one height to the next
abbrev pub way_from : List LeafEdge → Level → Level → Bool → Bool → List ℕ → List Way
way_from es l u left right [] = []
way_from es l u left right (k ∷ ks) = way_between left right (spot_on (edge_at es k) l) (spot_on (edge_at es k) u) k

abbrev pub ways_from : List LeafEdge → Level → Level → Bool → List Strand → List Way
ways_from es l u right [] = []
ways_from es l u right (s ∷ ss) = way_from es l u s.left (value_before ss right) s.bundle ++ ways_from es l u right ss

-- ---- a front
-- each strand's value is the shape's
abbrev pub AreValued : List LeafEdge → Shape → List Strand → Type 0
AreValued es shape [] = ⊤
AreValued es shape (s ∷ ss) = (s.left ≡ left_value es shape (bundles_of (s ∷ ss))) × AreValued es shape ss

pub record IsFront (es : List LeafEdge) (shape : Shape) (l u : Level) (front : List Strand) : Type 0 where
  pub bundles : AreBundles es l u (bundles_of front)
  pub values : AreValued es shape front
