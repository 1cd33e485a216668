-- The shape's values beside bundles.
use Rattle.std.specs.Prelude.{Bool, true, false, if◌then◌else◌, List, [], ◌∷◌, ℕ, ◌<◌, ◌≤◌, ◌≡◌, length, slice_index_or, pos, ◌<ℤ◌}
use Rattle.std.specs.List.{AllByRecursion, concat}
use Rattle.scad_geom.specs.declared.level.Level.{Level}
use Rattle.scad_geom.specs.declared.level.LeafEdge.{LeafEdge}
use Rattle.scad_geom.specs.declared.shape.Shape.{Shape}
use Rattle.scad_geom.specs.Shape.{is_in_by}
use Rattle.scad_geom.specs.Line.{rise, left_of}
use Rattle.scad_geom.specs.Point.{Point}
use Rattle.scad_geom.specs.Winding.{is_beyond}
use Rattle.slice_bundles.specs.Bundles.{no_edge, edge_at}
use Rattle.slice_pieces.specs.declared.piece.Spot.{Spot}
use Rattle.slice_pieces.specs.Spots.{point_of}
use Rattle.slice_border.specs.Tally.{is_held, headings}

-- whether a shape holds what lies to the left of these bundles and of no others
abbrev pub left_value : List LeafEdge → Shape → List (List ℕ) → Bool
left_value edges shape bundles = is_held (λ leaf. headings edges leaf (concat bundles)) shape

-- bundles of a list's edges, no more than it has
pub record AreMembers (edges : List LeafEdge) (bundles : List (List ℕ)) : Type 0 where
  pub there : AllByRecursion (λ k. k < length edges) (concat bundles)
  pub few : length (concat bundles) ≤ length edges

-- whether the first of a bundle's edges is one of the list that isn't flat
abbrev pub RisesFirst : List LeafEdge → List ℕ → Type 0
RisesFirst edges [] = Unit {0}
RisesFirst edges (k ∷ ks) = (k < length edges) × (pos 0 <ℤ rise (edge_at edges k))

-- whether a point lies to the left of the edge of a number, hard by it on a side
abbrev pub lies_left : List LeafEdge → Bool → Point → ℕ → Bool
lies_left edges right p k = is_beyond right (left_of (slice_index_or edges k no_edge).edge p.x p.y p.d)

-- the first of a bundle that lies to the right of a point, and those after it
abbrev pub passing : List LeafEdge → Bool → Point → List (List ℕ) → List (List ℕ)
passing edges right p [] = []
passing edges right p ([] ∷ bs) = passing edges right p bs
passing edges right p ((k ∷ ks) ∷ bs) = if lies_left edges right p k then (k ∷ ks)
    ∷ bs else passing edges right p bs

-- whether a bundle is the first of these
abbrev pub is_right_of : List LeafEdge → Point → List ℕ → Bool
is_right_of edges p [] = false
is_right_of edges p (k ∷ ks) = lies_left edges true p k

-- hard by each spot of a level, above or below it, the shape has the value to the left of the bundles that lie to the
-- right of the spot
abbrev pub TellBeside : Bool → List LeafEdge → Shape → Level → List (List ℕ) → Type 0
TellBeside above edges shape at bundles = (s : Spot) → s.at ≡ at → 0 < s.run
    → is_in_by above true edges shape (point_of s)
    ≡ left_value edges shape (passing edges true (point_of s) bundles)
