-- The border between inside and outside of a shape over the leaves of an edge list, cut into directed pieces.
use Rattle.std.specs.Prelude.{Bool, true, false, ◌&&◌, ◌||◌, if◌then◌else◌, List, [], ◌∷◌, ◌++◌, ℕ, Option, None, Some, ◌≡◌, ◌⊎◌, ⊤, ℤ, pos, ◌+ℤ◌, ◌*ℤ◌, int_lt, int_le, unsigned_abs}
use Rattle.std.specs.List.{AllByRecursion, position}
use Rattle.std.specs.Ordering.{int_eq}
use Rattle.slice_pieces.specs.Spots.{point_of}
use Rattle.scad_geom.specs.declared.point.Edge.{Edge}
use Rattle.scad_geom.specs.declared.level.Level.{Level}
use Rattle.scad_geom.specs.declared.level.LeafEdge.{LeafEdge}
use Rattle.scad_geom.specs.declared.shape.Shape.{Shape}
use Rattle.scad_geom.specs.Line.{low, high, rise, x_at}
use Rattle.scad_geom.specs.Point.{Point}
use Rattle.scad_geom.specs.Level.{IsLower, IsSameHeight}
use Rattle.scad_geom.specs.Shape.{is_in_by}
use Rattle.scad_geom.specs.Sign.{is_zero}
use Rattle.slice_events.specs.Levels.{AreLevels}
use Rattle.slice_bundles.specs.Bundles.{edge_at, AreBundles}
use Rattle.slice_pieces.specs.declared.piece.Spot.{Spot}
use Rattle.slice_pieces.specs.declared.piece.Piece.{Piece}

-- where the line of an edge that isn't flat passes a height
abbrev pub spot_on : Edge → Level → Spot
spot_on e at = record { at = at; x = x_at e at.n at.d; run = unsigned_abs (rise e) }

-- where a whole x lies at a height
abbrev pub whole_spot : ℤ → Level → Spot
whole_spot x at = record { at = at; x = x *ℤ at.d; run = 1 }

-- the piece between two spots, where the values on its left (on the way from s to t) and on its right differ: directed
-- with the inside on its left
abbrev pub piece_between : Bool → Bool → Spot → Spot → ℕ → List Piece
piece_between true true s t name = []
piece_between true false s t name = record { from = s; to = t; edge = name } ∷ []
piece_between false true s t name = record { from = t; to = s; edge = name } ∷ []
piece_between false false s t name = []

-- ---- between two levels
-- half way between two heights
abbrev pub middle : Level → Level → Level
middle l u = record { n = l.n *ℤ u.d +ℤ u.n *ℤ l.d; d = pos 2 *ℤ (l.d *ℤ u.d) }

-- the piece of a bundle, where the shape's values hard by it on the left and on the right differ at half height. Its name is
-- the bundle's least edge number
abbrev pub bundle_piece : List LeafEdge → Shape → Level → Level → List ℕ → List Piece
bundle_piece edges shape l u [] = []
bundle_piece edges shape l u (k ∷ ks) =
    let p : Point = point_of (spot_on (edge_at edges k) (middle l u)) in
    piece_between (is_in_by true false edges shape p) (is_in_by true true edges shape p) (spot_on (edge_at edges k) l) (spot_on (edge_at edges k) u) k

abbrev pub slab_pieces : List LeafEdge → Shape → Level → Level → List (List ℕ) → List Piece
slab_pieces edges shape l u [] = []
slab_pieces edges shape l u (b ∷ bs) = bundle_piece edges shape l u b ++ slab_pieces edges shape l u bs

-- ---- on a level
-- whether an edge is flat and lies at a height
abbrev pub is_flat_at : Edge → Level → Bool
is_flat_at e at = is_zero (rise e) && int_eq (e.a.y *ℤ at.d) at.n

-- whether an edge that isn't flat meets a height
abbrev pub passes_at : Edge → Level → Bool
passes_at e at = int_lt (pos 0) (rise e) && (int_le ((low e).y *ℤ at.d) at.n && int_le at.n ((high e).y *ℤ at.d))

-- where an edge meets a height, a flat edge at both its ends
abbrev pub edge_spots : Edge → Level → List Spot
edge_spots e at = if is_flat_at e at then whole_spot e.a.x at ∷ (whole_spot e.b.x at ∷ []) else if passes_at e at then spot_on e at ∷ [] else []

-- where the edges of a list do
abbrev pub spots_at : List LeafEdge → Level → List Spot
spots_at [] at = []
spots_at (e ∷ es) at = edge_spots e.edge at ++ spots_at es at

-- the x of a spot as a number over its run: by it spots of one height go from left to right
abbrev pub across : Spot → Level
across s = record { n = s.x; d = pos s.run }

-- of two spots at one height: the first lies to the left; they are the same point
abbrev pub IsLeft : Spot → Spot → Type 0
IsLeft s t = IsLower (across s) (across t)

abbrev pub IsSameAcross : Spot → Spot → Type 0
IsSameAcross s t = IsSameHeight (across s) (across t)

abbrev pub GoRight : List Spot → Type 0
GoRight [] = ⊤
GoRight (s ∷ []) = ⊤
GoRight (s ∷ (t ∷ ss)) = IsLeft s t × GoRight (t ∷ ss)

abbrev pub HasSpot : List Spot → Spot → Type 0
HasSpot [] s = ⊥
HasSpot (t ∷ ts) s = IsSameAcross t s ⊎ HasSpot ts s

-- one of the list's spots
abbrev pub IsOneOf : List Spot → Spot → Type 0
IsOneOf [] s = ⊥
IsOneOf (t ∷ ts) s = (t ≡ s) ⊎ IsOneOf ts s

-- the distinct places where the edges meet a height, from left to right
pub record AreStops (edges : List LeafEdge) (at : Level) (stops : List Spot) : Type 0 where
  pub rightwards : GoRight stops
  pub sound : AllByRecursion (IsOneOf (spots_at edges at)) stops
  pub complete : AllByRecursion (HasSpot stops) (spots_at edges at)

-- whether a flat edge covers the stretch between two spots of its height
abbrev pub covers : Spot → Spot → LeafEdge → Bool
covers s t e = is_flat_at e.edge s.at
    && ((int_le (e.edge.a.x *ℤ (s.at.d *ℤ pos s.run)) s.x && int_le t.x (e.edge.b.x *ℤ (t.at.d *ℤ pos t.run)))
    || (int_le (e.edge.b.x *ℤ (s.at.d *ℤ pos s.run)) s.x && int_le t.x (e.edge.a.x *ℤ (t.at.d *ℤ pos t.run))))

-- the piece between two neighbouring stops, where the shape's values just above and just below differ. Its name is the
-- least number of a flat edge that covers it
abbrev pub stretch_piece : List LeafEdge → Shape → Spot → Spot → Option ℕ → List Piece
stretch_piece edges shape s t None = []
stretch_piece edges shape s t (Some name) = piece_between (is_in_by true true edges shape (point_of s)) (is_in_by false true edges shape (point_of s)) s t name

abbrev pub flat_pieces : List LeafEdge → Shape → List Spot → List Piece
flat_pieces edges shape [] = []
flat_pieces edges shape (s ∷ []) = []
flat_pieces edges shape (s ∷ (t ∷ ss)) = stretch_piece edges shape s t (position (covers s t) edges) ++ flat_pieces edges shape (t ∷ ss)

-- ---- all pieces
-- level by level upwards: the pieces on a level, then those between it and the next, each group from left to right
abbrev pub AreLevelPieces : List LeafEdge → Shape → List Level → List Piece → Type 0
AreLevelPieces edges shape [] pieces = pieces ≡ []
AreLevelPieces edges shape (l ∷ []) pieces = (stops : List Spot) × AreStops edges l stops × (pieces ≡ flat_pieces edges shape stops)
AreLevelPieces edges shape (l ∷ (u ∷ ls)) pieces =
    (stops : List Spot) × (bundles : List (List ℕ)) × (rest : List Piece) × AreStops edges l stops × AreBundles edges l u bundles
    × AreLevelPieces edges shape (u ∷ ls) rest × (pieces ≡ flat_pieces edges shape stops ++ slab_pieces edges shape l u bundles ++ rest)

-- the pieces of the border of a shape over the leaves of an edge list
pub record ArePieces (edges : List LeafEdge) (shape : Shape) (pieces : List Piece) : Type 0 where
  pub levels : List Level
  pub are_levels : AreLevels edges levels
  pub are_pieces : AreLevelPieces edges shape levels pieces
