-- A sweep over all heights, and what it gives.
use Rattle.std.specs.Prelude.{◌≡◌, List, [], ◌∷◌, ◌++◌}
use Rattle.std.specs.List.Sorted.{IsPermutation}
use Rattle.scad_geom.specs.declared.point.Pt.{Pt}
use Rattle.scad_geom.specs.declared.point.Edge.{Edge}
use Rattle.scad_geom.specs.declared.level.Level.{Level}
use Rattle.scad_geom.specs.declared.level.LeafEdge.{LeafEdge}
use Rattle.scad_geom.specs.declared.shape.Shape.{Shape}
use Rattle.scad_geom.specs.Segment.{segments}
use Rattle.scad_geom.specs.Balance.{IsBalanced}
use Rattle.scad_geom.specs.Leaves.{AreLeavesBalanced}
use Rattle.slice_events.specs.Levels.{AreLevels}
use Rattle.slice_pieces.specs.declared.piece.Piece.{Piece}
use Rattle.slice_pieces.specs.Merging.{AreMerged}
use Rattle.slice_pieces.specs.Rounding.{rounded_edges}
use Rattle.slice_pieces.specs.Cancelling.{AreCancelled}
use Rattle.slice_loops.specs.Outlines.{AreOutlines}
use Rattle.slice_border.specs.Pieces.{ArePieces}
use Rattle.slice_border.specs.Outlines.{AreOutlinesOf}
use Rattle.sweep_laws.specs.Ways.{Way, pieces_of}
use Rattle.sweep_laws.specs.Fronts.{Strand, IsFront}
use Rattle.sweep_laws.specs.Crossing.{Place, all_above, all_closed, IsCrossing}

-- from the front below the first of some heights over all of them, a list of places for each
abbrev pub Sweeps : List LeafEdge → Shape → List Strand → List Level → List (List Place) → Type 0
Sweeps es shape below [] [] = below ≡ []
Sweeps es shape below [] (c ∷ cs) = ⊥
Sweeps es shape below (l ∷ ls) [] = ⊥
Sweeps es shape below (l ∷ []) (c ∷ cs) = IsCrossing es l l below [] c × (cs ≡ [])
Sweeps es shape below (l ∷ (u ∷ ls)) (c ∷ cs) = IsCrossing es l u below (all_above c) c
    × IsFront es shape l u (all_above c)
    × Sweeps es shape (all_above c) (u ∷ ls) cs

-- the ways that end at some place
abbrev pub closed_in : List (List Place) → List Way
closed_in [] = []
closed_in (c ∷ cs) = all_closed c ++ closed_in cs

-- a sweep over some levels has come to a front below those that are left, and so far these ways have ended: in
-- whatever way it goes on over those, it's one over all
abbrev pub HasSweptTo : List LeafEdge → Shape → List Level → List Level → List Strand → List Way → Type 0
HasSweptTo es shape levels left front closed =
    (later : List (List Place)) → Sweeps es shape front left later
    → (crossings : List (List Place)) × Sweeps es shape [] levels crossings
    × (closed_in crossings ≡ closed ++ closed_in later)

-- edges are those of merged pieces of a border, in any order
pub record AreMergedEdges (es : List LeafEdge) (shape : Shape) (given : List Edge) : Type 0 where
  pub pieces : List Piece
  pub merged : List Piece
  pub are_pieces : ArePieces es shape pieces
  pub are_merged : AreMerged pieces merged
  pub are_given : IsPermutation (rounded_edges merged) given

-- ---- the laws
-- What ends in the course of a sweep over the levels of an edge list makes, with rounded ends, the
-- edges of merged pieces.
abbrev pub SweepsMerge : Type 0
SweepsMerge =
    (es : List LeafEdge) (shape : Shape) (levels : List Level) (crossings : List (List Place)) (given : List Edge)
    → AreLevels es levels → Sweeps es shape [] levels crossings
    → IsPermutation (rounded_edges (pieces_of (closed_in crossings))) given → AreMergedEdges es shape given

-- From such edges, in whatever order, cancelling and joining make the outlines.
abbrev pub MergedEdgesMakeOutlines : Type 0
MergedEdgesMakeOutlines =
    (es : List LeafEdge) (shape : Shape) (given left : List Edge) (outlines : List (List Pt))
    → AreMergedEdges es shape given → AreCancelled given left → AreOutlines left outlines
    → AreOutlinesOf es shape outlines

-- Where the edges of each leaf are balanced, as many of them start at each point as end there.
abbrev pub MergedEdgesAreBalanced : Type 0
MergedEdgesAreBalanced =
    (es : List LeafEdge) (shape : Shape) (given : List Edge) → AreLeavesBalanced es → AreMergedEdges es shape given
    → IsBalanced (segments given)

-- ---- height by height
-- A sweep begins below all levels,
abbrev pub SweepsBegin : Type 0
SweepsBegin = (es : List LeafEdge) (shape : Shape) (levels : List Level) → HasSweptTo es shape levels levels [] []

-- is lifted over a height that isn't the last,
abbrev pub SweepsGoOn : Type 0
SweepsGoOn =
    (es : List LeafEdge) (shape : Shape) (levels : List Level) (l u : Level) (ls : List Level) (below : List Strand)
    (closed : List Way) (places : List Place)
    → HasSweptTo es shape levels (l ∷ (u ∷ ls)) below closed → IsCrossing es l u below (all_above places) places
    → IsFront es shape l u (all_above places)
    → HasSweptTo es shape levels (u ∷ ls) (all_above places) (closed ++ all_closed places)

-- and ends with the last; where there are no levels it ends at once.
pub record SweepsEnd : Type 0 where
  pub last : (es : List LeafEdge) (shape : Shape) (levels : List Level) (l : Level) (below : List Strand)
      (closed : List Way) (places : List Place) (given : List Edge) → AreLevels es levels
      → HasSweptTo es shape levels (l ∷ []) below closed → IsCrossing es l l below [] places
      → IsPermutation (rounded_edges (pieces_of (closed ++ all_closed places))) given → AreMergedEdges es shape given
  pub none : (es : List LeafEdge) (shape : Shape) (given : List Edge) → AreLevels es [] → IsPermutation [] given
      → AreMergedEdges es shape given
