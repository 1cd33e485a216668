-- Outlines are as near to the origin as the edges that they are made of: the ends of pieces lie on edges, rounding
-- doesn't take them further, and merging, cancelling and joining make no points.
use Rattle.std.proofs.Common.{◌≡◌, ◌*◌, ◌≤◌, Bool, true, false, cond, List, [], ◌∷◌, ◌++◌, map, filter}
use Rattle.std.proofs.Common.{flat_map, refl, sym, ◌∙◌, subst, arith}
use lib.IntN.{ℤ, pos, ◌+ℤ◌, ◌-ℤ◌, ◌*ℤ◌}
use lib.Signed.{◌<ℤ◌, ◌≤ℤ◌}
use Rattle.std.specs.Prelude.{All, unsigned_abs}
use Rattle.std.specs.Int.{int_div_euclid}
use Rattle.std.specs.List.{AllByRecursion}
use Rattle.std.proofs.lemmas.Int.{ints}
use Rattle.std.proofs.lemmas.List.Elements.{recursion_from_All, All-from_recursion}
use Rattle.std.proofs.lemmas.List.Sorted.{All-permutation}
use Rattle.scad_geom.specs.declared.point.Pt.{Pt}
use Rattle.scad_geom.specs.declared.point.Edge.{Edge}
use Rattle.scad_geom.specs.declared.level.LeafEdge.{LeafEdge}
use Rattle.scad_geom.specs.declared.shape.Shape.{Shape}
use Rattle.scad_geom.specs.Limits.{point_limit}
use Rattle.scad_geom.specs.Loop.{path, sides}
use Rattle.scad_geom.specs.Point.{Point, whole}
use Rattle.scad_geom.specs.Rounding.{half_down}
use Rattle.scad_geom.specs.Within.{IsWithin, IsEdgeWithin}
use Rattle.scad_geom.proofs.Nearest.{rounds}
use Rattle.scad_geom.proofs.Order.{front, back}
use Rattle.scad_geom.proofs.Ring.{ring, num, ◌⊕◌, ◌⊖◌, ◌⊗◌, v0, v1, v2, v3}
use Rattle.scad_geom.proofs.Signs.{at_least_mul, at_least_left, sum_at_least}
use Rattle.winding_laws.specs.Edges.{turned, rounded_edge, has_length}
use Rattle.winding_laws.specs.Points.{IsOn}
use Rattle.slice_bundles.specs.Bundles.{no_edge, edge_at}
use Rattle.slice_pieces.specs.declared.piece.Piece.{Piece}
use Rattle.slice_pieces.specs.Spots.{point_of}
use Rattle.slice_pieces.specs.Pieces.{way_of, ways_of}
use Rattle.slice_pieces.specs.Cancelling.{AreCancelled}
use Rattle.slice_pieces.specs.Rounding.{rounded_edges}
use Rattle.slice_border.specs.Outlines.{AreOutlinesOf}
use Rattle.slice_border.proofs.PieceWinding.{IsPlaced, placed_proper, merged_placed}
use Rattle.slice_border.proofs.Membership.{pieces_are_placed}
use Rattle.slice_border.proofs.Sides.{OfPoints, OfAllPoints, outlines_have}
use Rattle.scad_tree.specs.Sections.{tree_section}
use Rattle.slice_layer.proofs.Surfaces.{section_in_range}
use Rattle.slice_layer.specs.Within.{OutlinesAreWithin}

-- ---- the points of a segment
-- a quotient is at most the limit in size
abbrev IsSmall : ℤ → ℤ → Type 0
IsSmall z d = unsigned_abs z ≤ point_limit * unsigned_abs d

-- it is so by its distance from both ends
small_by : (z d : ℤ) → pos 0 <ℤ d → pos 0 ≤ℤ (pos 1000000 *ℤ d -ℤ z) → pos 0 ≤ℤ (pos 1000000 *ℤ d +ℤ z) → IsSmall z d
small_by z d h below above = omega (arith, ints, h, below, above)

below_limit : (z : ℤ) → unsigned_abs z ≤ point_limit → pos 0 ≤ℤ (pos 1000000 -ℤ z)
below_limit z h = omega (arith, ints, h)

above_limit : (z : ℤ) → unsigned_abs z ≤ point_limit → pos 0 ≤ℤ (pos 1000000 +ℤ z)
above_limit z h = omega (arith, ints, h)

module _ (a b k s t z d : ℤ) (first : pos 0 ≤ℤ s) (second : pos 0 ≤ℤ t) (positive : pos 0 <ℤ k)
    (x : k *ℤ z ≡ s *ℤ a +ℤ t *ℤ b) (w : k *ℤ d ≡ s *ℤ pos 1 +ℤ t *ℤ pos 1) where
  gap_below : (pos 1000000 *ℤ d -ℤ z) *ℤ k ≡ s *ℤ (pos 1000000 -ℤ a) +ℤ t *ℤ (pos 1000000 -ℤ b)
  gap_below =
      ring (k ∷ d ∷ z ∷ []) ((num (pos 1000000) ⊗ v1 ⊖ v2) ⊗ v0) (num (pos 1000000) ⊗ (v0 ⊗ v1) ⊖ v0 ⊗ v2) refl
      ∙ (λ i. pos 1000000 *ℤ w i -ℤ x i)
      ∙ ring (s ∷ t ∷ a ∷ b ∷ []) (num (pos 1000000) ⊗ (v0 ⊗ num (pos 1) ⊕ v1 ⊗ num (pos 1)) ⊖ (v0 ⊗ v2 ⊕ v1 ⊗ v3))
      (v0 ⊗ (num (pos 1000000) ⊖ v2) ⊕ v1 ⊗ (num (pos 1000000) ⊖ v3)) refl

  gap_above : (pos 1000000 *ℤ d +ℤ z) *ℤ k ≡ s *ℤ (pos 1000000 +ℤ a) +ℤ t *ℤ (pos 1000000 +ℤ b)
  gap_above =
      ring (k ∷ d ∷ z ∷ []) ((num (pos 1000000) ⊗ v1 ⊕ v2) ⊗ v0) (num (pos 1000000) ⊗ (v0 ⊗ v1) ⊕ v0 ⊗ v2) refl
      ∙ (λ i. pos 1000000 *ℤ w i +ℤ x i)
      ∙ ring (s ∷ t ∷ a ∷ b ∷ []) (num (pos 1000000) ⊗ (v0 ⊗ num (pos 1) ⊕ v1 ⊗ num (pos 1)) ⊕ (v0 ⊗ v2 ⊕ v1 ⊗ v3))
      (v0 ⊗ (num (pos 1000000) ⊕ v2) ⊕ v1 ⊗ (num (pos 1000000) ⊕ v3)) refl

  mean_small : pos 0 <ℤ d → unsigned_abs a ≤ point_limit → unsigned_abs b ≤ point_limit → IsSmall z d
  mean_small above small_a small_b =
      small_by z d above
      (at_least_left (pos 1000000 *ℤ d -ℤ z) k positive
      (subst (λ (n : ℤ). pos 0 ≤ℤ n) (sym gap_below)
      (sum_at_least (s *ℤ (pos 1000000 -ℤ a)) (t *ℤ (pos 1000000 -ℤ b))
      (at_least_mul s (pos 1000000 -ℤ a) first (below_limit a small_a))
      (at_least_mul t (pos 1000000 -ℤ b) second (below_limit b small_b)))))
      (at_least_left (pos 1000000 *ℤ d +ℤ z) k positive
      (subst (λ (n : ℤ). pos 0 ≤ℤ n) (sym gap_above)
      (sum_at_least (s *ℤ (pos 1000000 +ℤ a)) (t *ℤ (pos 1000000 +ℤ b))
      (at_least_mul s (pos 1000000 +ℤ a) first (above_limit a small_a))
      (at_least_mul t (pos 1000000 +ℤ b) second (above_limit b small_b)))))

-- both coordinates of a point are
record IsSmallPoint (p : Point) : Type 0 where
  x : IsSmall p.x p.d
  y : IsSmall p.y p.d

points_small : (e : Edge) → IsEdgeWithin point_limit e → OfPoints IsSmallPoint e
points_small e h p above o = record {
  x = mean_small e.a.x e.b.x o.k o.s o.t p.x p.d o.first o.second o.positive o.x o.d above h.a.x h.b.x;
  y = mean_small e.a.y e.b.y o.k o.s o.t p.y p.d o.first o.second o.positive o.y o.d above h.a.y h.b.y;
}

-- ---- rounded pieces
half_down_small : (n d : ℤ) → pos 0 <ℤ d → IsSmall n d → unsigned_abs (half_down n d) ≤ point_limit
half_down_small n d above small =
    let r = rounds n d (int_div_euclid (d -ℤ pos 2 *ℤ n) (pos 2 *ℤ d)) point_limit above small refl in
    subst (λ (z : ℤ). unsigned_abs z ≤ point_limit) r.value r.size

module _ (es : List LeafEdge) (range : All (λ e. IsEdgeWithin point_limit e.edge) es) where
  piece_within : (q : Piece) → IsPlaced es q → IsEdgeWithin point_limit (rounded_edge (way_of q))
  piece_within q placed =
      let e : Edge = edge_at es q.edge in
      let in_range : IsEdgeWithin point_limit e = range q.edge no_edge placed.there in
      let proper = placed_proper es q placed in
      let from = points_small e in_range (point_of q.from) proper.from placed.on.from in
      let to = points_small e in_range (point_of q.to) proper.to placed.on.to in
      record {
        a =
            record {
              x =
                  half_down_small (point_of q.from).x (point_of q.from).d proper.from from.x;
              y =
                  half_down_small (point_of q.from).y (point_of q.from).d proper.from from.y;
            };
        b =
            record {
              x =
                  half_down_small (point_of q.to).x (point_of q.to).d proper.to to.x;
              y =
                  half_down_small (point_of q.to).y (point_of q.to).d proper.to to.y;
            };
      }

  pieces_within : (qs : List Piece) → AllByRecursion (IsPlaced es) qs
      → AllByRecursion (IsEdgeWithin point_limit) (map rounded_edge (ways_of qs))
  pieces_within [] h = tt
  pieces_within (q ∷ qs) h = (piece_within q h.0, pieces_within qs h.1)

with_length : (fs : List Edge) → AllByRecursion (IsEdgeWithin point_limit) fs
    → AllByRecursion (IsEdgeWithin point_limit) (filter has_length fs)
with_length [] h = tt
with_length (f ∷ fs) h = by_test (has_length f) (with_length fs h.1)
  where
    by_test : (t : Bool) → AllByRecursion (IsEdgeWithin point_limit) (filter has_length fs)
        → AllByRecursion (IsEdgeWithin point_limit) (cond t (f ∷ filter has_length fs) (filter has_length fs))
    by_test true r = (h.0, r)
    by_test false r = r

left_within : (edges left : List Edge) → AreCancelled edges left → AllByRecursion (IsEdgeWithin point_limit) edges
    → AllByRecursion (IsEdgeWithin point_limit) left
left_within edges left c h =
    front (IsEdgeWithin point_limit) left (c.pairs ++ map turned c.pairs)
    (recursion_from_All (IsEdgeWithin point_limit) (left ++ (c.pairs ++ map turned c.pairs))
    (All-permutation (IsEdgeWithin point_limit) edges (left ++ (c.pairs ++ map turned c.pairs)) c.taken
    (All-from_recursion (IsEdgeWithin point_limit) edges h)))

all_small : (fs : List Edge) → AllByRecursion (IsEdgeWithin point_limit) fs → OfAllPoints IsSmallPoint fs
all_small [] h = tt
all_small (f ∷ fs) h = (points_small f h.0, all_small fs h.1)

-- ---- vertices
starts_on : (a b : Pt) → IsOn (whole a) (whole b) (whole a)
starts_on a b = record {
  k = pos 1;
  s = pos 1;
  t = pos 0;
  positive = omega (arith, ints);
  first = omega (arith, ints);
  second = omega (arith, ints);
  some = omega (arith, ints);
  x = ring (a.x ∷ b.x ∷ []) (num (pos 1) ⊗ v0) (num (pos 1) ⊗ v0 ⊕ num (pos 0) ⊗ v1) refl;
  y = ring (a.y ∷ b.y ∷ []) (num (pos 1) ⊗ v0) (num (pos 1) ⊗ v0 ⊕ num (pos 0) ⊗ v1) refl;
  d = refl;
}

start_within : (a b : Pt) → OfPoints IsSmallPoint (record { a = a; b = b }) → IsWithin point_limit a
start_within a b h =
    let small : IsSmallPoint (whole a) = h (whole a) (omega (arith, ints)) (starts_on a b) in
    let x : unsigned_abs a.x ≤ point_limit * unsigned_abs (pos 1) = small.x in
    let y : unsigned_abs a.y ≤ point_limit * unsigned_abs (pos 1) = small.y in
    record { x = omega (arith, x); y = omega (arith, y) }

path_within : (from : Pt) (ps : List Pt) (last : Pt) → OfAllPoints IsSmallPoint (path from ps last)
    → AllByRecursion (IsWithin point_limit) (from ∷ ps)
path_within from [] last h = (start_within from last h.0, tt)
path_within from (p ∷ ps) last h = (start_within from p h.0, path_within p ps last h.1)

loop_within : (l : List Pt) → OfAllPoints IsSmallPoint (sides l) → AllByRecursion (IsWithin point_limit) l
loop_within [] h = tt
loop_within (p ∷ ps) h = path_within p ps p h

loops_within : (ls : List (List Pt)) → OfAllPoints IsSmallPoint (flat_map sides ls)
    → AllByRecursion (λ l. All (IsWithin point_limit) l) ls
loops_within [] h = tt
loops_within (l ∷ ls) h = (
  All-from_recursion (IsWithin point_limit) l
      (loop_within l (front (OfPoints IsSmallPoint) (sides l) (flat_map sides ls) h)),
  loops_within ls (back (OfPoints IsSmallPoint) (sides l) (flat_map sides ls) h),
)

-- the outlines of a shape over edges within the limit
pub shapes_within : (es : List LeafEdge) → All (λ e. IsEdgeWithin point_limit e.edge) es
    → (shape : Shape) (outlines : List (List Pt)) → AreOutlinesOf es shape outlines
    → All (λ l. All (IsWithin point_limit) l) outlines
shapes_within es range shape outlines h =
    let made = h.are_made in
    let placed =
    merged_placed es h.pieces made.merged made.are_merged (pieces_are_placed es shape h.pieces h.are_pieces) in
    let within = left_within (rounded_edges made.merged) made.left made.are_left
    (with_length (map rounded_edge (ways_of made.merged))
    (pieces_within es range made.merged (recursion_from_All (IsPlaced es) made.merged placed)))
    in
    All-from_recursion (λ l. All (IsWithin point_limit) l) outlines
    (loops_within outlines
    (outlines_have IsSmallPoint made.left outlines made.are_outlines (all_small made.left within)))

pub outlines_are_within : OutlinesAreWithin
outlines_are_within layer h s outlines solids a =
    shapes_within (tree_section layer h s) (section_in_range layer h s solids) a.shape outlines a.are_outlines
