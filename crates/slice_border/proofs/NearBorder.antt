-- Each point of each side of a shape's outlines lies less than one from a border point: rounding moves a point by at
-- most one half, and beside each point of a piece lies a border point within a quarter.
use Rattle.std.proofs.Common.{Bool, true, false, cond, inl, inr, List, [], ◌∷◌, ◌++◌, get_or, map, filter, flat_map, arith}
use lib.IntN.{ℤ, pos, ◌+ℤ◌, ◌-ℤ◌, ◌*ℤ◌}
use lib.Signed.{◌<ℤ◌, ◌≤ℤ◌}
use Rattle.std.specs.Prelude.{All}
use Rattle.std.specs.List.{AllByRecursion}
use Rattle.std.proofs.lemmas.Int.{ints}
use Rattle.std.proofs.lemmas.List.Elements.{All-cons, All-head, All-tail, recursion_from_All, All-from_recursion}
use Rattle.std.proofs.lemmas.List.Sorted.{All-permutation}
use Rattle.scad_base.proofs.Products.{positive_product}
use Rattle.scad_geom.specs.declared.point.Edge.{Edge}
use Rattle.scad_geom.specs.declared.level.LeafEdge.{LeafEdge}
use Rattle.scad_geom.specs.declared.shape.Shape.{Shape}
use Rattle.scad_geom.specs.Point.{Point, whole}
use Rattle.scad_geom.specs.Loop.{sides}
use Rattle.scad_geom.proofs.Order.{front}
use Rattle.winding_laws.specs.Region.{square, box}
use Rattle.winding_laws.specs.Nearness.{IsNear}
use Rattle.winding_laws.specs.Edges.{rounded, rounded_edge, has_length, turned}
use Rattle.winding_laws.specs.Points.{IsOn, IsWithinOne}
use Rattle.winding_laws.specs.Approach.{HasNear, HasAmid}
use Rattle.winding_laws.proofs.Amid.{amid_is_between, three_on_line}
use Rattle.winding_laws.proofs.Approach.{amid_is_anywhere}
use Rattle.winding_laws.proofs.Following.{points_follow}
use Rattle.winding_laws.proofs.Lines.{lines_are_all}
use Rattle.winding_laws.proofs.Nearby.{near_on, half_and_quarter, on_same}
use Rattle.winding_laws.proofs.Rounding.{rounded_close}
use Rattle.winding_laws.proofs.Squares.{near_by_close}
use Rattle.slice_bundles.specs.Bundles.{edge_at}
use Rattle.slice_pieces.specs.declared.piece.Piece.{Piece}
use Rattle.slice_pieces.specs.Spots.{point_of}
use Rattle.slice_pieces.specs.Pieces.{way_of, ways_of}
use Rattle.slice_pieces.specs.Inside.{IsInside}
use Rattle.slice_pieces.specs.Naming.{HasLength}
use Rattle.slice_pieces.specs.Merging.{joined, MeetAlone, AreMerged, all_joined, two_join}
use Rattle.slice_pieces.specs.Rounding.{rounded_edges}
use Rattle.slice_pieces.specs.Cancelling.{AreCancelled}
use Rattle.slice_border.specs.Pieces.{ArePieces}
use Rattle.slice_border.specs.BorderPoints.{IsBorderPoint}
use Rattle.slice_border.specs.NearBorder.{HasBorderNear, OutlinesAreNearBorder}
use Rattle.slice_border.proofs.PieceNames.{pieces_are_named}
use Rattle.slice_border.proofs.BorderPoints.{pieces_are_border}
use Rattle.slice_border.proofs.PieceWinding.{IsPlaced, placed_proper, one, two, second_on, joined_placed, merged_placed}
use Rattle.slice_border.proofs.Membership.{pieces_are_placed}
use Rattle.slice_border.proofs.Sides.{OfPoints, OfAllPoints, outlines_have}

-- a border point lies within a quarter of a point
pub record HasBorderBeside (es : List LeafEdge) (shape : Shape) (p : Point) : Type 0 where
  pub border : Point
  pub positive : pos 0 <ℤ border.d
  pub is_border : IsBorderPoint es shape border
  pub near : IsNear (box (pos 4) (pos 1)) p border

less_than_one : (x y d : ℤ) → pos 0 <ℤ d → (pos 4 *ℤ x +ℤ pos 0 *ℤ y) ≤ℤ (pos 3 *ℤ d) → x <ℤ d
less_than_one x y d h k = omega (arith, ints)

less_turned : (s t y d : ℤ) → pos 0 <ℤ d
    → ((pos 0 -ℤ pos 4) *ℤ (s -ℤ t) +ℤ pos 0 *ℤ y) ≤ℤ (pos 3 *ℤ d) → (t -ℤ s) <ℤ d
less_turned s t y d h k = omega (arith, ints)

less_along : (x y d : ℤ) → pos 0 <ℤ d → (pos 0 *ℤ x +ℤ pos 4 *ℤ y) ≤ℤ (pos 3 *ℤ d) → y <ℤ d
less_along x y d h k = omega (arith, ints)

less_along_turned : (x s t d : ℤ) → pos 0 <ℤ d
    → (pos 0 *ℤ x +ℤ (pos 0 -ℤ pos 4) *ℤ (s -ℤ t)) ≤ℤ (pos 3 *ℤ d) → (t -ℤ s) <ℤ d
less_along_turned x s t d h k = omega (arith, ints)

within_one : (p b : Point) → pos 0 <ℤ p.d → pos 0 <ℤ b.d → IsNear (box (pos 4) (pos 3)) p b
    → IsWithinOne p b
within_one p b dp db n =
    let d : pos 0 <ℤ (b.d *ℤ p.d) = positive_product b.d p.d db dp in
    record {
      right = less_than_one (b.x *ℤ p.d -ℤ p.x *ℤ b.d) (b.y *ℤ p.d -ℤ p.y *ℤ b.d) (b.d *ℤ p.d) d n.0;
      left = less_turned (b.x *ℤ p.d) (p.x *ℤ b.d) (b.y *ℤ p.d -ℤ p.y *ℤ b.d) (b.d *ℤ p.d) d n.1.0;
      above = less_along (b.x *ℤ p.d -ℤ p.x *ℤ b.d) (b.y *ℤ p.d -ℤ p.y *ℤ b.d) (b.d *ℤ p.d) d n.1.1.0;
      below = less_along_turned (b.x *ℤ p.d -ℤ p.x *ℤ b.d) (b.y *ℤ p.d) (p.y *ℤ b.d) (b.d *ℤ p.d) d
          n.1.1.1.0;
    }

module _ (es : List LeafEdge) (shape : Shape) where
  -- beside each point of a piece lies a border point
  abbrev Borders : Piece → Type 0
  Borders q = (p : Point) → pos 0 <ℤ p.d → IsOn (point_of q.from) (point_of q.to) p → HasBorderBeside es shape p

  piece_borders : (q : Piece) → IsPlaced es q → HasLength q
      → ((p : Point) → pos 0 <ℤ p.d → IsInside (point_of q.from) (point_of q.to) p → IsBorderPoint es shape p)
      → Borders q
  piece_borders q placed long h p dp o =
      let proper = placed_proper es q placed in
      let amid : HasAmid (pos 4) (point_of q.from) (point_of q.to) p = amid_is_anywhere (pos 4) (omega (arith, ints))
      (point_of q.from) (point_of q.to) p proper.from proper.to dp o in
      let inside = amid_is_between (point_of q.from) (point_of q.to) amid.point proper.from proper.to long amid.amid in
      record {
        border = amid.point;
        positive = amid.positive;
        is_border = h amid.point amid.positive
            (record { on_line = inside.0; between = inside.1 });
        near = amid.near;
      }

  pieces_border : (pieces : List Piece) → ArePieces es shape pieces → All Borders pieces
  pieces_border pieces h =
      let placed = pieces_are_placed es shape pieces h in
      let named = pieces_are_named es shape pieces h in
      λ i d l. piece_borders (get_or pieces i d) (placed i d l) (named.lengths i d l)
      (λ p dp inside. pieces_are_border
      es shape pieces h p dp i d l inside)

  -- ---- merged
  joined_borders : (pieces : List Piece) (first second : Piece) (others : List Piece) (m : MeetAlone pieces first second
      others) (h : All (IsPlaced es) pieces) → Borders first → Borders second → Borders (joined first second)
  joined_borders pieces first second others m h f s p dp o =
      let e : Edge = edge_at es first.edge in
      let a = one es pieces first second others m h in
      let b = two es pieces first second others m h in
      let on = second_on es pieces first second others m h in
      let pa = placed_proper es first a in
      let pb = placed_proper es second b in
      elim (lines_are_all (point_of first.from) (point_of first.to) (point_of second.to) p pa.from pa.to pb.to
      (three_on_line (whole e.a) (whole e.b) (point_of first.from) (point_of first.to) (point_of second.to) a.on.from
      a.on.to on.to) o) [
        | inl x ↦ f p dp x
        | inr x ↦ s p dp (on_same (point_of first.to) (point_of second.from) (point_of second.to) p pa.to pb.from
            m.meet
            x)
      ]

  merged_border : (pieces merged : List Piece) → AreMerged pieces merged → All (IsPlaced es) pieces
      → All Borders pieces → All Borders merged
  merged_border pieces merged (all_joined none m) h b = All-permutation Borders pieces merged m b
  merged_border pieces merged (two_join first second others m rest) h b =
      let all = All-permutation Borders pieces (first ∷ (second ∷ others)) m.two b in
      let f = All-head Borders first (second ∷ others) all in
      let behind = All-tail Borders first (second ∷ others) all in
      let s = All-head Borders second others behind in
      merged_border (joined first second ∷ others) merged rest (joined_placed es pieces first second others m h)
      (All-cons Borders (joined first second) others (joined_borders pieces first second others m h f s)
      (All-tail Borders second others behind))

  -- ---- rounded
  abbrev IsNearIt : Point → Type 0
  IsNearIt p = HasBorderNear es shape p

  rounded_near : (q : Piece) → IsPlaced es q → Borders q → OfPoints IsNearIt (rounded_edge (way_of q))
  rounded_near q placed b p dp o =
      let proper = placed_proper es q placed in
      let one_positive : pos 0 <ℤ pos 1 = omega (arith, ints) in
      let from : Point = point_of q.from in
      let to : Point = point_of q.to in
      let on : HasNear (square (pos 1)) from to p =
      points_follow (square (pos 1)) from to (whole (rounded from)) (whole (rounded to)) p proper.from proper.to
      one_positive one_positive dp
      (near_by_close (pos 1) (whole (rounded from)) from (rounded_close from proper.from))
      (near_by_close (pos 1) (whole (rounded to)) to (rounded_close to proper.to)) o in
      let beside : HasBorderBeside es shape on.point = b on.point on.positive on.on in
      record {
        border = beside.border;
        positive = beside.positive;
        is_border = beside.is_border;
        near = within_one p beside.border dp beside.positive
            (near_on (square (pos 1)) (box (pos 4) (pos 1)) (box (pos 4) (pos 3)) half_and_quarter p on.point
            beside.border dp on.positive beside.positive on.near beside.near);
      }

  all_rounded : (qs : List Piece) → AllByRecursion (IsPlaced es) qs → AllByRecursion Borders qs
      → OfAllPoints IsNearIt (map rounded_edge (ways_of qs))
  all_rounded [] h b = tt
  all_rounded (q ∷ qs) h b = (rounded_near q h.0 b.0, all_rounded qs h.1 b.1)

  with_length : (fs : List Edge) → OfAllPoints IsNearIt fs → OfAllPoints IsNearIt (filter has_length fs)
  with_length [] h = tt
  with_length (f ∷ fs) h = by_test (has_length f) (with_length fs h.1)
    where
      by_test : (t : Bool) → OfAllPoints IsNearIt (filter has_length fs)
          → OfAllPoints IsNearIt (cond t (f ∷ filter has_length fs) (filter has_length fs))
      by_test true r = (h.0, r)
      by_test false r = r

  -- ---- left
  left_near : (edges left : List Edge) → AreCancelled edges left → OfAllPoints IsNearIt edges
      → OfAllPoints IsNearIt left
  left_near edges left c h =
      front (OfPoints IsNearIt) left (c.pairs ++ map turned c.pairs)
      (recursion_from_All (OfPoints IsNearIt) (left ++ (c.pairs ++ map turned c.pairs))
      (All-permutation (OfPoints IsNearIt) edges (left ++ (c.pairs ++ map turned c.pairs)) c.taken
      (All-from_recursion (OfPoints IsNearIt) edges h)))

pub outlines_are_near_border : OutlinesAreNearBorder
outlines_are_near_border es shape outlines h =
    let pieces : List Piece = h.pieces in
    let made = h.are_made in
    let placed = pieces_are_placed es shape pieces h.are_pieces in
    let borders = merged_border es shape pieces made.merged made.are_merged placed
    (pieces_border es shape pieces h.are_pieces) in
    let merged_on = merged_placed es pieces made.merged made.are_merged placed in
    let near : Point → Type 0 = λ p. HasBorderNear es shape p in
    All-from_recursion (OfPoints near) (flat_map sides outlines)
    (outlines_have near made.left outlines made.are_outlines
    (left_near es shape (rounded_edges made.merged) made.left made.are_left
    (with_length es shape (map rounded_edge (ways_of made.merged))
    (all_rounded es shape made.merged (recursion_from_All (IsPlaced es) made.merged merged_on)
    (recursion_from_All (λ q. (p : Point) → pos 0 <ℤ p.d → IsOn (point_of q.from) (point_of q.to) p
    → HasBorderBeside es shape p) made.merged borders)))))
