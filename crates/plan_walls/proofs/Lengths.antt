-- The sides of the outlines of a shape have a length, since rounded edges without one are left out.
use Rattle.std.proofs.Common.{◌≡◌, Bool, true, false, true≢false, not, ◌&&◌, cond, List, [], ◌∷◌, ◌++◌, map, flat_map}
use Rattle.std.proofs.Common.{refl, sym, ap, ap₂, ◌∙◌, subst, ℤ, pos, ◌*ℤ◌}
use Rattle.std.specs.Prelude.{All}
use Rattle.std.specs.List.{filter, AllByRecursion}
use Rattle.std.specs.Cmp.{signed_Decides}
use Rattle.std.proofs.lemmas.List.Elements.{All-from_recursion, recursion_from_All}
use Rattle.std.proofs.lemmas.List.Sorted.{All-permutation}
use Rattle.std.specs.Ordering.{int_eq}
use Rattle.scad_geom.specs.declared.point.Pt.{Pt}
use Rattle.scad_geom.specs.declared.point.Edge.{Edge}
use Rattle.scad_geom.specs.declared.level.LeafEdge.{LeafEdge}
use Rattle.scad_geom.specs.declared.shape.Shape.{Shape}
use Rattle.scad_geom.specs.Loop.{sides}
use Rattle.scad_geom.specs.Point.{whole, is_same_point}
use Rattle.winding_laws.specs.Edges.{rounded_edge, has_length, turned}
use Rattle.slice_pieces.specs.Pieces.{ways_of}
use Rattle.slice_pieces.specs.Rounding.{rounded_edges}
use Rattle.slice_loops.specs.Lengths.{HasLength}
use Rattle.slice_loops.proofs.Lengths.{sides_have_lengths}
use Rattle.slice_border.specs.Outlines.{AreOutlinesOf}
use Rattle.plan_walls.specs.Walls.{with_rings}
use Rattle.plan_walls.specs.Lengths.{WallsHaveLengths}

-- ---- what the test says
itself : (z : ℤ) → int_eq z z ≡ true
itself z = (signed_Decides z z).1 refl

same_itself : (p : Pt) → is_same_point (whole p) (whole p) ≡ true
same_itself p = ap₂ (λ (s t : Bool). s && t) (itself (p.y *ℤ pos 1)) (itself (p.x *ℤ pos 1))

has_length_true : (e : Edge) → has_length e ≡ true → HasLength e
has_length_true e h same =
    let met : is_same_point (whole e.a) (whole e.b) ≡ true =
    subst (λ (p : Pt). is_same_point (whole e.a) (whole p) ≡ true) same (same_itself e.a) in
    true≢false (sym h ∙ ap not met)

-- ---- of the edges that are left
kept : (es : List Edge) → AllByRecursion HasLength (filter has_length es)
kept [] = tt
kept (e ∷ es) = by_test (has_length e) refl (kept es)
  where
    by_test : (t : Bool) → has_length e ≡ t → AllByRecursion HasLength (filter has_length es)
        → AllByRecursion HasLength (cond t (e ∷ filter has_length es) (filter has_length es))
    by_test true h more = (has_length_true e h, more)
    by_test false h more = more

front : (es fs : List Edge) → AllByRecursion HasLength (es ++ fs) → AllByRecursion HasLength es
front [] fs h = tt
front (e ∷ es) fs h = (h.0, front es fs h.1)

pub outlines_have_lengths : (es : List LeafEdge) (shape : Shape) (outlines : List (List Pt))
    → AreOutlinesOf es shape outlines → All HasLength (flat_map sides outlines)
outlines_have_lengths es shape outlines are =
    let made = are.are_made in
    let left = made.left in
    let pairs = made.are_left.pairs in
    let more : List Edge = pairs ++ map turned pairs in
    let all = All-from_recursion HasLength (rounded_edges made.merged) (kept (map rounded_edge (ways_of made.merged))) in
    let apart : All HasLength (left ++ more) =
    All-permutation HasLength (rounded_edges made.merged) (left ++ more) made.are_left.taken all in
    sides_have_lengths left outlines
    (All-from_recursion HasLength left (front left more (recursion_from_All HasLength (left ++ more) apart)))
    made.are_outlines

pub walls_have_lengths : WallsHaveLengths
walls_have_lengths c outlines loops walls =
    outlines_have_lengths (with_rings c (flat_map sides outlines)) walls.shape loops walls.are_outlines
