-- Each side of outlines has a length where the edges do that they are made of.
use Rattle.std.proofs.Common.{◌≡◌, Bool, true, false, cond, List, [], ◌∷◌, ◌++◌, length, nat_le, flat_map, refl, sym, ap, ◌∙◌, subst, arith}
use lib.IntN.{ℤ, pos, ◌+ℤ◌, ◌-ℤ◌, ◌*ℤ◌}
use lib.Signed.{◌<ℤ◌, ◌≤ℤ◌}
use Rattle.std.specs.Prelude.{All}
use Rattle.std.specs.List.{AllByRecursion}
use Rattle.std.proofs.lemmas.Int.{ints}
use Rattle.std.proofs.lemmas.List.Elements.{All-from_recursion, recursion_from_All}
use Rattle.std.proofs.lemmas.List.Sorted.{All-permutation}
use Rattle.scad_base.proofs.Products.{zero_factor}
use Rattle.scad_base.proofs.Integers.{equal_of_gap}
use Rattle.scad_base.proofs.Lists.{AllByRecursion-append}
use Rattle.scad_geom.specs.declared.point.Pt.{Pt}
use Rattle.scad_geom.specs.declared.point.Edge.{Edge}
use Rattle.scad_geom.specs.Loop.{path, sides}
use Rattle.scad_geom.proofs.Ring.{ring, num, ◌⊕◌, ◌⊖◌, ◌⊗◌, v0, v1, v2, v3}
use Rattle.scad_geom.proofs.Signs.{square_at_least, sum_at_least}
use Rattle.slice_loops.specs.Drawing.{IsLoop, AreDrawn}
use Rattle.slice_loops.specs.Corners.{advance, is_between, last, corners_between, corners}
use Rattle.slice_loops.specs.Outlines.{outlines_of}
use Rattle.slice_loops.specs.Lengths.{HasLength, SidesHaveLengths}
use Rattle.slice_loops.proofs.Straight.{IsAhead, ahead_itself, ahead_on, still_between, straight}
use Rattle.slice_loops.proofs.Least.{IsAtLeast, least_is_corner, loop_at_least, last_at_least}
use Rattle.slice_loops.proofs.LoopSides.{sides_are_edges}

-- ---- ends that differ
-- to the point itself nothing advances
back_and_forth : (ax ay px py : ℤ) → (px -ℤ ax) *ℤ (ax -ℤ px) +ℤ (py -ℤ ay) *ℤ (ay -ℤ py)
    ≡ pos 0 -ℤ ((px -ℤ ax) *ℤ (px -ℤ ax) +ℤ (py -ℤ ay) *ℤ (py -ℤ ay))
back_and_forth ax ay px py =
    ring (ax ∷ ay ∷ px ∷ py ∷ []) ((v2 ⊖ v0) ⊗ (v0 ⊖ v2) ⊕ (v3 ⊖ v1) ⊗ (v1 ⊖ v3))
    (num (pos 0) ⊖ ((v2 ⊖ v0) ⊗ (v2 ⊖ v0) ⊕ (v3 ⊖ v1) ⊗ (v3 ⊖ v1))) refl

below_both : (y z : ℤ) → pos 0 <ℤ y → y ≡ pos 0 -ℤ z → pos 0 ≤ℤ z → ⊥
below_both y z h e k = omega (arith, ints)

not_back : (a p : Pt) → is_between a p a ≡ true → ⊥
unfolding advance
not_back a p t =
    let x = p.x -ℤ a.x in
    let y = p.y -ℤ a.y in
    below_both (advance a p a) (x *ℤ x +ℤ y *ℤ y) (straight a p a t).1 (back_and_forth a.x a.y p.x p.y)
    (sum_at_least (x *ℤ x) (y *ℤ y) (square_at_least x) (square_at_least y))

-- the ends of a way through a point between them differ
ends_differ : (a p b : Pt) → is_between a p b ≡ true → a ≡ b → ⊥
ends_differ a p b t same = not_back a p (subst (λ (q : Pt). is_between a p q ≡ true) (sym same) t)

-- a point that lies ahead of another isn't this one, where the way to it has a length
gap_of_ahead : (far near x a p : ℤ) → pos 0 <ℤ near → far *ℤ (p -ℤ x) ≡ near *ℤ (p -ℤ a) → x ≡ p
    → a ≡ p
gap_of_ahead far near x a p positive h same =
    let none : near *ℤ (p -ℤ a) ≡ pos 0 =
    sym h ∙ ap (λ (z : ℤ). far *ℤ (p -ℤ z)) same ∙ ring (far ∷ p ∷ []) (v0 ⊗ (v1 ⊖ v1)) (num (pos 0)) refl in
    sym (equal_of_gap p a
    (zero_factor (p -ℤ a) near positive (ring (p ∷ a ∷ near ∷ []) ((v0 ⊖ v1) ⊗ v2) (v2 ⊗ (v0 ⊖ v1)) refl
    ∙ none)))

ahead_differs : (x a p : Pt) → IsAhead x a p → (a ≡ p → ⊥) → x ≡ p → ⊥
ahead_differs x a p h differ same =
    let across = gap_of_ahead h.far h.near x.x a.x p.x h.near_positive h.across (ap (λ (q : Pt). q.x) same) in
    let along = gap_of_ahead h.far h.near x.y a.y p.y h.near_positive h.along (ap (λ (q : Pt). q.y) same) in
    differ (λ k. record { x = across k; y = along k })

-- ---- the vertices that are no corners are left out
corners_lengths : (x before p : Pt) (ps : List Pt) (after : Pt) → IsAhead x before p → (before ≡ p → ⊥)
    → AllByRecursion HasLength (path p ps after)
    → AllByRecursion HasLength (path x (corners_between before p ps after) after)
corners_lengths x before p [] after h differ each = by_test (is_between before p after) refl
  where
    by_test : (t : Bool) → is_between before p after ≡ t
        → AllByRecursion HasLength (path x (cond t [] (p ∷ [])) after)
    by_test true t = (ends_differ x p after (still_between x before p after h t), tt)
    by_test false t = (ahead_differs x before p h differ, each)
corners_lengths x before p (n ∷ ns) after h differ each =
    by_test (is_between before p n) refl (λ k. corners_lengths x p n ns after k each.0 each.1)
    (corners_lengths p p n ns after (ahead_itself p n) each.0 each.1)
  where
    by_test : (t : Bool) → is_between before p n ≡ t
        → (IsAhead x p n → AllByRecursion HasLength (path x (corners_between p n ns after) after))
        → AllByRecursion HasLength (path p (corners_between p n ns after) after)
        → AllByRecursion HasLength (path x
        (cond t (corners_between p n ns after) (p ∷ corners_between p n ns after)) after)
    by_test true t on stay = on (ahead_on x before p n h t)
    by_test false t on stay = (ahead_differs x before p h differ, stay)

-- ---- a loop
from_least : (p : Pt) (ps : List Pt) → AllByRecursion (IsAtLeast p) ps → AllByRecursion HasLength (sides (p ∷ ps))
    → AllByRecursion HasLength (sides (corners (p ∷ ps)))
from_least p [] a each = absurd (each.0 refl)
from_least p (n ∷ ns) a each =
    subst (λ (b : Bool). AllByRecursion HasLength
    (sides (cond b (corners_between p n ns p) (p ∷ corners_between p n ns p))))
    (sym (least_is_corner (last n ns) p n (last_at_least p n ns a.0 a.1) a.0))
    (corners_lengths p p n ns p (ahead_itself p n) each.0 each.1)

loop_lengths : (es : List Edge) (l : List Pt) (left : List Edge) → IsLoop es l left
    → AllByRecursion HasLength (sides l) → AllByRecursion HasLength (sides (corners l))
loop_lengths es l left h =
    subst (λ (v : List Pt). AllByRecursion HasLength (sides v) → AllByRecursion HasLength (sides (corners v)))
    (sym h.vertices)
    (from_least h.first.a h.way (loop_at_least es l left h))

-- ---- all loops
front : (es fs : List Edge) → AllByRecursion HasLength (es ++ fs) → AllByRecursion HasLength es
front [] fs h = tt
front (e ∷ es) fs h = (h.0, front es fs h.1)

behind : (es fs : List Edge) → AllByRecursion HasLength (es ++ fs) → AllByRecursion HasLength fs
behind [] fs h = h
behind (e ∷ es) fs h = behind es fs h.1

loops_lengths : (es : List Edge) (ls : List (List Pt)) → AreDrawn es ls
    → AllByRecursion HasLength (flat_map sides ls) → AllByRecursion HasLength (flat_map sides (outlines_of ls))
loops_lengths es [] h each = tt
loops_lengths es (l ∷ ls) h each =
    by_test (nat_le 3 (length (corners l))) (loop_lengths es l h.0 h.1 (front (sides l) (flat_map sides ls) each))
    (loops_lengths h.0 ls h.2 (behind (sides l) (flat_map sides ls) each))
  where
    by_test : (t : Bool) → AllByRecursion HasLength (sides (corners l))
        → AllByRecursion HasLength (flat_map sides (outlines_of ls))
        → AllByRecursion HasLength (flat_map sides (cond t (corners l ∷ outlines_of ls) (outlines_of ls)))
    by_test true one more = AllByRecursion-append HasLength (sides (corners l)) (flat_map sides (outlines_of ls)) one
        more
    by_test false one more = more

pub sides_have_lengths : SidesHaveLengths
sides_have_lengths es outlines each a =
    let drawn = All-permutation HasLength es (flat_map sides a.loops) (sides_are_edges es a.loops a.drawn) each in
    subst (λ (os : List (List Pt)). All HasLength (flat_map sides os)) (sym a.kept)
    (All-from_recursion HasLength (flat_map sides (outlines_of a.loops))
    (loops_lengths es a.loops a.drawn (recursion_from_All HasLength (flat_map sides a.loops) drawn)))
