-- What holds of each point of each edge holds of each point of each side of the outlines that the edges make.
use Rattle.std.proofs.Common.{◌≡◌, Bool, true, false, cond, inl, inr, List, [], ◌∷◌, length, nat_le, flat_map, refl, sym, ap, ap₂, ◌∙◌, subst, arith}
use lib.IntN.{ℤ, pos, ◌+ℤ◌, ◌-ℤ◌, ◌*ℤ◌}
use lib.Signed.{◌<ℤ◌, ◌≤ℤ◌}
use Rattle.std.specs.List.{AllByRecursion}
use Rattle.std.proofs.lemmas.Int.{ints}
use Rattle.std.proofs.lemmas.List.Elements.{recursion_from_All, All-from_recursion}
use Rattle.std.proofs.lemmas.List.Sorted.{All-permutation}
use Rattle.scad_base.proofs.Lists.{AllByRecursion-append}
use Rattle.scad_geom.specs.declared.point.Pt.{Pt}
use Rattle.scad_geom.specs.declared.point.Edge.{Edge}
use Rattle.scad_geom.specs.Point.{Point, whole}
use Rattle.scad_geom.specs.Loop.{path, sides}
use Rattle.scad_geom.proofs.Order.{front, back}
use Rattle.scad_geom.proofs.Ring.{ring, num, ◌⊕◌, ◌⊖◌, ◌⊗◌, v0, v1, v2, v3, v4, v5}
use Rattle.scad_geom.proofs.Signs.{square_at_least, add_times_zero, sub_times_zero}
use Rattle.winding_laws.specs.Points.{IsOn}
use Rattle.winding_laws.proofs.Parts.{parts_are_all}
use Rattle.slice_loops.specs.Drawing.{IsLoop, AreDrawn}
use Rattle.slice_loops.specs.Corners.{bend, advance, is_between, last, corners_between, corners}
use Rattle.slice_loops.specs.Outlines.{outlines_of, AreOutlines}
use Rattle.slice_loops.proofs.Straight.{IsAhead, ahead_itself, ahead_on, still_between, straight}
use Rattle.slice_loops.proofs.Least.{IsAtLeast, least_is_corner, loop_at_least, itself_at_least, last_at_least}
use Rattle.slice_loops.proofs.LoopSides.{sides_are_edges}
use Rattle.scad_base.proofs.Integers.{both_positive}

-- ---- a vertex between its neighbours is a point of the way from one to the other
-- the dot product of a way and the whole way, which is made of it and of the other
part_of : (ux uy vx vy wx wy : ℤ) → wx ≡ ux +ℤ vx → wy ≡ uy +ℤ vy
    → pos 0 <ℤ (ux *ℤ vx +ℤ uy *ℤ vy) → pos 0 <ℤ (ux *ℤ wx +ℤ uy *ℤ wy)
part_of ux uy vx vy wx wy hx hy h =
    let a = square_at_least ux in
    let b = square_at_least uy in
    let same : ux *ℤ wx +ℤ uy *ℤ wy ≡ (ux *ℤ ux +ℤ uy *ℤ uy) +ℤ (ux *ℤ vx +ℤ uy *ℤ vy) =
    ap₂ (λ (s t : ℤ). ux *ℤ s +ℤ uy *ℤ t) hx hy
    ∙ ring (ux ∷ uy ∷ vx ∷ vy ∷ []) (v0 ⊗ (v0 ⊕ v2) ⊕ v1 ⊗ (v1 ⊕ v3))
    ((v0 ⊗ v0 ⊕ v1 ⊗ v1) ⊕ (v0 ⊗ v2 ⊕ v1 ⊗ v3)) refl in
    omega (arith, ints)

other_of : (ux uy vx vy wx wy : ℤ) → wx ≡ ux +ℤ vx → wy ≡ uy +ℤ vy
    → pos 0 <ℤ (ux *ℤ vx +ℤ uy *ℤ vy) → pos 0 <ℤ (vx *ℤ wx +ℤ vy *ℤ wy)
other_of ux uy vx vy wx wy hx hy h =
    let a = square_at_least vx in
    let b = square_at_least vy in
    let same : vx *ℤ wx +ℤ vy *ℤ wy ≡ (vx *ℤ vx +ℤ vy *ℤ vy) +ℤ (ux *ℤ vx +ℤ uy *ℤ vy) =
    ap₂ (λ (s t : ℤ). vx *ℤ s +ℤ vy *ℤ t) hx hy
    ∙ ring (ux ∷ uy ∷ vx ∷ vy ∷ []) (v2 ⊗ (v0 ⊕ v2) ⊕ v3 ⊗ (v1 ⊕ v3))
    ((v2 ⊗ v2 ⊕ v3 ⊗ v3) ⊕ (v0 ⊗ v2 ⊕ v1 ⊗ v3)) refl in
    omega (arith, ints)

place_x : (ax ay px py bx by : ℤ) → (px -ℤ ax) *ℤ (by -ℤ py) -ℤ (py -ℤ ay) *ℤ (bx -ℤ px) ≡ pos 0
    → (((bx -ℤ px) *ℤ (bx -ℤ ax) +ℤ (by -ℤ py) *ℤ (by -ℤ ay)) +ℤ
    ((px -ℤ ax) *ℤ (bx -ℤ ax) +ℤ (py -ℤ ay) *ℤ (by -ℤ ay)))
    *ℤ px
    ≡ ((bx -ℤ px) *ℤ (bx -ℤ ax) +ℤ (by -ℤ py) *ℤ (by -ℤ ay)) *ℤ ax +ℤ
    ((px -ℤ ax) *ℤ (bx -ℤ ax) +ℤ (py -ℤ ay) *ℤ
    (by -ℤ ay)) *ℤ bx
place_x ax ay px py bx by h =
    ring (ax ∷ ay ∷ px ∷ py ∷ bx ∷ by ∷ [])
    ((((v4 ⊖ v2) ⊗ (v4 ⊖ v0) ⊕ (v5 ⊖ v3) ⊗ (v5 ⊖ v1))
    ⊕ ((v2 ⊖ v0) ⊗ (v4 ⊖ v0) ⊕ (v3 ⊖ v1) ⊗ (v5 ⊖ v1))) ⊗ v2)
    ((((v4 ⊖ v2) ⊗ (v4 ⊖ v0) ⊕ (v5 ⊖ v3) ⊗ (v5 ⊖ v1)) ⊗ v0
    ⊕ ((v2 ⊖ v0) ⊗ (v4 ⊖ v0) ⊕ (v3 ⊖ v1) ⊗ (v5 ⊖ v1)) ⊗ v4) ⊕
    (v5 ⊖ v1) ⊗ ((v2 ⊖ v0) ⊗ (v5 ⊖ v3) ⊖ (v3 ⊖ v1) ⊗ (v4 ⊖ v2))) refl
    ∙ ap (λ (z : ℤ). (((bx -ℤ px) *ℤ (bx -ℤ ax) +ℤ (by -ℤ py) *ℤ (by -ℤ ay)) *ℤ ax +ℤ
    ((px -ℤ ax) *ℤ (bx -ℤ ax) +ℤ (py -ℤ ay) *ℤ (by -ℤ ay)) *ℤ bx) +ℤ (by -ℤ ay) *ℤ z) h
    ∙ add_times_zero (((bx -ℤ px) *ℤ (bx -ℤ ax) +ℤ (by -ℤ py) *ℤ (by -ℤ ay)) *ℤ ax +ℤ
    ((px -ℤ ax) *ℤ (bx -ℤ ax) +ℤ (py -ℤ ay) *ℤ (by -ℤ ay)) *ℤ bx) (by -ℤ ay)

place_y : (ax ay px py bx by : ℤ) → (px -ℤ ax) *ℤ (by -ℤ py) -ℤ (py -ℤ ay) *ℤ (bx -ℤ px) ≡ pos 0
    → (((bx -ℤ px) *ℤ (bx -ℤ ax) +ℤ (by -ℤ py) *ℤ (by -ℤ ay)) +ℤ
    ((px -ℤ ax) *ℤ (bx -ℤ ax) +ℤ (py -ℤ ay) *ℤ (by -ℤ ay)))
    *ℤ py
    ≡ ((bx -ℤ px) *ℤ (bx -ℤ ax) +ℤ (by -ℤ py) *ℤ (by -ℤ ay)) *ℤ ay +ℤ
    ((px -ℤ ax) *ℤ (bx -ℤ ax) +ℤ (py -ℤ ay) *ℤ
    (by -ℤ ay)) *ℤ by
place_y ax ay px py bx by h =
    ring (ax ∷ ay ∷ px ∷ py ∷ bx ∷ by ∷ [])
    ((((v4 ⊖ v2) ⊗ (v4 ⊖ v0) ⊕ (v5 ⊖ v3) ⊗ (v5 ⊖ v1))
    ⊕ ((v2 ⊖ v0) ⊗ (v4 ⊖ v0) ⊕ (v3 ⊖ v1) ⊗ (v5 ⊖ v1))) ⊗ v3)
    ((((v4 ⊖ v2) ⊗ (v4 ⊖ v0) ⊕ (v5 ⊖ v3) ⊗ (v5 ⊖ v1)) ⊗ v1
    ⊕ ((v2 ⊖ v0) ⊗ (v4 ⊖ v0) ⊕ (v3 ⊖ v1) ⊗ (v5 ⊖ v1)) ⊗ v5) ⊖
    (v4 ⊖ v0) ⊗ ((v2 ⊖ v0) ⊗ (v5 ⊖ v3) ⊖ (v3 ⊖ v1) ⊗ (v4 ⊖ v2))) refl
    ∙ ap (λ (z : ℤ). (((bx -ℤ px) *ℤ (bx -ℤ ax) +ℤ (by -ℤ py) *ℤ (by -ℤ ay)) *ℤ ay +ℤ
    ((px -ℤ ax) *ℤ (bx -ℤ ax) +ℤ (py -ℤ ay) *ℤ (by -ℤ ay)) *ℤ by) -ℤ (bx -ℤ ax) *ℤ z) h
    ∙ sub_times_zero (((bx -ℤ px) *ℤ (bx -ℤ ax) +ℤ (by -ℤ py) *ℤ (by -ℤ ay)) *ℤ ay +ℤ
    ((px -ℤ ax) *ℤ (bx -ℤ ax) +ℤ (py -ℤ ay) *ℤ (by -ℤ ay)) *ℤ by) (bx -ℤ ax)

between_on : (a p b : Pt) → is_between a p b ≡ true → IsOn (whole a) (whole b) (whole p)
unfolding bend advance
between_on a p b t =
    let s = straight a p b t in
    let first : ℤ = (b.x -ℤ p.x) *ℤ (b.x -ℤ a.x) +ℤ (b.y -ℤ p.y) *ℤ (b.y -ℤ a.y) in
    let second : ℤ = (p.x -ℤ a.x) *ℤ (b.x -ℤ a.x) +ℤ (p.y -ℤ a.y) *ℤ (b.y -ℤ a.y) in
    let f : pos 0 <ℤ first = other_of (p.x -ℤ a.x) (p.y -ℤ a.y) (b.x -ℤ p.x) (b.y -ℤ p.y) (b.x -ℤ a.x) (b.y -ℤ a.y)
    (way a.x p.x b.x) (way a.y p.y b.y) s.1 in
    let g : pos 0 <ℤ second = part_of (p.x -ℤ a.x) (p.y -ℤ a.y) (b.x -ℤ p.x) (b.y -ℤ p.y) (b.x -ℤ a.x) (b.y -ℤ a.y)
    (way a.x p.x b.x) (way a.y p.y b.y) s.1 in
    record {
      k = first +ℤ second;
      s = first;
      t = second;
      positive = both_positive first second f g;
      first = weak first f;
      second = weak second g;
      some = both_positive first second f g;
      x = place_x a.x a.y p.x p.y b.x b.y s.0;
      y = place_y a.x a.y p.x p.y b.x b.y s.0;
      d = ring (first ∷ second ∷ []) ((v0 ⊕ v1) ⊗ num (pos 1)) (v0 ⊗ num (pos 1) ⊕ v1 ⊗ num (pos 1)) refl;
    }
  where
    way : (a p b : ℤ) → b -ℤ a ≡ (p -ℤ a) +ℤ (b -ℤ p)
    way a p b = omega (arith, ints)

    weak : (z : ℤ) → pos 0 <ℤ z → pos 0 ≤ℤ z
    weak z h = omega (arith, ints)

-- ---- what holds of each point of edges
abbrev pub OfPoints : (Point → Type 0) → Edge → Type 0
OfPoints P e = (p : Point) → pos 0 <ℤ p.d → IsOn (whole e.a) (whole e.b) p → P p

abbrev pub OfAllPoints : (Point → Type 0) → List Edge → Type 0
OfAllPoints P es = AllByRecursion (OfPoints P) es

module _ (P : Point → Type 0) where
  abbrev edge : Pt → Pt → Edge
  edge a b = record { a = a; b = b }

  over : (x p b : Pt) → is_between x p b ≡ true → OfPoints P (edge x p) → OfPoints P (edge p b)
      → OfPoints P (edge x b)
  over x p b t h g = λ q d o. elim (parts_are_all (whole x) (whole b) (whole p) q (between_on x p b t) o)
      [ inl f ↦ h q d f | inr f ↦ g q d f ]

  corners_have : (x before p : Pt) (ps : List Pt) (after : Pt) → IsAhead x before p
      → OfAllPoints P (path x (p ∷ ps) after) → OfAllPoints P (path x (corners_between before p ps after) after)
  corners_have x before p [] after a h = by_test (is_between before p after) refl
    where
      by_test : (t : Bool) → is_between before p after ≡ t → OfAllPoints P (path x (cond t [] (p ∷ [])) after)
      by_test true t = (over x p after (still_between x before p after a t) h.0 h.1.0, tt)
      by_test false t = h
  corners_have x before p (n ∷ ns) after a h
      = by_test (is_between before p n) refl (λ k c. corners_have x p n ns after
      k c) (corners_have p p n ns after (ahead_itself p n) h.1)
    where
      by_test : (t : Bool) → is_between before p n ≡ t
          → (IsAhead x p n → OfAllPoints P (path x (n ∷ ns) after)
          → OfAllPoints P (path x (corners_between p n ns after) after))
          → OfAllPoints P (path p (corners_between p n ns after) after)
          → OfAllPoints P (path x (cond t (corners_between p n ns after) (p ∷ corners_between p n ns after)) after)
      by_test true t on stay = on (ahead_on x before p n a t) (
        over x p n (still_between x before p n a t) h.0 h.1.0,
        h.1.1,
      )
      by_test false t on stay = (h.0, stay)

  from_least : (p : Pt) (ps : List Pt) → AllByRecursion (IsAtLeast p) ps → OfAllPoints P (sides (p ∷ ps))
      → OfAllPoints P (sides (corners (p ∷ ps)))
  from_least p [] a h = subst (λ (b : Bool). OfAllPoints P (sides (cond b [] (p ∷ []))))
      (sym (least_is_corner p p p (itself_at_least p) (itself_at_least p))) h
  from_least p (n ∷ ns) a h =
      subst (λ (b : Bool). OfAllPoints P (sides (cond b (corners_between p n ns p) (p ∷ corners_between p n ns p))))
      (sym (least_is_corner (last n ns) p n (last_at_least p n ns a.0 a.1) a.0))
      (corners_have p p n ns p (ahead_itself p n) h)

  loop_has : (es : List Edge) (l : List Pt) (left : List Edge) → IsLoop es l left → OfAllPoints P (sides l)
      → OfAllPoints P (sides (corners l))
  loop_has es l left h = subst (λ (v : List Pt). OfAllPoints P (sides v) → OfAllPoints P (sides (corners v)))
      (sym h.vertices) (from_least h.first.a h.way (loop_at_least es l left h))

  loops_have : (es : List Edge) (ls : List (List Pt)) → AreDrawn es ls → OfAllPoints P (flat_map sides ls)
      → OfAllPoints P (flat_map sides (outlines_of ls))
  loops_have es [] d h = tt
  loops_have es (l ∷ ls) d h =
      by_test (nat_le 3 (length (corners l))) (loop_has es l d.0 d.1 (front (OfPoints P) (sides l) (flat_map sides ls)
      h)) (loops_have d.0 ls d.2 (back (OfPoints P) (sides l) (flat_map sides ls) h))
    where
      by_test : (t : Bool) → OfAllPoints P (sides (corners l)) → OfAllPoints P (flat_map sides (outlines_of ls))
          → OfAllPoints P (flat_map sides (cond t (corners l ∷ outlines_of ls) (outlines_of ls)))
      by_test true one more = AllByRecursion-append (OfPoints P) (sides (corners l)) (flat_map sides (outlines_of ls))
          one more
      by_test false one more = more

  pub outlines_have : (es : List Edge) (outlines : List (List Pt)) → AreOutlines es outlines → OfAllPoints P es
      → OfAllPoints P (flat_map sides outlines)
  outlines_have es outlines a h =
      subst (λ (os : List (List Pt)). OfAllPoints P (flat_map sides os)) (sym a.kept)
      (loops_have es a.loops a.drawn
      (recursion_from_All (OfPoints P) (flat_map sides a.loops)
      (All-permutation (OfPoints P) es (flat_map sides a.loops) (sides_are_edges es a.loops a.drawn)
      (All-from_recursion (OfPoints P) es h))))
