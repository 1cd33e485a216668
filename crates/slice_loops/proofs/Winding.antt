-- The outlines wind as the edges that they are made of.
use Rattle.std.proofs.Common.{◌≡◌, Bool, true, false, cond, List, [], ◌∷◌, ◌++◌, length, nat_le, flat_map, refl, sym, ap, ap₂, ◌∙◌, subst, arith, leb-false}
use lib.IntN.{ℤ, pos, ◌+ℤ◌, +ℤ_idl, +ℤ_assoc}
use lib.Signed.{◌<ℤ◌}
use Rattle.std.specs.Prelude.{IsPermutation}
use Rattle.std.specs.List.{AllByRecursion}
use Rattle.scad_geom.specs.declared.point.Pt.{Pt}
use Rattle.scad_geom.specs.declared.point.Edge.{Edge}
use Rattle.scad_geom.specs.Point.{Point, whole}
use Rattle.scad_geom.specs.Segment.{segments}
use Rattle.scad_geom.specs.Winding.{turn, wind_by}
use Rattle.scad_geom.specs.Loop.{path, sides}
use Rattle.scad_geom.proofs.Turns.{flat_turn}
use Rattle.slice_loops.specs.Drawing.{IsLoop, AreDrawn}
use Rattle.slice_loops.specs.Corners.{is_between, last, corners_between, corners}
use Rattle.slice_loops.specs.Outlines.{outlines_of, AreOutlines}
use Rattle.slice_loops.specs.Laws.{OutlinesKeepWinding}
use Rattle.slice_loops.proofs.Straight.{IsAhead, ahead_itself, ahead_on, still_between}
use Rattle.slice_loops.proofs.Parts.{parts_turn, opposites_cancel}
use Rattle.slice_loops.proofs.Least.{IsAtLeast, least_is_corner, loop_at_least, itself_at_least, last_at_least}
use Rattle.scad_geom.proofs.Sums.{sum_z, sum_z-permutation}
use Rattle.slice_loops.proofs.LoopSides.{sides_are_edges}
use Rattle.std.proofs.Math.IntN.{+ℤ_idr}

module _ (above right : Bool) (q : Point) where
  -- the winding number of edges, and the turn of one
  abbrev winding : List Edge → ℤ
  winding es = wind_by above right q (segments es)

  abbrev turned : Edge → ℤ
  turned e = turn above right q (whole e.a) (whole e.b)

  -- ---- the order doesn't matter
  winding_is : (es : List Edge) → winding es ≡ sum_z turned es
  winding_is [] = refl
  winding_is (e ∷ es) = ap (λ (z : ℤ). turned e +ℤ z) (winding_is es)

  pub winding_permuted : (es fs : List Edge) → IsPermutation es fs → winding fs ≡ winding es
  winding_permuted es fs m = winding_is fs ∙ sum_z-permutation turned es fs m ∙ sym (winding_is es)

  winding-append : (es fs : List Edge) → winding (es ++ fs) ≡ winding es +ℤ winding fs
  winding-append [] fs = sym (+ℤ_idl (winding fs))
  winding-append (e ∷ es) fs = ap (λ (z : ℤ). turned e +ℤ z) (winding-append es fs)
      ∙ sym (+ℤ_assoc (turned e) (winding es) (winding fs))

  module _ (d : pos 0 <ℤ q.d) where
    -- ---- a vertex that is no corner
    dropped : (x p b : Pt) (rest : ℤ) → is_between x p b ≡ true
        → turn above right q (whole x) (whole b) +ℤ rest
        ≡ turn above right q (whole x) (whole p) +ℤ (turn above right q (whole p) (whole b) +ℤ rest)
    dropped x p b rest t =
        ap (λ (z : ℤ). z +ℤ rest) (sym (parts_turn above right q d x p b t))
        ∙ +ℤ_assoc (turn above right q (whole x) (whole p)) (turn above right q (whole p) (whole b)) rest

    corners_wind : (x before p : Pt) (ps : List Pt) (after : Pt) → IsAhead x before p
        → winding (path x (corners_between before p ps after) after) ≡ winding (path x (p ∷ ps) after)
    corners_wind x before p [] after h = by_test (is_between before p after) refl
      where
        by_test : (t : Bool) → is_between before p after ≡ t
            → winding (path x (cond t [] (p ∷ [])) after) ≡ winding (path x (p ∷ []) after)
        by_test true t = dropped x p after (pos 0) (still_between x before p after h t)
        by_test false t = refl
    corners_wind x before p (n ∷ ns) after h
        = by_test (is_between before p n) refl (λ k. corners_wind x p n ns after k)
        (corners_wind p p n ns after (ahead_itself p n))
      where
        by_test : (t : Bool) → is_between before p n ≡ t
            → (IsAhead x p n → winding (path x (corners_between p n ns after) after)
            ≡ winding (path x (n ∷ ns) after))
            → winding (path p (corners_between p n ns after) after) ≡ winding (path p (n ∷ ns) after)
            → winding (path x (cond t (corners_between p n ns after) (p ∷ corners_between p n ns after)) after)
            ≡ winding (path x (p ∷ (n ∷ ns)) after)
        by_test true t on stay = on (ahead_on x before p n h t)
            ∙ dropped x p n (winding (path n ns after)) (still_between x before p n h t)
        by_test false t on stay = ap (λ (z : ℤ). turn above right q (whole x) (whole p) +ℤ z) stay

    -- ---- a loop
    from_least : (p : Pt) (ps : List Pt) → AllByRecursion (IsAtLeast p) ps
        → winding (sides (corners (p ∷ ps))) ≡ winding (sides (p ∷ ps))
    from_least p [] a = ap (λ (b : Bool). winding (sides (cond b [] (p ∷ []))))
        (least_is_corner p p p (itself_at_least p) (itself_at_least p))
    from_least p (n ∷ ns) a =
        ap (λ (b : Bool). winding (sides (cond b (corners_between p n ns p) (p ∷ corners_between p n ns p))))
        (least_is_corner (last n ns) p n (last_at_least p n ns a.0 a.1) a.0)
        ∙ corners_wind p p n ns p (ahead_itself p n)

    loop_winds : (es : List Edge) (l : List Pt) (left : List Edge) → IsLoop es l left
        → winding (sides (corners l)) ≡ winding (sides l)
    loop_winds es l left h = subst (λ (v : List Pt). winding (sides (corners v)) ≡ winding (sides v))
        (sym h.vertices) (from_least h.first.a h.way (loop_at_least es l left h))

    -- fewer than three corners don't wind
    few : (c : List Pt) → nat_le 3 (length c) ≡ false → winding (sides c) ≡ pos 0
    few [] h = refl
    few (a ∷ []) h = +ℤ_idr (turn above right q (whole a) (whole a))
        ∙ flat_turn above right q (whole a) (whole a) refl
    few (a ∷ (b ∷ [])) h = ap (λ (z : ℤ). turn above right q (whole a) (whole b) +ℤ z)
        (+ℤ_idr (turn above right q (whole b) (whole a))) ∙ opposites_cancel above right q a b
    few (a ∷ (b ∷ (c ∷ cs))) h = let t = leb-false 3 (length (a ∷ (b ∷ (c ∷ cs)))) h in absurd (omega arith)

    -- ---- all loops
    outlines_wind : (es : List Edge) (ls : List (List Pt)) → AreDrawn es ls
        → winding (flat_map sides (outlines_of ls)) ≡ winding (flat_map sides ls)
    outlines_wind es [] h = refl
    outlines_wind es (l ∷ ls) h = by_test (nat_le 3 (length (corners l))) refl (loop_winds es l h.0 h.1)
        (outlines_wind h.0 ls h.2)
      where
        by_test : (t : Bool) → nat_le 3 (length (corners l)) ≡ t
            → winding (sides (corners l)) ≡ winding (sides l)
            → winding (flat_map sides (outlines_of ls)) ≡ winding (flat_map sides ls)
            → winding (flat_map sides (cond t (corners l ∷ outlines_of ls) (outlines_of ls)))
            ≡ winding (sides l ++ flat_map sides ls)
        by_test true t one more =
            winding-append (sides (corners l)) (flat_map sides (outlines_of ls))
            ∙ ap₂ (λ (y z : ℤ). y +ℤ z) one more
            ∙ sym (winding-append (sides l) (flat_map sides ls))
        by_test false t one more =
            sym (+ℤ_idl (winding (flat_map sides (outlines_of ls))))
            ∙ ap₂ (λ (y z : ℤ). y +ℤ z) (sym (few (corners l) t) ∙ one) more
            ∙ sym (winding-append (sides l) (flat_map sides ls))

    keep : (es : List Edge) (outlines : List (List Pt)) → AreOutlines es outlines
        → winding (flat_map sides outlines) ≡ winding es
    keep es outlines a =
        ap (λ (os : List (List Pt)). winding (flat_map sides os)) a.kept
        ∙ outlines_wind es a.loops a.drawn
        ∙ winding_permuted es (flat_map sides a.loops) (sides_are_edges es a.loops a.drawn)

pub outlines_keep_winding : OutlinesKeepWinding
outlines_keep_winding es outlines a above right q d = keep above right q d es outlines a
