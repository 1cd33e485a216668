-- The sides of drawn loops are the edges in another order.
use Rattle.std.proofs.Common.{◌≡◌, List, [], ◌∷◌, ◌++◌, flat_map, sym, ◌∙◌, subst}
use Rattle.std.specs.Prelude.{IsPermutation}
use Rattle.std.proofs.lemmas.List.Sorted.{IsPermutation-refl, IsPermutation-cons, IsPermutation-trans, IsPermutation-append_right}
use Rattle.scad_geom.specs.declared.point.Pt.{Pt}
use Rattle.scad_geom.specs.declared.point.Edge.{Edge}
use Rattle.scad_geom.specs.Loop.{path, sides}
use Rattle.slice_loops.specs.Drawing.{LeadsBack, IsLoop}
use Rattle.slice_loops.specs.Laws.{SidesAreEdges}
use Rattle.slice_loops.proofs.LoopClosure.{edge}

-- an edge and a way on from its end
way_sides : (start : Pt) (vs : List Pt) (p q : Pt) (es left : List Edge) → LeadsBack start vs q es left
    → IsPermutation (edge p q ∷ es) (path p vs start ++ left)
way_sides start [] p q es left h =
    subst (λ (s : Pt). IsPermutation (edge p q ∷ es) (edge p s ∷ left)) h.0
    (subst (λ (l : List Edge). IsPermutation (edge p q ∷ es) (edge p q ∷ l)) h.1
    (IsPermutation-refl (edge p q ∷ es)))
way_sides start (v ∷ vs) p q es left h =
    let e : Edge = h.2.0 in
    let others : List Edge = h.2.1 in
    let t = h.2.2 in
    let back = h.2.3 in
    let on : IsPermutation (e ∷ others) (path e.a vs start ++ left) = way_sides start vs e.a e.b others left back in
    let here : e.a ≡ v = t.starts ∙ sym h.0 in
    let at_v : IsPermutation (e ∷ others) (path v vs start ++ left) = subst (λ (a : Pt). IsPermutation (e ∷ others) (path a vs start ++ left)) here on in
    subst (λ (b : Pt). IsPermutation (edge p q ∷ es) (edge p b ∷ (path v vs start ++ left))) (sym h.0)
    (IsPermutation-cons (edge p q) es (path v vs start ++ left)
    (IsPermutation-trans es (e ∷ others) (path v vs start ++ left) t.taken at_v))

loop_sides : (es : List Edge) (l : List Pt) (left : List Edge) → IsLoop es l left
    → IsPermutation es (sides l ++ left)
loop_sides es l left h =
    let e : Edge = h.first in
    subst (λ (v : List Pt). IsPermutation es (sides v ++ left)) (sym h.vertices)
    (IsPermutation-trans es (e ∷ h.others) (path e.a h.way e.a ++ left) h.least.taken
    (way_sides e.a h.way e.a e.b h.others left h.back))

pub sides_are_edges : SidesAreEdges
sides_are_edges es [] d = subst (λ (l : List Edge). IsPermutation es l) d (IsPermutation-refl es)
sides_are_edges es (l ∷ ls) d =
    let left : List Edge = d.0 in
    IsPermutation-trans es (sides l ++ left) (sides l ++ flat_map sides ls) (loop_sides es l left d.1)
    (IsPermutation-append_right (sides l) left (flat_map sides ls) (sides_are_edges left ls d.2))
