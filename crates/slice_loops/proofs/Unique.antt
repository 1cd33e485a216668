-- The loops that are drawn from edges are one list of loops, in whatever order the edges stand.
use Rattle.std.proofs.Common.{◌≡◌, ℕ, ◌+◌, ◌<◌, Bool, true, false, List, [], ◌∷◌, refl, sym, ap, ap₂, ◌∙◌, subst, arith, All}
use Rattle.std.specs.Prelude.{⊤, IsPermutation, sum_by}
use Rattle.std.specs.Ordering.{is_lt, ordering_reverse}
use Rattle.std.specs.declared.cmp.Ordering.{Ordering}
use Rattle.std.specs.declared.cmp.Ordering.TheVariants.{Less, Equal, Greater}
use Rattle.std.proofs.lemmas.List.Elements.{All-cons, All-head, All-tail}
use Rattle.std.proofs.lemmas.List.Sums.{sum_by-cons}
use Rattle.std.proofs.lemmas.List.Sorted.{sum_by-IsPermutation}
use Rattle.std.specs.Cmp.{IsTotalOrder, tied_itself}
use Rattle.scad_geom.specs.declared.point.Pt.{Pt}
use Rattle.scad_geom.specs.declared.point.Edge.{Edge}
use Rattle.scad_geom.proofs.Balance.{once}
use Rattle.scad_geom.proofs.Places.{same_edge, same_edge_then_equal, same_edge_itself}
use Rattle.scad_geom.specs.PointOrder.{point_cmp}
use Rattle.scad_geom.proofs.PointOrder.{same_point}
use Rattle.slice_loops.specs.Order.{edge_cmp, is_less}
use Rattle.slice_loops.specs.Drawing.{TakesLeastFrom, LeadsBack, IsLoop, AreDrawn}
use Rattle.slice_loops.specs.Outlines.{outlines_of}
use Rattle.slice_loops.specs.Laws.{LoopsAreOne, OutlinesAreOne}
use Rattle.slice_loops.proofs.Points.{edge_total}
use Rattle.scad_base.proofs.Tests.{both_equal}

-- ---- edges that the order doesn't tell apart are one
edge_exact : (e f : Edge) → edge_cmp e f ≡ Equal → e ≡ f
edge_exact e f h =
    let both = both_equal (point_cmp e.a f.a) (point_cmp e.b f.b) h in
    let a = same_point e.a f.a both.0 in
    let b = same_point e.b f.b both.1 in
    λ i. record { a = a i; b = b i }

tied : (r s : Ordering) → r ≡ ordering_reverse s → is_lt r ≡ false → is_lt s ≡ false → r ≡ Equal
tied Less s h k l = absurd (cc)
tied Equal s h k l = refl
tied Greater Less h k l = absurd (cc)
tied Greater Equal h k l = absurd (cc)
tied Greater Greater h k l = absurd (cc)

pub not_less_itself : (e : Edge) → is_less e e ≡ false
not_less_itself e = ap is_lt (tied_itself edge_total e)

neither_less : (e f : Edge) → is_less e f ≡ false → is_less f e ≡ false → e ≡ f
neither_less e f h k = let o : IsTotalOrder edge_cmp = edge_total in edge_exact e f (tied (edge_cmp e f) (edge_cmp f e) (o.antisymm e f) h k)

-- ---- lists with the same edges, each as often
often : Edge → List Edge → ℕ
often x es = sum_by (λ (e : Edge). once (same_edge x e)) es

often-cons : (x e : Edge) (es : List Edge) → often x (e ∷ es) ≡ once (same_edge x e) + often x es
unfolding often
often-cons x e es = sum_by-cons (λ (f : Edge). once (same_edge x f)) e es

abbrev HaveSame : List Edge → List Edge → Type 0
HaveSame es fs = (x : Edge) → often x es ≡ often x fs

permuted : (es fs : List Edge) → IsPermutation es fs → HaveSame es fs
unfolding often
permuted es fs m x = sym (sum_by-IsPermutation (λ (e : Edge). once (same_edge x e)) es fs m)

none : (x : Edge) → often x [] ≡ 0
unfolding often
none x = refl

-- what holds of all edges holds of one that is there
holds_of : (P : Edge → Type 0) (x : Edge) (es : List Edge) → All P es → 0 < often x es → P x
holds_of P x [] a h = let n = none x in absurd (omega arith)
holds_of P x (e ∷ es) a h = by_test (same_edge x e) refl (holds_of P x es (All-tail P e es a))
  where
    by_test : (t : Bool) → same_edge x e ≡ t → (0 < often x es → P x) → P x
    by_test true s later = subst P (sym (same_edge_then_equal x e s)) (All-head P e es a)
    by_test false s later =
        let n : often x (e ∷ es) ≡ 0 + often x es = often-cons x e es ∙ ap (λ (b : Bool). once b + often x es) s in
        later (omega arith)

there : (e : Edge) (es : List Edge) → 0 < often e (e ∷ es)
there e es = let n : often e (e ∷ es) ≡ 1 + often e es = often-cons e e es ∙ ap (λ (b : Bool). once b + often e es) (same_edge_itself e) in omega arith

-- ---- one edge is the least of those that pass a test
least_of : (Q : Edge → Type 0) (es : List Edge) (e : Edge) (others : List Edge) (f : Edge)
    → HaveSame es (e ∷ others) → All (λ x. Q x → is_less x e ≡ false) others → 0 < often f es → Q f
    → is_less f e ≡ false
least_of Q es e others f m a h q =
    let s = m f in
    holds_of (λ x. Q x → is_less x e ≡ false) f (e ∷ others)
    (All-cons (λ x. Q x → is_less x e ≡ false) e others (λ t. not_less_itself e) a) (omega arith) q

one_least : (Q : Edge → Type 0) (es : List Edge) (e : Edge) (others fs : List Edge) (f : Edge) (rest : List Edge)
    → HaveSame es fs → HaveSame es (e ∷ others) → All (λ x. Q x → is_less x e ≡ false) others → Q e
    → HaveSame fs (f ∷ rest) → All (λ x. Q x → is_less x f ≡ false) rest → Q f → e ≡ f
one_least Q es e others fs f rest m me ae qe mf af qf =
    let f_there = there f rest in
    let e_there = there e others in
    let f_of = mf f in
    let e_of = me e in
    let f_both = m f in
    let e_both = m e in
    neither_less e f (least_of Q fs f rest e mf af (omega arith) qe) (least_of Q es e others f me ae (omega arith) qf)

same_rest : (es : List Edge) (e : Edge) (others fs : List Edge) (f : Edge) (rest : List Edge) → HaveSame es fs
    → HaveSame es (e ∷ others) → HaveSame fs (f ∷ rest) → e ≡ f → HaveSame others rest
same_rest es e others fs f rest m me mf h x =
    let a = m x in
    let b = me x in
    let c = mf x in
    let d = often-cons x e others in
    let g = often-cons x f rest in
    let o : once (same_edge x e) ≡ once (same_edge x f) = ap (λ (y : Edge). once (same_edge x y)) h in
    omega arith

-- ---- one way, one loop, one list of loops
one_way : (start : Pt) (vs ws : List Pt) (p : Pt) (es fs left over : List Edge) → HaveSame es fs
    → LeadsBack start vs p es left → LeadsBack start ws p fs over → (vs ≡ ws) × HaveSame left over
one_way start [] [] p es fs left over m h k = (refl, λ x. ap (often x) (sym h.1) ∙ m x ∙ ap (often x) k.1)
one_way start [] (w ∷ ws) p es fs left over m h k = absurd (k.1 h.0)
one_way start (v ∷ vs) [] p es fs left over m h k = absurd (h.1 k.0)
one_way start (v ∷ vs) (w ∷ ws) p es fs left over m h k =
    let e : Edge = h.2.0 in
    let others : List Edge = h.2.1 in
    let t : TakesLeastFrom p es e others = h.2.2 in
    let f : Edge = k.2.0 in
    let rest : List Edge = k.2.1 in
    let u : TakesLeastFrom p fs f rest = k.2.2 in
    let me = permuted es (e ∷ others) t.taken in
    let mf = permuted fs (f ∷ rest) u.taken in
    let one : e ≡ f = one_least (λ (x : Edge). x.a ≡ p) es e others fs f rest m me t.least t.starts mf u.least u.starts in
    let back : LeadsBack start ws e.b rest over = subst (λ (x : Edge). LeadsBack start ws x.b rest over) (sym one) k.2.3 in
    let on = one_way start vs ws e.b others rest left over (same_rest es e others fs f rest m me mf one) h.2.3 back in
    (ap₂ (λ (x : Pt) (xs : List Pt). x ∷ xs) (h.0 ∙ sym k.0) on.0, on.1)

one_loop : (es fs : List Edge) (l n : List Pt) (left over : List Edge) → HaveSame es fs → IsLoop es l left
    → IsLoop fs n over → (l ≡ n) × HaveSame left over
one_loop es fs l n left over m h k =
    let e : Edge = h.first in
    let f : Edge = k.first in
    let me = permuted es (e ∷ h.others) h.least.taken in
    let mf = permuted fs (f ∷ k.others) k.least.taken in
    let one : e ≡ f = one_least (λ (x : Edge). ⊤) es e h.others fs f k.others m me (λ i d b r. h.least.least i d b) tt mf (λ i d b r. k.least.least i d b) tt in
    let back : LeadsBack e.a k.way e.b k.others over = subst (λ (x : Edge). LeadsBack x.a k.way x.b k.others over) (sym one) k.back in
    let on = one_way e.a h.way k.way e.b h.others k.others left over (same_rest es e h.others fs f k.others m me mf one) h.back back in
    (h.vertices ∙ ap₂ (λ (x : Edge) (xs : List Pt). x.a ∷ xs) one on.0 ∙ sym k.vertices, on.1)

some_left : (es : List Edge) (l : List Pt) (left : List Edge) → HaveSame es [] → IsLoop es l left → ⊥
some_left es l left m h =
    let a = there h.first h.others in
    let b = permuted es (h.first ∷ h.others) h.least.taken h.first in
    let c = m h.first in
    let d = none h.first in
    omega arith

one_drawing : (es fs : List Edge) (ls ns : List (List Pt)) → HaveSame es fs → AreDrawn es ls → AreDrawn fs ns
    → ls ≡ ns
one_drawing es fs [] [] m h k = refl
one_drawing es fs [] (n ∷ ns) m h k = absurd (some_left fs n k.0 (λ x. sym (m x) ∙ ap (often x) h) k.1)
one_drawing es fs (l ∷ ls) [] m h k = absurd (some_left es l h.0 (λ x. m x ∙ ap (often x) k) h.1)
one_drawing es fs (l ∷ ls) (n ∷ ns) m h k =
    let one = one_loop es fs l n h.0 k.0 m h.1 k.1 in
    ap₂ (λ (x : List Pt) (xs : List (List Pt)). x ∷ xs) one.0 (one_drawing h.0 k.0 ls ns one.1 h.2 k.2)

pub loops_are_one : LoopsAreOne
loops_are_one es fs ls ns m h k = one_drawing es fs ls ns (permuted es fs m) h k

pub outlines_are_one : OutlinesAreOne
outlines_are_one es fs ls ns m h k = h.kept ∙ ap outlines_of (loops_are_one es fs h.loops k.loops m h.drawn k.drawn)
    ∙ sym k.kept
