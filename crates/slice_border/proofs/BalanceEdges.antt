-- Round a closed list of edges: where flat edges lie on one side of a point, a leaf's winding numbers hard above the
-- point and hard below it are one.
use Rattle.std.proofs.Common.{◌≡◌, ℕ, ◌+◌, ◌≤◌, Bool, true, false, cond, List, [], ◌∷◌, refl, sym, ap, ap₂, ◌∙◌, arith}
use lib.IntN.{ℤ, pos, ◌+ℤ◌, ◌-ℤ◌}
use lib.Signed.{◌<ℤ◌}
use Rattle.std.specs.Prelude.{if◌then◌else◌, ◌==◌}
use Rattle.std.specs.List.{AllByRecursion}
use Rattle.std.proofs.lemmas.Int.{ints, by_lt_z}
use Rattle.std.proofs.lemmas.List.Sums.{sum_by-cons}
use Rattle.scad_geom.specs.declared.point.Pt.{Pt}
use Rattle.scad_geom.specs.declared.point.Edge.{Edge}
use Rattle.scad_geom.specs.declared.level.LeafEdge.{LeafEdge}
use Rattle.scad_geom.specs.declared.shape.Shape.{Shape}
use Rattle.scad_geom.specs.Balance.{IsBalanced}
use Rattle.scad_geom.specs.Segment.{segments}
use Rattle.scad_geom.proofs.Balance.{once, same_place, whole_balance, same_place-is, same_place-itself}
use Rattle.scad_geom.proofs.Leaves.{held_alike}
use Rattle.std.specs.Prelude.{count_by, filter}
use Rattle.std.proofs.Common.{map}
use Rattle.scad_geom.specs.Point.{Point, whole}
use Rattle.scad_geom.specs.Winding.{turn}
use Rattle.scad_geom.proofs.Leaves.{wind_leaf}
use Rattle.scad_geom.specs.Shape.{is_in_by}
use Rattle.scad_geom.proofs.Turns.{level_turn}
use Rattle.scad_geom.specs.Leaves.{edges_of, AreLeavesBalanced}
use Rattle.slice_border.proofs.BalanceTurns.{ahead, step_up, step_down}
use Rattle.winding_laws.proofs.Totals.{sum_with, sums_apart, equal_by_gaps}

-- ---- where as many edges start at each point as end there, sums over starts are sums over ends
abbrev starts : List Edge → List Pt
starts [] = []
starts (e ∷ es) = e.a ∷ starts es

abbrev ends : List Edge → List Pt
ends [] = []
ends (e ∷ es) = e.b ∷ ends es

abbrev tally : Pt → List Pt → ℕ
tally p [] = 0
tally p (q ∷ qs) = once (same_place p q) + tally p qs

abbrev total : (Pt → ℤ) → List Pt → ℤ
total f [] = pos 0
total f (q ∷ qs) = f q +ℤ total f qs

tally-starts : (p : Pt) (es : List Edge) → count_by (λ e. same_place p e.a) es ≡ tally p (starts es)
tally-starts p [] = refl
tally-starts p (e ∷ es) = sum_by-cons (λ x. once (same_place p x.a)) e es
    ∙ ap (λ (n : ℕ). once (same_place p e.a) + n)
    (tally-starts p es)

tally-ends : (p : Pt) (es : List Edge) → count_by (λ e. same_place p e.b) es ≡ tally p (ends es)
tally-ends p [] = refl
tally-ends p (e ∷ es) = sum_by-cons (λ x. once (same_place p x.b)) e es
    ∙ ap (λ (n : ℕ). once (same_place p e.b) + n)
    (tally-ends p es)

abbrev without : Pt → List Pt → List Pt
without p [] = []
without p (q ∷ qs) = cond (same_place p q) qs (q ∷ without p qs)

tally-without : (x p : Pt) (qs : List Pt) → 1 ≤ tally x qs
    → tally p qs ≡ once (same_place p x) + tally p (without x qs)
tally-without x p [] h = absurd (omega arith)
tally-without x p (q ∷ qs) h = by_test (same_place x q) refl h (tally-without x p qs)
  where
    by_test : (t : Bool) → same_place x q ≡ t → 1 ≤ once t + tally x qs
        → (1 ≤ tally x qs → tally p qs ≡ once (same_place p x) + tally p (without x qs))
        → once (same_place p q) + tally
        p qs ≡ once (same_place p x) + tally p (cond t qs (q ∷ without x qs))
    by_test true e h r = ap (λ (r : Pt). once (same_place p r) + tally p qs) (sym (same_place-is x q e))
    by_test false e h r = let s = r (omega arith) in omega arith

total-without : (f : Pt → ℤ) (x : Pt) (qs : List Pt) → 1 ≤ tally x qs
    → total f qs ≡ f x +ℤ total f (without x qs)
total-without f x [] h = absurd (omega arith)
total-without f x (q ∷ qs) h = by_test (same_place x q) refl h (total-without f x qs)
  where
    by_test : (t : Bool) → same_place x q ≡ t → 1 ≤ once t + tally x qs
        → (1 ≤ tally x qs → total f qs ≡ f x +ℤ total f (without x qs))
        → f q +ℤ total f qs ≡ f x +ℤ total f
        (cond t qs (q ∷ without x qs))
    by_test true e h r = ap (λ (r : Pt). f r +ℤ total f qs) (sym (same_place-is x q e))
    by_test false e h r = sum_with (f q) (total f qs) (f x) (total f (without x qs)) (r (omega arith))

total-same : (f : Pt → ℤ) (ps qs : List Pt) → ((p : Pt) → tally p ps ≡ tally p qs)
    → total f ps ≡ total f qs
total-same f [] [] h = refl
total-same f [] (q ∷ qs) h =
    let t = h q in
    let o : once (same_place q q) ≡ 1 = ap once (same_place-itself q) in
    absurd (omega arith)
total-same f (p ∷ ps) qs h =
    let t = h p in
    let o : once (same_place p p) ≡ 1 = ap once (same_place-itself p) in
    let some : 1 ≤ tally p qs = omega arith in
    ap (λ (z : ℤ). f p +ℤ z) (total-same f ps (without p qs) (λ q. let a = h q in let b = tally-without p q qs some in omega arith))
    ∙ sym (total-without f p qs some)

balanced_totals : (f : Pt → ℤ) (es : List Edge) → IsBalanced (segments es)
    → total f (starts es) ≡ total f (ends es)
balanced_totals f es h = total-same f (starts es) (ends es) (λ p. sym (tally-starts p es) ∙ whole_balance es h p ∙
    tally-ends p es)

-- ---- edges hard by a point
-- a flat edge lies on one side of a point, or not at its height
abbrev pub IsAside : Bool → Point → LeafEdge → Type 0
IsAside right p e = e.edge.a.y ≡ e.edge.b.y → ahead right p (whole e.edge.a) ≡ ahead right p (whole e.edge.b)

edge_step : (right : Bool) (p : Point) → pos 0 <ℤ p.d → (e : LeafEdge) → IsAside right p e
    → turn true right p (whole e.edge.a) (whole e.edge.b) -ℤ turn false right p (whole e.edge.a) (whole e.edge.b)
    ≡ ahead right p (whole e.edge.a) -ℤ ahead right p (whole e.edge.b)
edge_step right p dp e h =
    let one : pos 0 <ℤ pos 1 = omega (arith, ints) in
    by_lt_z e.edge.a.y e.edge.b.y (λ o. step_up right p (whole e.edge.a) (whole e.edge.b) dp one one
    (omega (arith, ints)))
    (λ n. by_lt_z e.edge.b.y e.edge.a.y (λ o. step_down right p (whole e.edge.a) (whole e.edge.b) dp one one
    (omega (arith, ints)))
    (λ m. let level : e.edge.a.y ≡ e.edge.b.y = omega (arith, ints) in flat level))
  where
    none : (x y : ℤ) → x ≡ y → pos 0 -ℤ pos 0 ≡ x -ℤ y
    none x y h = omega (arith, ints)

    flat : e.edge.a.y ≡ e.edge.b.y
        → turn true right p (whole e.edge.a) (whole e.edge.b) -ℤ turn false right p (whole e.edge.a)
        (whole e.edge.b)
        ≡ ahead right p (whole e.edge.a) -ℤ ahead right p (whole e.edge.b)
    flat level = ap₂ (λ (y z : ℤ). y -ℤ z) (level_turn true right p e.edge level)
        (level_turn false right p e.edge
        level) ∙ none (ahead right p (whole e.edge.a)) (ahead right p (whole e.edge.b)) (h level)

by_leaf : (t : Bool) (f : Pt → ℤ) (e : LeafEdge) (fs : List LeafEdge) (a b x y : ℤ)
    → a -ℤ b ≡ f e.edge.a -ℤ f e.edge.b
    → x -ℤ y ≡ total f (starts (map (λ d. d.edge) fs)) -ℤ total f (ends (map (λ d. d.edge) fs))
    → ((if t then a else pos 0) +ℤ x) -ℤ ((if t then b else pos 0) +ℤ y)
    ≡ total f (starts (map (λ d. d.edge) (cond t (e ∷ fs) fs))) -ℤ total f
    (ends (map (λ d. d.edge) (cond t (e ∷ fs) fs)))
by_leaf true f e fs a b x y h k = sums_apart a b (f e.edge.a) (f e.edge.b) x y
    (total f (starts (map (λ d. d.edge) fs)))
    (total f (ends (map (λ d. d.edge) fs))) h k
by_leaf false f e fs a b x y h k = same x y (total f (starts (map (λ d. d.edge) fs)))
    (total f (ends (map (λ d. d.edge) fs))) k
  where
    same : (a b c d : ℤ) → a -ℤ b ≡ c -ℤ d → (pos 0 +ℤ a) -ℤ (pos 0 +ℤ b) ≡ c -ℤ d
    same a b c d h = omega (arith, ints)

leaf_step : (right : Bool) (p : Point) → pos 0 <ℤ p.d → (leaf : ℕ) (es : List LeafEdge)
    → AllByRecursion (IsAside right p) es
    → wind_leaf true right p leaf es -ℤ wind_leaf false right p leaf es ≡ total (λ q. ahead right p (whole q))
    (starts (edges_of leaf es)) -ℤ total (λ q. ahead right p (whole q)) (ends (edges_of leaf es))
leaf_step right p dp leaf [] h = refl
leaf_step right p dp leaf (e ∷ es) h =
    by_leaf (e.leaf == leaf) (λ q. ahead right p (whole q)) e (filter (λ d. d.leaf == leaf) es)
    (turn true right p (whole e.edge.a) (whole e.edge.b)) (turn false right p (whole e.edge.a) (whole e.edge.b))
    (wind_leaf true right p leaf es) (wind_leaf false right p leaf es)
    (edge_step right p dp e h.0) (leaf_step right p dp leaf es h.1)

leaf_same : (right : Bool) (p : Point) → pos 0 <ℤ p.d → (leaf : ℕ) (es : List LeafEdge)
    → IsBalanced (segments (edges_of leaf es)) → AllByRecursion (IsAside right p) es
    → wind_leaf true right p leaf es ≡ wind_leaf false right p leaf es
leaf_same right p dp leaf es b h =
    equal_by_gaps (wind_leaf true right p leaf es) (wind_leaf false right p leaf es)
    (total (λ q. ahead right p (whole q)) (starts (edges_of leaf es))) (total (λ q. ahead right p (whole q))
    (ends (edges_of leaf es)))
    (leaf_step right p dp leaf es h) (balanced_totals (λ q. ahead right p (whole q)) (edges_of leaf es) b)

-- a shape's values hard above and hard below are one, where no flat edge lies hard by
pub level_values : (right : Bool) (p : Point) → pos 0 <ℤ p.d → (es : List LeafEdge) (shape : Shape)
    → AreLeavesBalanced es → AllByRecursion (IsAside right p) es
    → is_in_by true right es shape p ≡ is_in_by false right es shape p
level_values right p dp es shape b h =
    held_alike true right p es false right p es shape (λ leaf. leaf_same right p dp leaf es (b.each leaf) h)
