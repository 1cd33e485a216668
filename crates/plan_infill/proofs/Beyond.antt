-- Closed outlines don't wind round what lies beyond all of them.
use Rattle.std.proofs.Common.{◌≡◌, ◌⊎◌, inl, inr, ℕ, ◌+◌, ◌≤◌, Bool, true, false, cond, List, [], ◌∷◌, refl}
use Rattle.std.proofs.Common.{sym, ap, ◌∙◌, flat_map, arith, ℤ, pos, ◌+ℤ◌, ◌-ℤ◌, ◌*ℤ◌, ◌<ℤ◌}
use lib.Signed.{◌≤ℤ◌}
use Rattle.std.specs.Prelude.{int_lt, if◌then◌else◌, unsigned_abs, All}
use Rattle.std.specs.List.{AllByRecursion}
use Rattle.std.proofs.lemmas.Int.{ints}
use Rattle.std.proofs.lemmas.List.Elements.{All-weaker, recursion_from_All, All-from_recursion}
use Rattle.scad_base.proofs.Products.{positive_product}
use Rattle.scad_geom.specs.declared.point.Pt.{Pt}
use Rattle.scad_geom.specs.declared.point.Edge.{Edge}
use Rattle.scad_geom.specs.Line.{low, high, rise, x_at, left_of, heading}
use Rattle.scad_geom.specs.Point.{Point, whole}
use Rattle.scad_geom.specs.Segment.{segments}
use Rattle.scad_geom.specs.Loop.{sides}
use Rattle.scad_geom.specs.Winding.{turn, wind}
use Rattle.scad_geom.specs.Within.{IsEdgeWithin}
use Rattle.scad_geom.proofs.Ring.{ring, ◌⊕◌, ◌⊖◌, ◌⊗◌, v0, v1, v2, v3, v4, v5}
use Rattle.scad_geom.proofs.Rising.{by_order, order}
use Rattle.scad_geom.proofs.Signs.{at_least_mul}
use Rattle.scad_geom.proofs.Turns.{over_turn, under_turn}
use Rattle.plan_infill.specs.declared.line.Line.{Line}
use Rattle.plan_infill.specs.declared.line.Line.TheVariants.{Row, Column}
use Rattle.plan_infill.specs.Runs.{point_on}
use Rattle.plan_infill.specs.Steps.{turn_before, turns_before}
use Rattle.plan_infill.proofs.Turning.{at, turn_at, turn_between, turn_below, turn_above, passage_between}
use Rattle.plan_infill.proofs.Turning.{passage_below, passage_above}
use Rattle.plan_infill.proofs.Steps.{rise_is, left_at, x_at_weights, above_limit}
use Rattle.plan_infill.proofs.AllRuns.{none_before}

-- ---- above or below all
no_turns : (p : Point) (es : List Edge) → AllByRecursion (λ e. turn true true p (whole e.a) (whole e.b) ≡ pos 0) es
    → wind p (segments es) ≡ pos 0
no_turns p [] h = refl
no_turns p (e ∷ es) h = let a = h.0 in let b = no_turns p es h.1 in omega (arith, ints, a, b)

-- no edge of a kind turns round a point
none_turn : (P : Edge → Type 0) (p : Point)
    → ((e : Edge) → P e → turn true true p (whole e.a) (whole e.b) ≡ pos 0)
    → (es : List Edge) → All P es → wind p (segments es) ≡ pos 0
none_turn P p f es h =
    no_turns p es (recursion_from_All (λ e. turn true true p (whole e.a) (whole e.b) ≡ pos 0) es
    (All-weaker P (λ e. turn true true p (whole e.a) (whole e.b) ≡ pos 0) f es h))

pub below_all : (x y : ℤ) (es : List Edge) → All (λ e. (y <ℤ e.a.y) × (y <ℤ e.b.y)) es
    → wind (whole (at x y)) (segments es) ≡ pos 0
below_all x y es h =
    none_turn (λ e. (y <ℤ e.a.y) × (y <ℤ e.b.y)) (whole (at x y))
    (λ e k. let f = k.0 in let g = k.1 in over_turn true true (whole (at x y)) e (omega (arith, ints, f))
    (omega (arith, ints, g))) es h

pub above_all : (x y : ℤ) (es : List Edge) → All (λ e. (e.a.y ≤ℤ y) × (e.b.y ≤ℤ y)) es
    → wind (whole (at x y)) (segments es) ≡ pos 0
above_all x y es h =
    none_turn (λ e. (e.a.y ≤ℤ y) × (e.b.y ≤ℤ y)) (whole (at x y))
    (λ e k. let f = k.0 in let g = k.1 in under_turn true true (whole (at x y)) e (omega (arith, ints, f))
    (omega (arith, ints, g))) es h

-- ---- to the right or to the left of all
-- what holds of both ends of an edge holds of its lower and of its upper one
ends : (P : Pt → Type 0) (e : Edge) → P e.a → P e.b → P (low e) × P (high e)
unfolding low high
ends P e a b = by_test (int_lt e.b.y e.a.y)
  where
    by_test : (t : Bool) → P (cond t e.b e.a) × P (cond t e.a e.b)
    by_test true = (b, a)
    by_test false = (a, b)

-- at a height of an edge the ends to the left of a point have the line to its left
line_left : (x y : ℤ) (e : Edge) → (low e).x ≤ℤ x → (high e).x ≤ℤ x → (low e).y ≤ℤ y
    → y <ℤ (high e).y → x_at e y (pos 1) ≤ℤ (x *ℤ rise e)
line_left x y e l h a b =
    let w = x_at_weights e y in
    let r = rise_is e in
    let p = at_least_mul (x -ℤ (low e).x) ((high e).y -ℤ y) (omega (arith, ints, l)) (omega (arith, ints, b)) in
    let q = at_least_mul (x -ℤ (high e).x) (y -ℤ (low e).y) (omega (arith, ints, h)) (omega (arith, ints, a)) in
    let u = above_limit x (low e).x (low e).y y (high e).x (high e).y in
    rw (w, r) (omega (arith, ints, p, q, u))

-- and those to its right to its right
line_right : (x y : ℤ) (e : Edge) → x <ℤ (low e).x → x <ℤ (high e).x → (low e).y ≤ℤ y
    → y <ℤ (high e).y → (x *ℤ rise e) <ℤ x_at e y (pos 1)
line_right x y e l h a b =
    let w = x_at_weights e y in
    let r = rise_is e in
    let p = positive_product ((low e).x -ℤ x) ((high e).y -ℤ y) (omega (arith, ints, l)) (omega (arith, ints, b)) in
    let q = at_least_mul ((high e).x -ℤ x) (y -ℤ (low e).y) (omega (arith, ints, h)) (omega (arith, ints, a)) in
    let u = after x (low e).x (low e).y y (high e).x (high e).y in
    rw (w, r) (omega (arith, ints, p, q, u))
  where
    after : (m a b y c d : ℤ)
        → (a -ℤ m) *ℤ (d -ℤ y) +ℤ (c -ℤ m) *ℤ (y -ℤ b)
        ≡ (a *ℤ (d -ℤ y) +ℤ c *ℤ (y -ℤ b)) -ℤ m *ℤ (d -ℤ b)
    after m a b y c d = ring (m ∷ a ∷ b ∷ y ∷ c ∷ d ∷ [])
        ((v1 ⊖ v0) ⊗ (v5 ⊖ v3) ⊕ (v4 ⊖ v0) ⊗ (v3 ⊖ v2))
        ((v1 ⊗ (v5 ⊖ v3) ⊕ v4 ⊗ (v3 ⊖ v2)) ⊖ v0 ⊗ (v5 ⊖ v2)) refl

-- an edge to the left of a point doesn't turn round it
left_turn : (x y : ℤ) (e : Edge) → (e.a.x ≤ℤ x) × (e.b.x ≤ℤ x) → turn_at x y e ≡ pos 0
left_turn x y e k = by_order (order (low e).y y)
    (λ l. by_order (order (high e).y y) (λ h. turn_above x y e h) (λ h.
    let n = ends (λ p. p.x ≤ℤ x) e k.0 k.1 in
    let o = line_left x y e n.0 n.1 l h in
    let d = left_at e x y in
    let f : int_lt (pos 0) (left_of e x y (pos 1)) ≡ false = sym (omega (arith, ints, o, d)) in
    turn_between x y e l h ∙ ap (λ (t : Bool). if t then heading e else pos 0) f))
    (λ l. turn_below x y e l)

-- an edge to the right of a point turns round it as it passes its height
right_turn : (x y : ℤ) (e : Edge) → (x <ℤ e.a.x) × (x <ℤ e.b.x) → turn_at x y e ≡ turn_before (Row y) e
right_turn x y e k = by_order (order (low e).y y)
    (λ l. by_order (order (high e).y y) (λ h. turn_above x y e h ∙ sym (passage_above (pos 0) y e h)) (λ h.
    let n = ends (λ p. x <ℤ p.x) e k.0 k.1 in
    let o = line_right x y e n.0 n.1 l h in
    let d = left_at e x y in
    let f : int_lt (pos 0) (left_of e x y (pos 1)) ≡ true = sym (omega (arith, ints, o, d)) in
    turn_between x y e l h ∙ ap (λ (t : Bool). if t then heading e else pos 0) f
    ∙ sym (passage_between (pos 0) y e l h)))
    (λ l. turn_below x y e l ∙ sym (passage_below (pos 0) y e l))

pub right_of_all : (x y : ℤ) (es : List Edge) → All (λ e. (e.a.x ≤ℤ x) × (e.b.x ≤ℤ x)) es
    → wind (whole (at x y)) (segments es) ≡ pos 0
right_of_all x y es h =
    none_turn (λ e. (e.a.x ≤ℤ x) × (e.b.x ≤ℤ x)) (whole (at x y)) (λ e k. left_turn x y e k) es h

all_pass : (x y : ℤ) (es : List Edge) → AllByRecursion (λ e. (x <ℤ e.a.x) × (x <ℤ e.b.x)) es
    → wind (whole (at x y)) (segments es) ≡ turns_before (Row y) es
all_pass x y [] h = refl
all_pass x y (e ∷ es) h = let a = right_turn x y e h.0 in let b = all_pass x y es h.1 in omega (arith, ints, a, b)

pub left_of_all : (x y : ℤ) (outlines : List (List Pt))
    → All (λ e. (x <ℤ e.a.x) × (x <ℤ e.b.x)) (flat_map sides outlines)
    → wind (whole (at x y)) (segments (flat_map sides outlines)) ≡ pos 0
left_of_all x y outlines h =
    all_pass x y (flat_map sides outlines)
    (recursion_from_All (λ e. (x <ℤ e.a.x) × (x <ℤ e.b.x)) (flat_map sides outlines) h)
    ∙ none_before (Row y) outlines

-- ---- far from the origin
-- a number that is at least as great in size as all coordinates
abbrev pub extent : List Edge → ℕ
extent [] = 0
extent (e ∷ es) =
    (unsigned_abs e.a.x + unsigned_abs e.a.y) + ((unsigned_abs e.b.x + unsigned_abs e.b.y) + extent es)

all_within : (n : ℕ) (es : List Edge) → extent es ≤ n → AllByRecursion (IsEdgeWithin n) es
all_within n [] h = tt
all_within n (e ∷ es) h = (
  record {
    a = record { x = omega (arith, h); y = omega (arith, h) };
    b = record { x = omega (arith, h); y = omega (arith, h) };
  },
  all_within n es (omega (arith, h)),
)

pub extent_within : (es : List Edge) → All (IsEdgeWithin (extent es)) es
extent_within es = All-from_recursion (IsEdgeWithin (extent es)) es (all_within (extent es) es (omega arith))

module _ (outlines : List (List Pt)) where
  abbrev es : List Edge
  es = flat_map sides outlines

  abbrev n : ℕ
  n = extent es

  -- outlines don't wind round the points of a line far before and far behind
  pub none_far : (line : Line) (z : ℤ) → (z <ℤ (pos 0 -ℤ pos n)) ⊎ (pos n <ℤ z)
      → wind (whole (point_on line z)) (segments es) ≡ pos 0
  none_far (Row y) z (inl h) =
      left_of_all z y outlines (All-weaker (IsEdgeWithin n) (λ e. (z <ℤ e.a.x) × (z <ℤ e.b.x))
      (λ e k. let f = k.a.x in let g = k.b.x in (omega (arith, ints, f, h), omega (arith, ints, g, h))) es
      (extent_within es))
  none_far (Row y) z (inr h) =
      right_of_all z y es (All-weaker (IsEdgeWithin n) (λ e. (e.a.x ≤ℤ z) × (e.b.x ≤ℤ z))
      (λ e k. let f = k.a.x in let g = k.b.x in (omega (arith, ints, f, h), omega (arith, ints, g, h))) es
      (extent_within es))
  none_far (Column x) z (inl h) =
      below_all x z es (All-weaker (IsEdgeWithin n) (λ e. (z <ℤ e.a.y) × (z <ℤ e.b.y))
      (λ e k. let f = k.a.y in let g = k.b.y in (omega (arith, ints, f, h), omega (arith, ints, g, h))) es
      (extent_within es))
  none_far (Column x) z (inr h) =
      above_all x z es (All-weaker (IsEdgeWithin n) (λ e. (e.a.y ≤ℤ z) × (e.b.y ≤ℤ z))
      (λ e k. let f = k.a.y in let g = k.b.y in (omega (arith, ints, f, h), omega (arith, ints, g, h))) es
      (extent_within es))
