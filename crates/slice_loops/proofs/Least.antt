-- A loop starts at its least vertex, by y and then by x, which is always a corner.
use Rattle.std.proofs.Common.{◌≡◌, true, false, ◌⊎◌, inl, inr, List, [], ◌∷◌, All, refl, sym, ap, ◌∙◌, subst, arith}
use Rattle.std.proofs.lemmas.Bool.{false_from_ne_true}
use lib.IntN.{ℤ, pos, ◌+ℤ◌, ◌-ℤ◌, ◌*ℤ◌}
use lib.Signed.{◌<ℤ◌, ◌≤ℤ◌}
use Rattle.std.specs.List.{AllByRecursion}
use Rattle.std.specs.Ordering.{is_lt, int_cmp, ordering_then, MatchOrdering}
use Rattle.std.specs.declared.cmp.Ordering.{Ordering}
use Rattle.std.specs.declared.cmp.Ordering.TheVariants.{Less, Equal, Greater}
use Rattle.std.specs.Cmp.{int_ranks}
use Rattle.std.proofs.lemmas.Int.{ints, by_lt_z}
use Rattle.std.proofs.lemmas.List.Elements.{All-head, All-tail}
use Rattle.std.proofs.lemmas.List.Sorted.{All-permutation}
use Rattle.scad_geom.specs.declared.point.Pt.{Pt}
use Rattle.scad_geom.specs.declared.point.Edge.{Edge}
use Rattle.scad_geom.proofs.Ring.{ring, num, ◌⊕◌, ◌⊗◌, v0, v1}
use Rattle.scad_geom.specs.PointOrder.{point_cmp}
use Rattle.slice_loops.specs.Order.{is_less}
use Rattle.slice_loops.specs.Drawing.{TakesLeastFrom, LeadsBack, IsLoop}
use Rattle.slice_loops.specs.Corners.{advance, is_between, last}
use Rattle.slice_loops.proofs.Straight.{IsAhead, ahead_itself, ahead_on, between_turned, straight, flipped}
use Rattle.scad_base.proofs.Integers.{gap_of_less, less_of_fall}
use Rattle.scad_geom.proofs.Signs.{no_gap, falls, climbs}

-- v isn't less than p
abbrev pub IsAtLeast : Pt → Pt → Type 0
IsAtLeast p v = (p.y <ℤ v.y) ⊎ ((p.y ≡ v.y) × (p.x ≤ℤ v.x))

at_least_by : (p v : Pt) (r s : Ordering) → MatchOrdering r (v.y <ℤ p.y) (v.y ≡ p.y) (p.y <ℤ v.y)
    → MatchOrdering s (v.x <ℤ p.x) (v.x ≡ p.x) (p.x <ℤ v.x) → is_lt (ordering_then r s) ≡ false
    → IsAtLeast p v
at_least_by p v Less s h k e = absurd (cc)
at_least_by p v Equal Less h k e = absurd (cc)
at_least_by p v Equal Equal h k e = let same : v.x ≡ p.x = k in inr (sym h, omega (arith, ints))
at_least_by p v Equal Greater h k e = let more : p.x <ℤ v.x = k in inr (sym h, omega (arith, ints))
at_least_by p v Greater s h k e = inl h

at_least : (p v : Pt) → is_lt (point_cmp v p) ≡ false → IsAtLeast p v
at_least p v e = at_least_by p v (int_cmp v.y p.y) (int_cmp v.x p.x) (int_ranks v.y p.y) (int_ranks v.x p.x) e

first_part : (r s : Ordering) → is_lt (ordering_then r s) ≡ false → is_lt r ≡ false
first_part Less s e = e
first_part Equal s e = refl
first_part Greater s e = refl

pub start_at_least : (e f : Edge) → is_less f e ≡ false → IsAtLeast e.a f.a
start_at_least e f h = at_least e.a f.a (first_part (point_cmp f.a e.a) (point_cmp f.b e.b) h)

-- ---- between two that aren't less there isn't the least

-- where the way goes on upwards from p to b, it comes from below
from_below : (k l m n a p b : ℤ) → pos 0 <ℤ k → pos 0 <ℤ l → pos 0 <ℤ m → pos 0 <ℤ n
    → k *ℤ (b -ℤ a) ≡ l *ℤ (b -ℤ p) → m *ℤ (a -ℤ b) ≡ n *ℤ (a -ℤ p) → p <ℤ b → a <ℤ p
from_below k l m n a p b kp lp mp np h e r =
    let up : pos 0 <ℤ (b -ℤ a) = climbs k l (b -ℤ a) (b -ℤ p) kp lp h (gap_of_less p b r) in
    less_of_fall a p (falls n m (a -ℤ p) (a -ℤ b) np mp (sym e) (flipped b a up))

zeros : (s t : ℤ) → s *ℤ pos 0 +ℤ t *ℤ pos 0 ≡ pos 0
zeros s t = ring (s ∷ t ∷ []) (v0 ⊗ num (pos 0) ⊕ v1 ⊗ num (pos 0)) (num (pos 0)) refl

no_advance : (a p b : Pt) → p.x ≡ b.x → p.y ≡ b.y → advance a p b ≡ pos 0
unfolding advance
no_advance a p b hx hy =
    ap (λ (z : ℤ). (p.x -ℤ a.x) *ℤ z +ℤ (p.y -ℤ a.y) *ℤ (b.y -ℤ p.y)) (no_gap b.x p.x (sym hx))
    ∙ ap (λ (z : ℤ). (p.x -ℤ a.x) *ℤ pos 0 +ℤ (p.y -ℤ a.y) *ℤ z) (no_gap b.y p.y (sym hy))
    ∙ zeros (p.x -ℤ a.x) (p.y -ℤ a.y)

not_both : (s t : ℤ) → s <ℤ t → t <ℤ s → ⊥
not_both s t h k = omega (arith, ints)

not_less_equal : (s t : ℤ) → s <ℤ t → t ≡ s → ⊥
not_less_equal s t h k = omega (arith, ints)

not_less_most : (s t : ℤ) → s <ℤ t → t ≤ℤ s → ⊥
not_less_most s t h k = omega (arith, ints)

not_positive : (z : ℤ) → pos 0 <ℤ z → z ≡ pos 0 → ⊥
not_positive z h k = omega (arith, ints)

less_or_equal : (s t : ℤ) → s ≤ℤ t → (s <ℤ t) ⊎ (s ≡ t)
less_or_equal s t h = by_lt_z s t (λ l. inl l) (λ l. inr (omega (arith, ints)))

least_between : (a p b : Pt) → IsAtLeast p a → IsAtLeast p b → is_between a p b ≡ true → ⊥
least_between a p b ha hb t = by_height hb
  where
    on : IsAhead a p b
    on = ahead_on a a p b (ahead_itself a p) t

    back : IsAhead b p a
    back = ahead_on b b p a (ahead_itself b p) (between_turned a p b t)

    below : p.y <ℤ b.y → a.y <ℤ p.y
    below r = from_below on.far on.near back.far back.near a.y p.y b.y on.far_positive on.near_positive
        back.far_positive back.near_positive on.along back.along r

    left : p.x <ℤ b.x → a.x <ℤ p.x
    left r = from_below on.far on.near back.far back.near a.x p.x b.x on.far_positive on.near_positive back.far_positive
        back.near_positive on.across back.across r

    rises : p.y <ℤ b.y → IsAtLeast p a → ⊥
    rises r (inl h) = not_both a.y p.y (below r) h
    rises r (inr h) = not_less_equal a.y p.y (below r) h.0

    -- a to the left of p at the height of b is at the height of p
    runs : p.y ≡ b.y → p.x <ℤ b.x → IsAtLeast p a → ⊥
    runs e r (inl h) = not_less_equal b.y p.y
        (from_below back.far back.near on.far on.near b.y p.y a.y back.far_positive back.near_positive on.far_positive
        on.near_positive back.along on.along h) e
    runs e r (inr h) = not_less_most a.x p.x (left r) h.1

    by_place : p.y ≡ b.y → (p.x <ℤ b.x) ⊎ (p.x ≡ b.x) → ⊥
    by_place e (inl r) = runs e r ha
    by_place e (inr r) = not_positive (advance a p b) (straight a p b t).1 (no_advance a p b r e)

    by_height : IsAtLeast p b → ⊥
    by_height (inl r) = rises r ha
    by_height (inr h) = by_place h.0 (less_or_equal p.x b.x h.1)

pub least_is_corner : (a p b : Pt) → IsAtLeast p a → IsAtLeast p b → is_between a p b ≡ false
least_is_corner a p b ha hb = false_from_ne_true (is_between a p b) (least_between a p b ha hb)

-- ---- the vertices of a loop
way_at_least : (e : Edge) (start : Pt) (vs : List Pt) (p : Pt) (es left : List Edge)
    → All (λ f. is_less f e ≡ false) es → LeadsBack start vs p es left → AllByRecursion (IsAtLeast e.a) vs
way_at_least e start [] p es left a h = tt
way_at_least e start (v ∷ vs) p es left a h =
    let f : Edge = h.2.0 in
    let others : List Edge = h.2.1 in
    let t : TakesLeastFrom p es f others = h.2.2 in
    let all : All (λ f. is_less f e ≡ false) (f ∷ others) = All-permutation (λ (f : Edge). is_less f e ≡ false) es (f ∷ others) t.taken a in
    let here : f.a ≡ v = t.starts ∙ sym h.0 in (
      subst (IsAtLeast e.a) here (start_at_least e f (All-head (λ (f : Edge). is_less f e ≡ false) f others all)),
      way_at_least e start vs f.b others left (All-tail (λ (f : Edge). is_less f e ≡ false) f others all) h.2.3,
    )

pub loop_at_least : (es : List Edge) (l : List Pt) (left : List Edge) (h : IsLoop es l left)
    → AllByRecursion (IsAtLeast h.first.a) h.way
loop_at_least es l left h = way_at_least h.first h.first.a h.way h.first.b h.others left h.least.least h.back

pub itself_at_least : (p : Pt) → IsAtLeast p p
itself_at_least p = inr (refl, omega (arith, ints))

pub last_at_least : (p q : Pt) (qs : List Pt) → IsAtLeast p q → AllByRecursion (IsAtLeast p) qs
    → IsAtLeast p (last q qs)
last_at_least p q [] h a = h
last_at_least p q (r ∷ rs) h a = last_at_least p r rs a.0 a.1
