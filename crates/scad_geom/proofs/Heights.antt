-- Comparing heights over different divisors, and the heights at which two edges meet.
use Rattle.std.proofs.Common.{◌≡◌, zero, suc, Bool, true, false, not, cond, ◌&&◌, ◌||◌, List, [], ◌∷◌, refl, sym, ◌∙◌, arith, subst}
use Rattle.std.proofs.Math.Bool.{and_comm}
use Rattle.scad_base.proofs.Integers.{gap_of_less, gap_of_at_most, less_of_gap, at_most_of_gap}
use Rattle.scad_base.proofs.Lists.{AllByRecursion-append}
use lib.IntN.{ℤ, pos, negsuc, ◌+ℤ◌, ◌-ℤ◌, ◌*ℤ◌, neg_ℤ, neg_ℤ-neg_ℤ}
use lib.Signed.{◌<ℤ◌, ◌≤ℤ◌}
use Rattle.std.specs.Prelude.{int_lt, int_le, if◌then◌else◌}
use Rattle.std.specs.List.{AllByRecursion}
use Rattle.std.proofs.lemmas.Int.{ints}
use Rattle.scad_geom.specs.declared.point.Edge.{Edge}
use Rattle.scad_geom.specs.declared.level.Level.{Level}
use Rattle.scad_geom.specs.declared.level.LeafEdge.{LeafEdge}
use Rattle.scad_geom.specs.Line.{low, high, rise, run, offset, left_of, lean, apart}
use Rattle.scad_geom.specs.Sign.{is_zero}
use Rattle.scad_geom.specs.Level.{level_of, IsLower, IsAtMost, IsSameHeight}
use Rattle.scad_geom.specs.Meeting.{straddles, meets, meeting}
use Rattle.scad_geom.specs.Heights.{meetings, heights}
use Rattle.scad_geom.proofs.Ring.{ring, num, ◌⊕◌, ◌⊖◌, ◌⊗◌, v0, v1, v2, v3, v4, v5}
use Rattle.scad_base.proofs.Products.{positive_product}
use Rattle.scad_geom.proofs.Signs.{at_least_mul, pos_left, at_least_left}
use Rattle.scad_geom.proofs.Lines.{low_by, high_by}
use Rattle.scad_geom.proofs.Integers.{neg_mul}
use Rattle.std.proofs.lemmas.Bool.{true≢false}

chain : (a p b q c r : ℤ) → (c *ℤ p -ℤ a *ℤ r) *ℤ q ≡ (c *ℤ q -ℤ b *ℤ r) *ℤ p +ℤ (b *ℤ p -ℤ a *ℤ q) *ℤ r
chain a p b q c r = ring (a ∷ p ∷ b ∷ q ∷ c ∷ r ∷ []) ((v4 ⊗ v1 ⊖ v0 ⊗ v5) ⊗ v3)
    ((v4 ⊗ v3 ⊖ v2 ⊗ v5) ⊗ v1 ⊕ (v2 ⊗ v1 ⊖ v0 ⊗ v3) ⊗ v5) refl

-- transitivity, by which of the two steps is strict
pub lower_then_at_most : (p q r : Level) → pos 0 <ℤ p.d → pos 0 <ℤ q.d → pos 0 <ℤ r.d → IsLower p q → IsAtMost q r
    → IsLower p r
lower_then_at_most p q r dp dq dr h k =
    let s : pos 0 ≤ℤ ((r.n *ℤ q.d -ℤ q.n *ℤ r.d) *ℤ p.d) = at_least_mul _ _ (gap_of_at_most _ _ k) (omega (arith, ints))
    in
    let t : pos 0 <ℤ ((q.n *ℤ p.d -ℤ p.n *ℤ q.d) *ℤ r.d) = positive_product _ _ (gap_of_less _ _ h) dr in
    let u = chain p.n p.d q.n q.d r.n r.d in
    less_of_gap _ _ (pos_left (r.n *ℤ p.d -ℤ p.n *ℤ r.d) q.d dq (rw u (omega (arith, ints, s, t))))

pub at_most_then_lower : (p q r : Level) → pos 0 <ℤ p.d → pos 0 <ℤ q.d → pos 0 <ℤ r.d → IsAtMost p q → IsLower q r
    → IsLower p r
at_most_then_lower p q r dp dq dr h k =
    let s : pos 0 <ℤ ((r.n *ℤ q.d -ℤ q.n *ℤ r.d) *ℤ p.d) = positive_product _ _ (gap_of_less _ _ k) dp in
    let t : pos 0 ≤ℤ ((q.n *ℤ p.d -ℤ p.n *ℤ q.d) *ℤ r.d) = at_least_mul _ _ (gap_of_at_most _ _ h) (omega (arith, ints))
    in
    let u = chain p.n p.d q.n q.d r.n r.d in
    less_of_gap _ _ (pos_left (r.n *ℤ p.d -ℤ p.n *ℤ r.d) q.d dq (rw u (omega (arith, ints, s, t))))

pub at_most_chain : (p q r : Level) → pos 0 <ℤ p.d → pos 0 <ℤ q.d → pos 0 <ℤ r.d → IsAtMost p q → IsAtMost q r
    → IsAtMost p r
at_most_chain p q r dp dq dr h k =
    let s : pos 0 ≤ℤ ((r.n *ℤ q.d -ℤ q.n *ℤ r.d) *ℤ p.d) = at_least_mul _ _ (gap_of_at_most _ _ k) (omega (arith, ints))
    in
    let t : pos 0 ≤ℤ ((q.n *ℤ p.d -ℤ p.n *ℤ q.d) *ℤ r.d) = at_least_mul _ _ (gap_of_at_most _ _ h) (omega (arith, ints))
    in
    let u = chain p.n p.d q.n q.d r.n r.d in
    at_most_of_gap _ _ (at_least_left (r.n *ℤ p.d -ℤ p.n *ℤ r.d) q.d dq (rw u (omega (arith, ints, s, t))))

pub lower_weak : (p q : Level) → IsLower p q → IsAtMost p q
lower_weak p q h = omega (arith, ints)

-- of two levels of one height each is at most the other, and the other way round
pub same_at_least : (p q : Level) → IsSameHeight p q → IsAtMost p q
same_at_least p q h = omega (arith, ints)

pub same_at_most : (p q : Level) → IsSameHeight p q → IsAtMost q p
same_at_most p q h = omega (arith, ints)

pub same_height : (p q : Level) → IsAtMost p q → IsAtMost q p → IsSameHeight p q
same_height p q h k = omega (arith, ints)

pub same_chain : (p q r : Level) → pos 0 <ℤ p.d → pos 0 <ℤ q.d → pos 0 <ℤ r.d → IsSameHeight p q → IsSameHeight q r
    → IsSameHeight p r
same_chain p q r dp dq dr h k =
    same_height p r
    (at_most_chain p q r dp dq dr (same_at_least p q h) (same_at_least q r k))
    (at_most_chain r q p dr dq dp (same_at_most q r k) (same_at_most p q h))

pub same_lower : (p q r : Level) → pos 0 <ℤ p.d → pos 0 <ℤ q.d → pos 0 <ℤ r.d → IsSameHeight p q → IsLower q r
    → IsLower p r
same_lower p q r dp dq dr h k = at_most_then_lower p q r dp dq dr (same_at_least p q h) k

pub lower_same : (p q r : Level) → pos 0 <ℤ p.d → pos 0 <ℤ q.d → pos 0 <ℤ r.d → IsLower p q → IsSameHeight q r
    → IsLower p r
lower_same p q r dp dq dr h k = lower_then_at_most p q r dp dq dr h (same_at_least q r k)

pub lower_chain : (p q r : Level) → pos 0 <ℤ p.d → pos 0 <ℤ q.d → pos 0 <ℤ r.d → IsLower p q → IsLower q r → IsLower p r
lower_chain p q r dp dq dr h k = lower_then_at_most p q r dp dq dr h (lower_weak q r k)

-- ---- two edges that meet
-- an edge that isn't flat and whose ends lie outside two heights or at them
pub record Reaches (e : Edge) (l u : Level) : Type 0 where
  pub rises : pos 0 <ℤ rise e
  pub from : IsAtMost (level_of (low e).y) l
  pub to : IsAtMost u (level_of (high e).y)

-- the height at which two lines meet, where the first leans more to the right
abbrev pub meeting_up : Edge → Edge → Level
meeting_up e f = record { n = neg_ℤ (apart e f); d = lean e f }

turned_above : (z s a y b : ℤ) → z *ℤ s ≡ neg_ℤ a *ℤ y +ℤ neg_ℤ b *ℤ pos 1 → pos 0 <ℤ s → (y *ℤ a) <ℤ (neg_ℤ b *ℤ pos 1)
    → pos 0 <ℤ z
turned_above z s a y b e p h =
    let k : pos 0 <ℤ (z *ℤ s) = rw e (rw neg_mul (omega (arith, ints))) in
    pos_left z s p k

turned_below : (z s a y b : ℤ) → z *ℤ s ≡ neg_ℤ a *ℤ y +ℤ neg_ℤ b *ℤ pos 1 → pos 0 <ℤ s → (neg_ℤ b *ℤ pos 1) <ℤ (y *ℤ a)
    → z <ℤ pos 0
turned_below z s a y b e p h =
    let k : pos 0 <ℤ (neg_ℤ (z *ℤ s)) = rw e (simp neg_mul (omega (arith, ints))) in
    let m : pos 0 <ℤ neg_ℤ z = pos_left (neg_ℤ z) s p (rw neg_mul k) in
    omega (arith, ints)

is_zero-neg : (z : ℤ) → is_zero (neg_ℤ z) ≡ is_zero z
is_zero-neg (pos zero) = refl
is_zero-neg (pos (suc n)) = refl
is_zero-neg (negsuc n) = refl

below_line : (z s a y b : ℤ) → z *ℤ s ≡ a *ℤ y +ℤ b *ℤ pos 1 → pos 0 <ℤ s → (y *ℤ a) <ℤ (neg_ℤ b *ℤ pos 1) → z <ℤ pos 0
below_line z s a y b e p h =
    let k : pos 0 <ℤ (neg_ℤ (z *ℤ s)) = rw e (omega (arith, ints)) in
    let m : pos 0 <ℤ neg_ℤ z = pos_left (neg_ℤ z) s p (rw neg_mul k) in
    omega (arith, ints)

above_line : (z s a y b : ℤ) → z *ℤ s ≡ a *ℤ y +ℤ b *ℤ pos 1 → pos 0 <ℤ s → (neg_ℤ b *ℤ pos 1) <ℤ (y *ℤ a) → pos 0 <ℤ z
above_line z s a y b e p h =
    let k : pos 0 <ℤ (z *ℤ s) = rw e (omega (arith, ints)) in
    pos_left z s p k

low_below : (e f : Edge) (l u : Level) → pos 0 <ℤ l.d → pos 0 <ℤ lean e f → Reaches f l u → IsLower l (meeting_up e f)
    → left_of e (low f).x (low f).y (pos 1) <ℤ pos 0
low_below e f l u dl a r h =
    let c : IsLower (level_of (low f).y) (meeting_up e f) = at_most_then_lower (level_of (low f).y) l (meeting_up e f)
    (omega (arith, ints)) dl a r.from h in
    below_line _ (rise f) (lean e f) (low f).y (apart e f) (low_by e f) r.rises c

high_above : (e f : Edge) (l u : Level) → pos 0 <ℤ u.d → pos 0 <ℤ lean e f → Reaches f l u → IsLower (meeting_up e f) u
    → pos 0 <ℤ left_of e (high f).x (high f).y (pos 1)
high_above e f l u du a r h =
    let c : IsLower (meeting_up e f) (level_of (high f).y) = lower_then_at_most (meeting_up e f) u (level_of (high f).y)
    a du (omega (arith, ints)) h r.to in
    above_line _ (rise f) (lean e f) (high f).y (apart e f) (high_by e f) r.rises c

turned_lean : (u r v s : ℤ) → v *ℤ r -ℤ u *ℤ s ≡ pos 0 -ℤ (u *ℤ s -ℤ v *ℤ r)
turned_lean u r v s = ring (u ∷ r ∷ v ∷ s ∷ []) (v2 ⊗ v1 ⊖ v0 ⊗ v3) (num (pos 0) ⊖ (v0 ⊗ v3 ⊖ v2 ⊗ v1)) refl

-- the two edges in the other order
pub lean_turned : (e f : Edge) → lean f e ≡ neg_ℤ (lean e f)
unfolding lean
lean_turned e f = turned_lean (run e) (rise e) (run f) (rise f) ∙ omega (arith, ints)

pub apart_turned : (e f : Edge) → apart f e ≡ neg_ℤ (apart e f)
unfolding apart
apart_turned e f = turned_lean (offset e) (rise e) (offset f) (rise f) ∙ omega (arith, ints)

-- the ends of e to the line of f, which e crosses the other way
low_above' : (e f : Edge) (l u : Level) → pos 0 <ℤ l.d → pos 0 <ℤ lean e f → Reaches e l u → IsLower l (meeting_up e f)
    → pos 0 <ℤ left_of f (low e).x (low e).y (pos 1)
low_above' e f l u dl a r h =
    let c : IsLower (level_of (low e).y) (meeting_up e f) = at_most_then_lower (level_of (low e).y) l (meeting_up e f)
    (omega (arith, ints)) dl a r.from h in
    let t = low_by f e in
    let t' = rw (lean_turned e f, apart_turned e f) at t in
    turned_above _ (rise e) (lean e f) (low e).y (apart e f) t' r.rises c

high_below' : (e f : Edge) (l u : Level) → pos 0 <ℤ u.d → pos 0 <ℤ lean e f → Reaches e l u → IsLower (meeting_up e f) u
    → left_of f (high e).x (high e).y (pos 1) <ℤ pos 0
high_below' e f l u du a r h =
    let c : IsLower (meeting_up e f) (level_of (high e).y) = lower_then_at_most (meeting_up e f) u (level_of (high e).y)
    a du (omega (arith, ints)) h r.to in
    let t = high_by f e in
    let t' = rw (lean_turned e f, apart_turned e f) at t in
    turned_below _ (rise e) (lean e f) (high e).y (apart e f) t' r.rises c

both_true : (s t : ℤ) → s <ℤ pos 0 → pos 0 <ℤ t
    → ((int_le s (pos 0) && int_le (pos 0) t) || (int_le (pos 0) s && int_le t (pos 0))) ≡ true
both_true s t h k =
    let p : int_le s (pos 0) ≡ true = sym (omega (arith, ints)) in
    let q : int_le (pos 0) t ≡ true = sym (omega (arith, ints)) in
    rw (p, q)

both_true' : (s t : ℤ) → pos 0 <ℤ s → t <ℤ pos 0
    → ((int_le s (pos 0) && int_le (pos 0) t) || (int_le (pos 0) s && int_le t (pos 0))) ≡ true
both_true' s t h k =
    let p : int_le s (pos 0) ≡ false = sym (omega (arith, ints)) in
    let q : int_le (pos 0) s ≡ true = sym (omega (arith, ints)) in
    let r : int_le t (pos 0) ≡ true = sym (omega (arith, ints)) in
    rw (p, q, r)

pos_not_zero : (z : ℤ) → pos 0 <ℤ z → is_zero z ≡ false
pos_not_zero (pos zero) h = absurd (omega (arith, ints))
pos_not_zero (pos (suc n)) h = refl
pos_not_zero (negsuc n) h = refl

-- two edges that reach two heights, whose lines meet between them, meet there
pub meets_between : (e f : Edge) (l u : Level) → pos 0 <ℤ l.d → pos 0 <ℤ u.d → Reaches e l u → Reaches f l u
    → pos 0 <ℤ lean e f
    → IsLower l (meeting_up e f) → IsLower (meeting_up e f) u → meets e f ≡ true
unfolding meets straddles
meets_between e f l u dl du re rf a h k =
    let p = both_true _ _ (low_below e f l u dl a rf h) (high_above e f l u du a rf k) in
    let q = both_true' _ _ (low_above' e f l u dl a re h) (high_below' e f l u du a re k) in
    rw (pos_not_zero (lean e f) a, p, q)

pub meets_turned : (e f : Edge) → meets f e ≡ meets e f
unfolding meets
meets_turned e f = rw (lean_turned e f, is_zero-neg (lean e f), and_comm (straddles f e) (straddles e f))

pub meeting_is : (e f : Edge) → pos 0 <ℤ lean e f → meeting e f ≡ meeting_up e f
unfolding meeting
meeting_is e f a = let p : int_lt (pos 0) (lean e f) ≡ true = sym (omega (arith, ints)) in rw p

pub meeting_turned : (e f : Edge) → pos 0 <ℤ lean e f → meeting f e ≡ meeting_up e f
unfolding meeting
meeting_turned e f a =
    let p : int_lt (pos 0) (neg_ℤ (lean e f)) ≡ false = sym (omega (arith, ints)) in
    rw (lean_turned e f, apart_turned e f, p, neg_ℤ-neg_ℤ (lean e f))

-- ---- the divisors of heights are positive
meeting_divisor : (a : ℤ) → (is_zero a ≡ false) → pos 0 <ℤ (cond (int_lt (pos 0) a) a (neg_ℤ a))
meeting_divisor (pos zero) h = absurd (true≢false h)
meeting_divisor (pos (suc n)) h = let p : int_lt (pos 0) (pos (suc n)) ≡ true = sym (omega (arith, ints)) in rw p (omega (arith, ints))
meeting_divisor (negsuc n) h = omega (arith, ints)

cond_d : (t : Bool) (p q : Level) → (if t then p else q).d ≡ cond t p.d q.d
cond_d true p q = refl
cond_d false p q = refl

meets_not_zero : (a b : Bool) → (not a && b) ≡ true → a ≡ false
meets_not_zero true b h = cc
meets_not_zero false b h = refl

pub meeting_positive : (e f : Edge) → meets e f ≡ true → pos 0 <ℤ (meeting e f).d
unfolding meets meeting
meeting_positive e f h =
    let z : is_zero (lean e f) ≡ false = meets_not_zero (is_zero (lean e f)) (straddles e f && straddles f e) h in
    subst (λ (z : ℤ). pos 0 <ℤ z)
    (sym (cond_d (int_lt (pos 0) (lean e f)) (record { n = neg_ℤ (apart e f); d = lean e f })
    (record { n = apart e f; d = neg_ℤ (lean e f) }))) (meeting_divisor (lean e f) z)

meetings_positive : (e : Edge) (fs : List LeafEdge) → AllByRecursion (λ (h : Level). pos 0 <ℤ h.d) (meetings e fs)
meetings_positive e [] = tt
meetings_positive e (f ∷ fs) = by_test (meets e f.edge) refl (meetings_positive e fs)
  where
    by_test : (t : Bool) → meets e f.edge ≡ t → AllByRecursion (λ (h : Level). pos 0 <ℤ h.d) (meetings e fs)
        → AllByRecursion (λ (h : Level). pos 0 <ℤ h.d) (if t then meeting e f.edge ∷ meetings e fs else meetings e fs)
    by_test true q r = (meeting_positive e f.edge q, r)
    by_test false q r = r

pub heights_positive : (es : List LeafEdge) → AllByRecursion (λ (h : Level). pos 0 <ℤ h.d) (heights es)
heights_positive [] = tt
heights_positive (e ∷ es) =
    let one : pos 0 <ℤ pos 1 = omega (arith, ints) in (
      one,
      (
        one,
        AllByRecursion-append (λ (h : Level). pos 0 <ℤ h.d) (meetings e.edge es) (heights es)
            (meetings_positive e.edge es) (heights_positive es),
      ),
    )
