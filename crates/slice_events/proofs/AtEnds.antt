-- Two edges that meet and aren't kept meet at the height of an end.
use Rattle.std.proofs.Common.{◌≡◌, ◌⊎◌, inl, inr, Bool, true, false, not, cond, ◌&&◌, ◌||◌, [], ◌∷◌, refl, sym, ◌∙◌, arith, subst}
use Rattle.std.proofs.lemmas.Bool.{and_parts, true≢false}
use lib.IntN.{ℤ, pos, ◌+ℤ◌, ◌-ℤ◌, ◌*ℤ◌, neg_ℤ, zero-*ℤ, *ℤ_comm}
use Rattle.std.specs.Prelude.{int_lt, if◌then◌else◌}
use Rattle.std.proofs.lemmas.Int.{ints}
use Rattle.scad_geom.specs.declared.point.Pt.{Pt}
use Rattle.scad_geom.specs.declared.point.Edge.{Edge}
use Rattle.scad_geom.specs.declared.level.Level.{Level}
use Rattle.scad_geom.specs.Point.{whole, is_same_point}
use Rattle.scad_geom.specs.Line.{low, high, rise, run, offset, x_at, left_of, lean, apart}
use Rattle.scad_geom.specs.Level.{level_of, IsSameHeight}
use Rattle.scad_geom.specs.Sign.{is_zero}
use Rattle.scad_geom.specs.Meeting.{meets, meeting}
use Rattle.scad_geom.proofs.Balance.{same_whole, same_place-is}
use Rattle.scad_geom.proofs.Ring.{ring, num, ◌⊕◌, ◌⊖◌, ◌⊗◌, v0, v1, v2, v3, v4, v5, v6, v7}
use Rattle.scad_geom.proofs.Integers.{neg_mul}
use Rattle.scad_geom.proofs.Signs.{zero_true}
use Rattle.slice_events.specs.Levels.{share_end, crosses}
use Rattle.slice_events.specs.KeptHeights.{is_beside, is_rising, are_ends_beside, is_kept}

-- ---- the gap of two lines at the height of a point, by where the point lies to them
gap_at : (u c r v b s x y : ℤ) → (u *ℤ s -ℤ v *ℤ r) *ℤ y +ℤ (c *ℤ s -ℤ b *ℤ r)
    ≡ s *ℤ (u *ℤ y +ℤ c *ℤ pos 1 -ℤ r *ℤ x) -ℤ r *ℤ (v *ℤ y +ℤ b *ℤ pos 1 -ℤ s *ℤ x)
gap_at u c r v b s x y = ring (u ∷ c ∷ r ∷ v ∷ b ∷ s ∷ x ∷ y ∷ [])
    ((v0 ⊗ v5 ⊖ v3 ⊗ v2) ⊗ v7 ⊕ (v1 ⊗ v5 ⊖ v4 ⊗ v2))
    (v5 ⊗ (v0 ⊗ v7 ⊕ v1 ⊗ num (pos 1) ⊖ v2 ⊗ v6) ⊖ v2
    ⊗ (v3 ⊗ v7 ⊕ v4 ⊗ num (pos 1) ⊖ v5 ⊗ v6)) refl

gap_of : (e f : Edge) (x y : ℤ) → lean e f *ℤ y +ℤ apart e f
    ≡ rise f *ℤ left_of e x y (pos 1) -ℤ rise e *ℤ left_of f x y (pos 1)
unfolding left_of x_at lean apart
gap_of e f x y = gap_at (run e) (offset e) (rise e) (run f) (offset f) (rise f) x y

times_none : (a b : ℤ) → b ≡ pos 0 → a *ℤ b ≡ pos 0
times_none a b h = rw h (omega (arith, ints))

none_times : (a b : ℤ) → a ≡ pos 0 → a *ℤ b ≡ pos 0
none_times a b h = rw h (zero-*ℤ b)

no_gap : (z m n : ℤ) → z ≡ m -ℤ n → m ≡ pos 0 → n ≡ pos 0 → z ≡ pos 0
no_gap z m n h k l = omega (arith, ints)

-- the ends of an edge lie on its line
own_low : (a b c d : ℤ) → (c -ℤ a) *ℤ b +ℤ ((d -ℤ b) *ℤ a -ℤ (c -ℤ a) *ℤ b) *ℤ pos 1 -ℤ
    (d -ℤ b) *ℤ a ≡ pos 0
own_low a b c d = ring (a ∷ b ∷ c ∷ d ∷ [])
    ((v2 ⊖ v0) ⊗ v1 ⊕ ((v3 ⊖ v1) ⊗ v0 ⊖ (v2 ⊖ v0) ⊗ v1) ⊗ num (pos 1) ⊖ (v3 ⊖ v1) ⊗ v0)
    (num (pos 0)) refl

own_high : (a b c d : ℤ) → (c -ℤ a) *ℤ d +ℤ ((d -ℤ b) *ℤ a -ℤ (c -ℤ a) *ℤ b) *ℤ pos 1 -ℤ
    (d -ℤ b) *ℤ c ≡ pos 0
own_high a b c d = ring (a ∷ b ∷ c ∷ d ∷ [])
    ((v2 ⊖ v0) ⊗ v3 ⊕ ((v3 ⊖ v1) ⊗ v0 ⊖ (v2 ⊖ v0) ⊗ v1) ⊗ num (pos 1) ⊖ (v3 ⊖ v1) ⊗ v2)
    (num (pos 0)) refl

low_on : (e : Edge) → left_of e (low e).x (low e).y (pos 1) ≡ pos 0
unfolding left_of x_at offset run rise
low_on e = own_low (low e).x (low e).y (high e).x (high e).y

high_on : (e : Edge) → left_of e (high e).x (high e).y (pos 1) ≡ pos 0
unfolding left_of x_at offset run rise
high_on e = own_high (low e).x (low e).y (high e).x (high e).y

on_line : (e : Edge) (p : Pt) → (p ≡ low e) ⊎ (p ≡ high e) → left_of e p.x p.y (pos 1) ≡ pos 0
on_line e p (inl h) = subst (λ (q : Pt). left_of e q.x q.y (pos 1) ≡ pos 0) (sym h) (low_on e)
on_line e p (inr h) = subst (λ (q : Pt). left_of e q.x q.y (pos 1) ≡ pos 0) (sym h) (high_on e)

first_is : (e : Edge) → (e.a ≡ low e) ⊎ (e.a ≡ high e)
unfolding low high
first_is e = by_test (int_lt e.b.y e.a.y)
  where
    by_test : (t : Bool) → (e.a ≡ cond t e.b e.a) ⊎ (e.a ≡ cond t e.a e.b)
    by_test true = inr refl
    by_test false = inl refl

last_is : (e : Edge) → (e.b ≡ low e) ⊎ (e.b ≡ high e)
unfolding low high
last_is e = by_test (int_lt e.b.y e.a.y)
  where
    by_test : (t : Bool) → (e.b ≡ cond t e.b e.a) ⊎ (e.b ≡ cond t e.a e.b)
    by_test true = inl refl
    by_test false = inr refl

first_on : (e : Edge) → left_of e e.a.x e.a.y (pos 1) ≡ pos 0
first_on e = on_line e e.a (first_is e)

last_on : (e : Edge) → left_of e e.b.x e.b.y (pos 1) ≡ pos 0
last_on e = on_line e e.b (last_is e)

-- ---- a height of one of an edge's ends
abbrev pub AtEnd : Edge → Level → Type 0
AtEnd e h = IsSameHeight (level_of e.a.y) h ⊎ IsSameHeight (level_of e.b.y) h

low_end : (e : Edge) (h : Level) → IsSameHeight (level_of (low e).y) h → AtEnd e h
unfolding low
low_end e h = by_test (int_lt e.b.y e.a.y)
  where
    by_test : (t : Bool) → IsSameHeight (level_of (cond t e.b e.a).y) h → AtEnd e h
    by_test true k = inr k
    by_test false k = inl k

high_end : (e : Edge) (h : Level) → IsSameHeight (level_of (high e).y) h → AtEnd e h
unfolding high
high_end e h = by_test (int_lt e.b.y e.a.y)
  where
    by_test : (t : Bool) → IsSameHeight (level_of (cond t e.a e.b).y) h → AtEnd e h
    by_test true k = inl k
    by_test false k = inr k

-- ---- where there is no gap the two meet
upwards : (l a y : ℤ) → l *ℤ y +ℤ a ≡ pos 0 → y *ℤ l ≡ neg_ℤ a *ℤ pos 1
upwards l a y h = let e = *ℤ_comm y l in omega (arith, ints)

downwards : (l a y : ℤ) → l *ℤ y +ℤ a ≡ pos 0 → y *ℤ neg_ℤ l ≡ a *ℤ pos 1
downwards l a y h = let e = *ℤ_comm y (neg_ℤ l) ∙ neg_mul l y in omega (arith, ints)

without_gap : (e f : Edge) (y : ℤ) → lean e f *ℤ y +ℤ apart e f ≡ pos 0
    → IsSameHeight (level_of y) (meeting e f)
unfolding meeting
without_gap e f y h = by_test (int_lt (pos 0) (lean e f))
  where
    by_test : (t : Bool) → IsSameHeight (level_of y)
        (if t then record { n = neg_ℤ (apart e f); d = lean e f } else record
        { n = apart e f; d = neg_ℤ (lean e f) })
    by_test true = upwards (lean e f) (apart e f) y h
    by_test false = downwards (lean e f) (apart e f) y h

-- at a point on both lines
both_on : (e f : Edge) (p : Pt) → left_of e p.x p.y (pos 1) ≡ pos 0 → left_of f p.x p.y (pos 1) ≡ pos 0
    → IsSameHeight (level_of p.y) (meeting e f)
both_on e f p h k =
    without_gap e f p.y (no_gap _ _ _ (gap_of e f p.x p.y) (times_none (rise f) (left_of e p.x p.y (pos 1)) h)
    (times_none (rise e) (left_of f p.x p.y (pos 1)) k))

-- along a flat edge
first_flat : (e f : Edge) → rise e ≡ pos 0 → IsSameHeight (level_of (low e).y) (meeting e f)
first_flat e f h =
    without_gap e f (low e).y (no_gap _ _ _ (gap_of e f (low e).x (low e).y) (times_none (rise f) _ (low_on e))
    (none_times (rise e) (left_of f (low e).x (low e).y (pos 1)) h))

second_flat : (e f : Edge) → rise f ≡ pos 0 → IsSameHeight (level_of (low f).y) (meeting e f)
second_flat e f h =
    without_gap e f (low f).y (no_gap _ _ _ (gap_of e f (low f).x (low f).y)
    (none_times (rise f) (left_of e (low f).x (low f).y (pos 1)) h) (times_none (rise e) _ (low_on f)))

-- ---- of the tests
not_not : (z : ℤ) → not (is_zero z) ≡ false → z ≡ pos 0
not_not z h = zero_true z (back (is_zero z) h)
  where
    back : (b : Bool) → not b ≡ false → b ≡ true
    back true h = refl
    back false h = absurd (true≢false h)

beside_no : (e : Edge) (p : Pt) → is_beside e p ≡ false → left_of e p.x p.y (pos 1) ≡ pos 0
unfolding is_beside
beside_no e p h = not_not (left_of e p.x p.y (pos 1)) h

rising_no : (e : Edge) → is_rising e ≡ false → rise e ≡ pos 0
unfolding is_rising
rising_no e h = not_not (rise e) h

same_ends : (p q : Pt) → is_same_point (whole p) (whole q) ≡ true → p ≡ q
same_ends p q h = same_place-is p q (sym (same_whole p q) ∙ h)

shared : (e f : Edge) (p q : Pt) → left_of e p.x p.y (pos 1) ≡ pos 0 → left_of f q.x q.y (pos 1) ≡ pos 0
    → is_same_point (whole p) (whole q) ≡ true → IsSameHeight (level_of p.y) (meeting e f)
shared e f p q h k s = both_on e f p h (subst (λ (x : Pt). left_of f x.x x.y (pos 1) ≡ pos 0) (sym (same_ends p q s))
    k)

or_is : (a b : Bool) → (a || b) ≡ true → (a ≡ true) ⊎ (b ≡ true)
or_is true b h = inl refl
or_is false b h = inr h

share_height : (e f : Edge) → share_end e f ≡ true → AtEnd e (meeting e f)
share_height e f h =
    elim (or_is _ _ h) [
      | inl c ↦ elim (or_is _ _ c) [
        | inl d ↦ inl (shared e f e.a f.a (first_on e) (first_on f) d)
        | inr d ↦ inl (shared e f e.a f.b (first_on e) (last_on f) d)
      ]
      | inr c ↦ elim (or_is _ _ c) [
        | inl d ↦ inr (shared e f e.b f.a (last_on e) (first_on f) d)
        | inr d ↦ inr (shared e f e.b f.b (last_on e) (last_on f) d)
      ]
    ]

all_kept : (m s a b c d g h : Bool) → m ≡ true → s ≡ false → a ≡ true → b ≡ true → c ≡ true
    → d ≡ true → g ≡ true → h ≡ true → ((m && not s) && ((a && b) && ((c && d) && (g && h)))) ≡ true
all_kept m s a b c d g h x0 x1 x2 x3 x4 x5 x6 x7 = rw (x0, x1, x2, x3, x4, x5, x6, x7)

kept_by : (e f : Edge) → meets e f ≡ true → share_end e f ≡ false → is_rising e ≡ true
    → is_rising f ≡ true
    → is_beside e (low f) ≡ true → is_beside e (high f) ≡ true → is_beside f (low e) ≡ true
    → is_beside f (high e) ≡ true → is_kept e f ≡ true
unfolding is_kept are_ends_beside
kept_by e f m s a b c d g h = all_kept _ _ _ _ _ _ _ _ m s a b c d g h

cases : {P : Type 0} (b : Bool) → (b ≡ true → P) → (b ≡ false → P) → P
cases true y n = y refl
cases false y n = n refl

-- edges that meet are kept, or meet at the height of an end
pub kept_or_end : (e f : Edge) → meets e f ≡ true
    → (is_kept e f ≡ true) ⊎ (AtEnd e (meeting e f) ⊎ AtEnd f (meeting e f))
kept_or_end e f m =
    let h : Level = meeting e f in
    cases (share_end e f) (λ s. inr (inl (share_height e f s))) (λ s.
    cases (is_rising e) (λ a. cases (is_rising f) (λ b.
    cases (is_beside e (low f)) (λ c. cases (is_beside e (high f)) (λ d.
    cases (is_beside f (low e)) (λ g. cases (is_beside f (high e)) (λ k. inl (kept_by e f m s a b c d g k))
    (λ n. inr (inl (high_end e h (both_on e f (high e) (high_on e) (beside_no f (high e) n))))))
    (λ n. inr (inl (low_end e h (both_on e f (low e) (low_on e) (beside_no f (low e) n))))))
    (λ n. inr (inr (high_end f h (both_on e f (high f) (beside_no e (high f) n) (high_on f))))))
    (λ n. inr (inr (low_end f h (both_on e f (low f) (beside_no e (low f) n) (low_on f))))))
    (λ n. inr (inr (low_end f h (second_flat e f (rising_no f n))))))
    (λ n. inr (inl (low_end e h (first_flat e f (rising_no e n))))))

pub kept_then_meets : (e f : Edge) → is_kept e f ≡ true → meets e f ≡ true
unfolding is_kept
kept_then_meets e f h = (and_parts (meets e f) (not (share_end e f))
    ((and_parts (crosses e f) ((is_rising e && is_rising f) && are_ends_beside e f) h).0)).0
