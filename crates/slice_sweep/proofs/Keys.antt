-- What keys say of heights.
use Rattle.std.proofs.Common.{◌≡◌, ◌≤◌, ◌*◌, ◌⊎◌, inl, inr, [], ◌∷◌, refl, subst, arith, ℤ, pos, negsuc, ◌+ℤ◌, ◌-ℤ◌, ◌*ℤ◌, ◌<ℤ◌}
use lib.IntN.{neg_ℤ}
use lib.Signed.{◌≤ℤ◌}
use Rattle.std.specs.Prelude.{unsigned_abs}
use Rattle.std.specs.Int.{int_div_euclid}
use Rattle.std.proofs.lemmas.Int.{ints}
use Rattle.scad_base.proofs.Products.{positive_product, negative_product, negative_factor}
use Rattle.scad_base.proofs.Integers.{gap_of_less}
use Rattle.scad_geom.specs.Limits.{coordinate_limit}
use Rattle.scad_geom.specs.declared.point.Edge.{Edge}
use Rattle.scad_geom.specs.declared.level.Level.{Level}
use Rattle.scad_geom.specs.Line.{rise, run, lean, apart}
use Rattle.scad_geom.specs.Level.{level_of, IsLower, IsAtMost, IsLevelWithin}
use Rattle.scad_geom.specs.EdgeOrder.{IsBefore}
use Rattle.scad_geom.proofs.Heights.{at_most_chain, apart_turned}
use Rattle.scad_geom.proofs.Lines.{gap_is}
use Rattle.scad_geom.proofs.Ring.{ring, num, ◌⊕◌, ◌⊖◌, ◌⊗◌, v0, v1, v2, v3, v4, v5}
use Rattle.scad_geom.proofs.Signs.{at_least_mul, at_most_mul, sub_mul, one_more_times}
use Rattle.slice_bundles.specs.KeptOrder.{IsLeftAt}
use Rattle.slice_sweep.specs.Keys.{parts, IsBelowKey, stale}

pub floor_is : (n d q : ℤ) → pos 0 <ℤ d → q ≡ int_div_euclid n d
    → ((q *ℤ d) ≤ℤ n) × (n <ℤ (q *ℤ d +ℤ d))
floor_is (pos a) (pos d) q h e = rw e (omega (arith, ints), omega (arith, ints))
floor_is (negsuc a) (pos d) q h e = rw e (omega (arith, ints), omega (arith, ints))
floor_is n (negsuc d) q h e = absurd (omega (arith, ints))

pub times_at_most : (a b c : ℤ) → pos 0 <ℤ c → a ≤ℤ b → (a *ℤ c) ≤ℤ (b *ℤ c)
times_at_most a b c h k =
    let m = at_least_mul (b -ℤ a) c (omega (arith, ints)) (omega (arith, ints)) in
    let p = sub_mul b a c in
    omega (arith, ints, m, p)

pub times_less : (a b c : ℤ) → pos 0 <ℤ c → a <ℤ b → (a *ℤ c) <ℤ (b *ℤ c)
times_less a b c h k =
    let m = positive_product (b -ℤ a) c (gap_of_less a b k) h in
    let p = sub_mul b a c in
    omega (arith, ints, m, p)

-- a height is below each key that is greater than the height's, rounded down
pub below_greater : (h : Level) (key wake : ℤ) → pos 0 <ℤ h.d → (h.n *ℤ parts) <ℤ (key *ℤ h.d +ℤ h.d) → key <ℤ wake
    → IsBelowKey h wake
below_greater h key wake d o k =
    let m = times_at_most (key +ℤ pos 1) wake h.d d (omega (arith, ints)) in
    let e = one_more_times key h.d in
    omega (arith, ints, m, e)

-- no height is below the key of what is looked at in any case
pub never_below : (l h : Level) → IsLevelWithin coordinate_limit l → pos 0 <ℤ h.d → IsAtMost l h
    → IsBelowKey h stale → ⊥
never_below l h w d o b =
    let positive = w.positive in
    let size = w.size in
    let one : pos 0 <ℤ pos 1 = omega (arith, ints) in
    let from : IsAtMost (level_of (negsuc 1099999)) l = lowest_at_most l.n l.d positive size in
    let to = at_most_chain (level_of (negsuc 1099999)) l h one positive d from o in
    omega (arith, ints, to, b)
  where
    lowest_at_most : (n d : ℤ) → pos 0 <ℤ d → unsigned_abs n ≤ coordinate_limit * unsigned_abs d
        → (negsuc 1099999 *ℤ d) ≤ℤ (n *ℤ pos 1)
    lowest_at_most n d p s = omega (arith, ints)

-- nor below a lower one
pub never_below_less : (l h : Level) (wake : ℤ) → IsLevelWithin coordinate_limit l → pos 0 <ℤ h.d → IsAtMost l h
    → wake ≤ℤ stale → IsBelowKey h wake → ⊥
never_below_less l h wake w d o k b =
    let m = times_at_most wake stale h.d d k in
    never_below l h w d o (omega (arith, ints, m, b))

swap_last : (a b c : ℤ) → (a *ℤ b) *ℤ c ≡ (a *ℤ c) *ℤ b
swap_last a b c = ring (a ∷ b ∷ c ∷ []) ((v0 ⊗ v1) ⊗ v2) ((v0 ⊗ v2) ⊗ v1) refl

-- a height below a key that isn't above a whole height is below that
pub below_whole : (h : Level) (y wake : ℤ) → pos 0 <ℤ h.d → wake ≤ℤ (y *ℤ parts) → IsBelowKey h wake
    → IsLower h (level_of y)
below_whole h y wake d o b =
    let m = times_at_most wake (y *ℤ parts) h.d d o in
    let e = swap_last y parts h.d in
    omega (arith, ints, m, e, b)

-- ---- two lines
left_by_gap : (e f : Edge) (h : Level) → (lean e f *ℤ h.n +ℤ apart e f *ℤ h.d) <ℤ pos 0 → IsLeftAt h e f
left_by_gap e f h k = let g = gap_is e f h.n h.d in omega (arith, ints, g, k)

gap_by_left : (e f : Edge) (h : Level) → IsLeftAt h e f → (lean e f *ℤ h.n +ℤ apart e f *ℤ h.d) <ℤ pos 0
gap_by_left e f h k = let g = gap_is e f h.n h.d in omega (arith, ints, g, k)

neg_gap : (a b w n d p : ℤ) → (a *ℤ n +ℤ b *ℤ d) *ℤ p
    ≡ ((n *ℤ p) *ℤ a -ℤ (w *ℤ d) *ℤ a) +ℤ ((w *ℤ a) *ℤ d -ℤ ((pos 0 -ℤ b) *ℤ p) *ℤ d)
neg_gap a b w n d p = ring (a ∷ b ∷ w ∷ n ∷ d ∷ p ∷ []) ((v0 ⊗ v3 ⊕ v1 ⊗ v4) ⊗ v5)
    (((v3 ⊗ v5) ⊗ v0 ⊖ (v2 ⊗ v4) ⊗ v0) ⊕ ((v2 ⊗ v0) ⊗ v4 ⊖ ((num (pos 0) ⊖ v1) ⊗ v5) ⊗ v4)) refl

turned_is : (a b : ℤ) → b ≡ neg_ℤ a → b ≡ pos 0 -ℤ a
turned_is a b h = omega (arith, ints)

-- a line stays on the left of one that it leans to up to the key of their meeting
pub left_until : (e f : Edge) (h : Level) (wake : ℤ) → pos 0 <ℤ h.d → pos 0 <ℤ lean e f
    → (wake *ℤ lean e f) ≤ℤ (apart f e *ℤ parts) → IsBelowKey h wake → IsLeftAt h e f
left_until e f h wake d a m b =
    let t : apart f e ≡ pos 0 -ℤ apart e f = turned_is (apart e f) (apart f e) (apart_turned e f) in
    let n : (wake *ℤ lean e f) ≤ℤ ((pos 0 -ℤ apart e f) *ℤ parts) =
    subst (λ (z : ℤ). (wake *ℤ lean e f) ≤ℤ (z *ℤ parts)) t m in
    let x = times_less (h.n *ℤ parts) (wake *ℤ h.d) (lean e f) a b in
    let y = times_at_most (wake *ℤ lean e f) ((pos 0 -ℤ apart e f) *ℤ parts) h.d d n in
    let i = neg_gap (lean e f) (apart e f) wake h.n h.d parts in
    left_by_gap e f h (negative_factor (lean e f *ℤ h.n +ℤ apart e f *ℤ h.d) parts (omega (arith, ints))
    (omega (arith, ints, x, y, i)))

climb : (a b n d m c : ℤ) → (a *ℤ n +ℤ b *ℤ d) *ℤ c ≡ (a *ℤ m +ℤ b *ℤ c) *ℤ d +ℤ a *ℤ (n *ℤ c -ℤ m *ℤ d)
climb a b n d m c = ring (a ∷ b ∷ n ∷ d ∷ m ∷ c ∷ []) ((v0 ⊗ v2 ⊕ v1 ⊗ v3) ⊗ v5) ((v0 ⊗ v4 ⊕ v1 ⊗ v5) ⊗ v3 ⊕ v0 ⊗
    (v2 ⊗ v5 ⊖ v4 ⊗ v3)) refl

lean_below : (e f : Edge) → (run e *ℤ rise f) <ℤ (run f *ℤ rise e) → lean e f <ℤ pos 0
unfolding lean
lean_below e f h = omega (arith, ints)

-- one that it doesn't lean to and that it comes before at a height it never meets above that
pub left_always : (e f : Edge) (l h : Level) → pos 0 <ℤ l.d → pos 0 <ℤ h.d → lean e f ≤ℤ pos 0 → IsBefore l e f
    → IsLower l h → IsLeftAt h e f
left_always e f l h dl dh a o k =
    let i = climb (lean e f) (apart e f) h.n h.d l.n l.d in
    let g : pos 0 <ℤ (h.n *ℤ l.d -ℤ l.n *ℤ h.d) = omega (arith, ints) in
    left_by_gap e f h (negative_factor (lean e f *ℤ h.n +ℤ apart e f *ℤ h.d) l.d dl (elim o [
      | inl c ↦
          let p = gap_by_left e f l c in
          let q = negative_product (lean e f *ℤ l.n +ℤ apart e f *ℤ l.d) h.d dh p in
          let r = at_most_mul (lean e f) (h.n *ℤ l.d -ℤ l.n *ℤ h.d) a (omega (arith, ints)) in
          omega (arith, ints, i, q, r)
      | inr c ↦
          let c0 = c.0 in
          let w = gap_is e f l.n l.d in
          let p : (lean e f *ℤ l.n +ℤ apart e f *ℤ l.d) ≤ℤ pos 0 = omega (arith, ints, w) in
          let q = at_most_mul (lean e f *ℤ l.n +ℤ apart e f *ℤ l.d) h.d p (omega (arith, ints)) in
          let r = negative_product (lean e f) (h.n *ℤ l.d -ℤ l.n *ℤ h.d) g (lean_below e f c.1) in
          omega (arith, ints, i, q, r)
    ]))

-- as the code finds the key of a meeting
pub meeting_by : (key q l lean n a apart : ℤ) → (key ≤ℤ stale) ⊎ (key ≤ℤ q) → (q *ℤ l) ≤ℤ n → n ≡ a *ℤ parts → l ≡ lean
    → a ≡ apart → pos 0 <ℤ lean → (key ≤ℤ stale) ⊎ ((key *ℤ lean) ≤ℤ (apart *ℤ parts))
meeting_by key q l lean n a apart (inl k) o e f g p = inl k
meeting_by key q l lean n a apart (inr k) o e f g p =
    let m = times_at_most key q lean p k in
    let o' : (q *ℤ lean) ≤ℤ n = subst (λ (z : ℤ). (q *ℤ z) ≤ℤ n) f o in
    let e' : n ≡ apart *ℤ parts = subst (λ (z : ℤ). n ≡ z *ℤ parts) g e in
    inr (omega (arith, ints, m, o', e'))
