-- The tests of `octagon_meets` decide.
use Rattle.std.proofs.Common.{◌≡◌, ◌⊎◌, inl, inr, Bool, true, false, ◌&&◌, [], ◌∷◌, refl}
use Rattle.std.proofs.Common.{sym, subst, arith, ℤ, pos, neg_ℤ, ◌+ℤ◌, ◌-ℤ◌, ◌*ℤ◌, ◌<ℤ◌}
use lib.Signed.{◌≤ℤ◌}
use Rattle.std.specs.Prelude.{if◌then◌else◌, ◌||◌, int_le}
use Rattle.std.proofs.lemmas.Int.{ints}
use Rattle.std.proofs.lemmas.Bool.{and_parts}
use Rattle.scad_base.proofs.Tests.{int_le-true, int_le-at_most}
use Rattle.scad_base.proofs.Products.{positive_product}
use Rattle.scad_geom.proofs.Signs.{at_least_mul, square_at_least}
use Rattle.scad_geom.proofs.Rising.{order}
use Rattle.scad_geom.proofs.Ring.{ring, num, ◌⊕◌, ◌⊖◌, ◌⊗◌, v0, v1, v2, v3}
use Rattle.scad_ring.specs.Tests.{overlaps, is_size, breadth, passes}
use Rattle.scad_ring.proofs.Convex.{Lies, cross, found, Test, gap_times}
use Rattle.scad_ring.proofs.Octants.{End, Ends, Approach, IsSize, approach, approach_point, ends, right_line}
use Rattle.scad_ring.proofs.Octants.{steep_right_line, steep_left_line, left_line, right_corner, steep_right_corner}
use Rattle.scad_ring.proofs.Octants.{steep_left_corner, left_corner, right_is, left_is, over_is, below_is}
use Rattle.scad_ring.proofs.Octants.{over_right_is, below_right_is, over_left_is, below_left_is, right_between}
use Rattle.scad_ring.proofs.Octants.{left_between, over_between, below_between, over_right_between, below_right_between}
use Rattle.scad_ring.proofs.Octants.{over_left_between, below_left_between}

-- ---- tests as facts
or_parts : (a b : Bool) → (a || b) ≡ true → (a ≡ true) ⊎ (b ≡ true)
or_parts true b h = inl refl
or_parts false b h = inr h

one_of : (a b : Bool) → (a ≡ true) ⊎ (b ≡ true) → (a || b) ≡ true
one_of a b (inl h) = rw h refl
one_of true b (inr h) = refl
one_of false b (inr h) = h

-- a half plane's value is a coordinate, a sum or a difference of coordinates, or minus it
most_end : (n m w ax ay bx by a b : ℤ) → n *ℤ ax +ℤ m *ℤ ay ≡ a → n *ℤ bx +ℤ m *ℤ by ≡ b
    → (int_le a w || int_le b w) ≡ true → End n m w ax ay bx by
most_end n m w ax ay bx by a b e f h = elim (or_parts (int_le a w) (int_le b w) h) [
  | inl p ↦ inl (omega (arith, ints, p, e))
  | inr p ↦ inr (omega (arith, ints, p, f))
]

least_end : (n m w ax ay bx by a b : ℤ) → n *ℤ ax +ℤ m *ℤ ay ≡ pos 0 -ℤ a
    → n *ℤ bx +ℤ m *ℤ by ≡ pos 0 -ℤ b
    → (int_le (neg_ℤ w) a || int_le (neg_ℤ w) b) ≡ true → End n m w ax ay bx by
least_end n m w ax ay bx by a b e f h = elim (or_parts (int_le (neg_ℤ w) a) (int_le (neg_ℤ w) b) h) [
  | inl p ↦ inl (omega (arith, ints, p, e))
  | inr p ↦ inr (omega (arith, ints, p, f))
]

end_most : (n m w ax ay bx by a b : ℤ) → n *ℤ ax +ℤ m *ℤ ay ≡ a → n *ℤ bx +ℤ m *ℤ by ≡ b
    → End n m w ax ay bx by → (int_le a w || int_le b w) ≡ true
end_most n m w ax ay bx by a b e f (inl h) = one_of (int_le a w) (int_le b w) (inl (int_le-at_most a w (omega (
  arith,
  ints,
  h,
  e,
))))
end_most n m w ax ay bx by a b e f (inr h) = one_of (int_le a w) (int_le b w) (inr (int_le-at_most b w (omega (
  arith,
  ints,
  h,
  f,
))))

end_least : (n m w ax ay bx by a b : ℤ) → n *ℤ ax +ℤ m *ℤ ay ≡ pos 0 -ℤ a
    → n *ℤ bx +ℤ m *ℤ by ≡ pos 0 -ℤ b
    → End n m w ax ay bx by → (int_le (neg_ℤ w) a || int_le (neg_ℤ w) b) ≡ true
end_least n m w ax ay bx by a b e f (inl h) = one_of (int_le (neg_ℤ w) a) (int_le (neg_ℤ w) b)
    (inl (int_le-at_most (neg_ℤ w) a (omega (arith, ints, h, e))))
end_least n m w ax ay bx by a b e f (inr h) = one_of (int_le (neg_ℤ w) a) (int_le (neg_ℤ w) b)
    (inr (int_le-at_most (neg_ℤ w) b (omega (arith, ints, h, f))))

size_if : (c k : ℤ) → int_le (neg_ℤ c) k ≡ true → int_le k c ≡ true → IsSize c k
size_if c k l m = record { least = omega (arith, ints, l); most = omega (arith, ints, m) }

from_back : (c k : ℤ) → (pos 0 -ℤ c) ≤ℤ k → neg_ℤ c ≤ℤ k
from_back c k h = omega (arith, ints)

-- what the tests of an octant say
at_most_if_not : (a b : ℤ) → int_le a b ≡ false → b ≤ℤ a
at_most_if_not a b h = omega (arith, ints, h)

back_if : (x y : ℤ) → int_le (x +ℤ y) (pos 0) ≡ true → y ≤ℤ (pos 0 -ℤ x)
back_if x y h = omega (arith, ints, h)

back_if_not : (x y : ℤ) → int_le (x +ℤ y) (pos 0) ≡ false → (pos 0 -ℤ x) ≤ℤ y
back_if_not x y h = omega (arith, ints, h)

-- how far the corners of an octant reach, as the code finds it
right_reach : (S T x y : ℤ) → cross T (pos 0 -ℤ S) x y ≡ S *ℤ x +ℤ T *ℤ y
right_reach S T x y = ring (S ∷ T ∷ x ∷ y ∷ []) (v1 ⊗ v3 ⊖ (num (pos 0) ⊖ v0) ⊗ v2) (v0 ⊗ v2 ⊕ v1 ⊗ v3) refl

steep_reach : (S T x y : ℤ) → cross S (pos 0 -ℤ T) x y ≡ S *ℤ y +ℤ T *ℤ x
steep_reach S T x y = ring (S ∷ T ∷ x ∷ y ∷ []) (v0 ⊗ v3 ⊖ (num (pos 0) ⊖ v1) ⊗ v2) (v0 ⊗ v3 ⊕ v1 ⊗ v2) refl

reached : {c d k : ℤ} → d ≡ c → IsSize c k → IsSize d k
reached {k = k} e h = subst (λ (z : ℤ). IsSize z k) (sym e) h

module _ (S U ax ay bx by : ℤ) where
  pub facts : passes S U ax ay bx by ≡ true
      → Ends S U ax ay bx by × IsSize (breadth S (U -ℤ S) (bx -ℤ ax) (by -ℤ ay)) (cross ax ay bx by)
  unfolding overlaps is_size
  facts h =
      by_parts
      (int_le ax S || int_le bx S) (int_le (neg_ℤ S) ax || int_le (neg_ℤ S) bx)
      (int_le ay S || int_le by S) (int_le (neg_ℤ S) ay || int_le (neg_ℤ S) by)
      (int_le (ax +ℤ ay) U || int_le (bx +ℤ by) U)
      (int_le (neg_ℤ U) (ax +ℤ ay) || int_le (neg_ℤ U) (bx +ℤ by))
      (int_le (ax -ℤ ay) U || int_le (bx -ℤ by) U)
      (int_le (neg_ℤ U) (ax -ℤ ay) || int_le (neg_ℤ U) (bx -ℤ by))
      (int_le (cross ax ay bx by) (breadth S (U -ℤ S) (bx -ℤ ax) (by -ℤ ay)))
      (int_le (neg_ℤ (breadth S (U -ℤ S) (bx -ℤ ax) (by -ℤ ay))) (cross ax ay bx by))
      h (λ p q r s t u v w m l. (
        record {
          right = most_end (pos 1) (pos 0) S ax ay bx by ax bx (right_is ax ay) (right_is bx by) p;
          left = least_end (neg_ℤ (pos 1)) (pos 0) S ax ay bx by ax bx (left_is ax ay) (left_is bx by) q;
          over = most_end (pos 0) (pos 1) S ax ay bx by ay by (over_is ax ay) (over_is bx by) r;
          below = least_end (pos 0) (neg_ℤ (pos 1)) S ax ay bx by ay by (below_is ax ay) (below_is bx by) s;
          over_right = most_end (pos 1) (pos 1) U ax ay bx by (ax +ℤ ay) (bx +ℤ by)
              (over_right_is ax ay) (over_right_is bx by) t;
          below_left = least_end (neg_ℤ (pos 1)) (neg_ℤ (pos 1)) U ax ay bx by (ax +ℤ ay) (bx +ℤ by)
              (below_left_is ax ay) (below_left_is bx by) u;
          below_right = most_end (pos 1) (neg_ℤ (pos 1)) U ax ay bx by (ax -ℤ ay) (bx -ℤ by)
              (below_right_is ax ay) (below_right_is bx by) v;
          over_left = least_end (neg_ℤ (pos 1)) (pos 1) U ax ay bx by (ax -ℤ ay) (bx -ℤ by)
              (over_left_is ax ay) (over_left_is bx by) w;
        },
        size_if (breadth S (U -ℤ S) (bx -ℤ ax) (by -ℤ ay)) (cross ax ay bx by) l m,
      ))
    where
      by_parts : {P : Type 0} (a b c d e f g h i j : Bool)
          → ((a && b) && ((c && d) && ((e && f) && ((g && h) && (i && j))))) ≡ true
          → (a ≡ true → b ≡ true → c ≡ true → d ≡ true → e ≡ true → f ≡ true → g ≡ true
          → h ≡ true → i ≡ true → j ≡ true → P) → P
      by_parts a b c d e f g h i j all k =
          let p = and_parts (a && b) ((c && d) && ((e && f) && ((g && h) && (i && j)))) all in
          let q = and_parts (c && d) ((e && f) && ((g && h) && (i && j))) p.1 in
          let r = and_parts (e && f) ((g && h) && (i && j)) q.1 in
          let s = and_parts (g && h) (i && j) r.1 in
          let ab = and_parts a b p.0 in
          let cd = and_parts c d q.0 in
          let ef = and_parts e f r.0 in
          let gh = and_parts g h s.0 in
          let ij = and_parts i j s.1 in
          k ab.0 ab.1 cd.0 cd.1 ef.0 ef.1 gh.0 gh.1 ij.0 ij.1

  pub tests : Ends S U ax ay bx by → IsSize (breadth S (U -ℤ S) (bx -ℤ ax) (by -ℤ ay)) (cross ax ay bx by)
      → passes S U ax ay bx by ≡ true
  unfolding overlaps is_size
  tests e l =
      rw (
        end_most (pos 1) (pos 0) S ax ay bx by ax bx (right_is ax ay) (right_is bx by) e.right,
        end_least (neg_ℤ (pos 1)) (pos 0) S ax ay bx by ax bx (left_is ax ay) (left_is bx by) e.left,
        end_most (pos 0) (pos 1) S ax ay bx by ay by (over_is ax ay) (over_is bx by) e.over,
        end_least (pos 0) (neg_ℤ (pos 1)) S ax ay bx by ay by (below_is ax ay) (below_is bx by) e.below,
        end_most (pos 1) (pos 1) U ax ay bx by (ax +ℤ ay) (bx +ℤ by) (over_right_is ax ay) (over_right_is bx by)
            e.over_right,
        end_least (neg_ℤ (pos 1)) (neg_ℤ (pos 1)) U ax ay bx by (ax +ℤ ay) (bx +ℤ by) (below_left_is ax ay)
            (below_left_is bx by) e.below_left,
        end_most (pos 1) (neg_ℤ (pos 1)) U ax ay bx by (ax -ℤ ay) (bx -ℤ by) (below_right_is ax ay)
            (below_right_is bx by) e.below_right,
        end_least (neg_ℤ (pos 1)) (pos 1) U ax ay bx by (ax -ℤ ay) (bx -ℤ by) (over_left_is ax ay)
            (over_left_is bx by) e.over_left,
        int_le-at_most (cross ax ay bx by) (breadth S (U -ℤ S) (bx -ℤ ax) (by -ℤ ay)) l.most,
        int_le-at_most (neg_ℤ (breadth S (U -ℤ S) (bx -ℤ ax) (by -ℤ ay))) (cross ax ay bx by)
            (from_back (breadth S (U -ℤ S) (bx -ℤ ax) (by -ℤ ay)) (cross ax ay bx by) l.least),
      ) refl

-- ---- the tests decide
-- of an octagon that is a point the segment's line passes it, which the square of the segment's length shows
square_of : (x y : ℤ) → cross y (pos 0 -ℤ x) x y ≡ y *ℤ y +ℤ x *ℤ x
square_of x y = ring (x ∷ y ∷ []) (v1 ⊗ v1 ⊖ (num (pos 0) ⊖ v0) ⊗ v0) (v1 ⊗ v1 ⊕ v0 ⊗ v0) refl

zero_times : (a b : ℤ) → a ≡ pos 0 → a *ℤ b ≡ pos 0
zero_times a b h = rw h (omega (arith, ints))

-- a square above 0, and what an octagon that is a point says of a line
square_positive : (z : ℤ) → z <ℤ pos 0 → pos 0 <ℤ (z *ℤ z)
square_positive z h =
    let p = positive_product (pos 0 -ℤ z) (pos 0 -ℤ z) (omega (arith, ints)) (omega (arith, ints)) in
    let e : (pos 0 -ℤ z) *ℤ (pos 0 -ℤ z) ≡ z *ℤ z = ring (z ∷ []) ((num (pos 0) ⊖ v0) ⊗ (num (pos 0) ⊖ v0)) (v0 ⊗ v0)
    refl in
    omega (arith, ints, p, e)

no_breadth : (x y : ℤ) → breadth (pos 0) (pos 0) x y ≡ pos 0
unfolding breadth
no_breadth x y = by_tests (int_le y x) (int_le (x +ℤ y) (pos 0)) (int_le (pos 0) x)
  where
    by_tests : (t u v : Bool) → (if t then pos 0 *ℤ x +ℤ pos 0 *ℤ y
        else (if u then pos 0 *ℤ y -ℤ pos 0 *ℤ x
        else (if v then pos 0 *ℤ y +ℤ pos 0 *ℤ x
        else pos 0 *ℤ y -ℤ pos 0 *ℤ x))) ≡ pos 0
    by_tests true u v = omega (arith, ints)
    by_tests false true v = omega (arith, ints)
    by_tests false false true = omega (arith, ints)
    by_tests false false false = omega (arith, ints)

on_line : (S U x y k : ℤ) → S ≡ pos 0 → U -ℤ S ≡ pos 0 → IsSize (breadth S (U -ℤ S) x y) k
    → k ≡ pos 0
on_line S U x y k none slim l =
    let h : IsSize (breadth (pos 0) (pos 0) x y) k = subst (λ (t : ℤ). IsSize (breadth (pos 0) t x y) k) slim
    (subst (λ (s : ℤ). IsSize (breadth s (U -ℤ S) x y) k) none l) in
    let m = h.most in
    let n = h.least in
    let e = no_breadth x y in
    omega (arith, ints, m, n, e)

origin_found : (S U ax ay bx by : ℤ) → S ≡ pos 0 → U ≡ pos 0 → cross ax ay bx by ≡ pos 0
    → pos 0 <ℤ ((by -ℤ ay) *ℤ (by -ℤ ay) +ℤ (bx -ℤ ax) *ℤ (bx -ℤ ax)) → Ends S U ax ay bx by
    → Approach S U ax ay bx by
origin_found S U ax ay bx by none slim level long e =
    let f = found ax ay bx by (by -ℤ ay) (pos 0 -ℤ (bx -ℤ ax)) (rw (square_of (bx -ℤ ax) (by -ℤ ay)) long) in
    record {
      s = f.s;
      t = f.t;
      from = f.from;
      to = f.to;
      some = f.some;
      right = f.holds (pos 1) (pos 0) S (test (pos 1) (pos 0) S none e.right);
      left = f.holds (neg_ℤ (pos 1)) (pos 0) S (test (neg_ℤ (pos 1)) (pos 0) S none e.left);
      over = f.holds (pos 0) (pos 1) S (test (pos 0) (pos 1) S none e.over);
      below = f.holds (pos 0) (neg_ℤ (pos 1)) S (test (pos 0) (neg_ℤ (pos 1)) S none e.below);
      over_right = f.holds (pos 1) (pos 1) U (test (pos 1) (pos 1) U slim e.over_right);
      below_right = f.holds (pos 1) (neg_ℤ (pos 1)) U (test (pos 1) (neg_ℤ (pos 1)) U slim e.below_right);
      over_left = f.holds (neg_ℤ (pos 1)) (pos 1) U (test (neg_ℤ (pos 1)) (pos 1) U slim e.over_left);
      below_left = f.holds (neg_ℤ (pos 1)) (neg_ℤ (pos 1)) U
          (test (neg_ℤ (pos 1)) (neg_ℤ (pos 1)) U slim e.below_left);
    }
  where
    test : (n m c : ℤ) → c ≡ pos 0 → End n m c ax ay bx by
        → Test n m c ax ay bx by (by -ℤ ay) (pos 0 -ℤ (bx -ℤ ax))
    test n m c z h = record {
      end = h;
      corner =
          let p = zero_times (cross ax ay bx by) (n *ℤ (by -ℤ ay) +ℤ m *ℤ (pos 0 -ℤ (bx -ℤ ax))) level in
          let q = zero_times c (cross (by -ℤ ay) (pos 0 -ℤ (bx -ℤ ax)) (bx -ℤ ax) (by -ℤ ay)) z in
          omega (arith, ints, p, q);
    }

first_positive : (a b : ℤ) → pos 0 <ℤ a → pos 0 ≤ℤ b → pos 0 <ℤ (a +ℤ b)
first_positive a b h i = omega (arith, ints)

last_positive : (a b : ℤ) → pos 0 ≤ℤ a → pos 0 <ℤ b → pos 0 <ℤ (a +ℤ b)
last_positive a b h i = omega (arith, ints)

same_place : (a b : ℤ) → (b -ℤ a) ≤ℤ pos 0 → pos 0 ≤ℤ (b -ℤ a) → a ≡ b
same_place a b h i = omega (arith, ints)

module _ (S U ax ay bx by : ℤ) (some : pos 0 ≤ℤ S) (wide : S ≤ℤ U) (narrow : U ≤ℤ (pos 2 *ℤ S))
    (up : pos 0 ≤ℤ (by -ℤ ay)) where
  sum_is : U ≡ S +ℤ (U -ℤ S)
  sum_is = omega (arith, ints)

  slant_some : pos 0 ≤ℤ (U -ℤ S)
  slant_some = omega (arith, ints)

  slant_most : (U -ℤ S) ≤ℤ S
  slant_most = omega (arith, ints)

  by_octant : pos 0 <ℤ S → (t u v : Bool) → int_le (by -ℤ ay) (bx -ℤ ax) ≡ t
      → int_le ((bx -ℤ ax) +ℤ (by -ℤ ay)) (pos 0) ≡ u → int_le (pos 0) (bx -ℤ ax) ≡ v
      → IsSize (if t then S *ℤ (bx -ℤ ax) +ℤ (U -ℤ S) *ℤ (by -ℤ ay)
      else (if u then (U -ℤ S) *ℤ (by -ℤ ay) -ℤ S *ℤ (bx -ℤ ax)
      else (if v then S *ℤ (by -ℤ ay) +ℤ (U -ℤ S) *ℤ (bx -ℤ ax)
      else S *ℤ (by -ℤ ay) -ℤ (U -ℤ S) *ℤ (bx -ℤ ax)))) (cross ax ay bx by)
      → Ends S U ax ay bx by → Approach S U ax ay bx by
  by_octant pos_s true u v p q r l = elim (order (bx -ℤ ax) (pos 0)) [
    | inl h ↦ approach_point S U ax ay bx by (omega (arith, ints, p, up, h)) (omega (arith, ints, p, up, h))
    | inr h ↦ approach S U ax ay bx by (U -ℤ S) (pos 0 -ℤ S)
        (right_corner S (U -ℤ S) U sum_is pos_s slant_some slant_most ax ay bx by h up
        (reached (right_reach S (U -ℤ S) (bx -ℤ ax) (by -ℤ ay)) l))
  ]
  by_octant pos_s false true v p q r l =
      approach S U ax ay bx by (U -ℤ S) S (left_corner S (U -ℤ S) U sum_is pos_s slant_some slant_most
      ax ay bx by (omega (arith, ints, p, q, up)) up l)
  by_octant pos_s false false true p q r l =
      approach S U ax ay bx by S (pos 0 -ℤ (U -ℤ S)) (steep_right_corner S (U -ℤ S) U sum_is pos_s slant_some
      slant_most ax ay bx by (int_le-true (pos 0) (bx -ℤ ax) r) (omega (arith, ints, p, r))
      (reached (steep_reach S (U -ℤ S) (bx -ℤ ax) (by -ℤ ay)) l))
  by_octant pos_s false false false p q r l =
      approach S U ax ay bx by S (U -ℤ S) (steep_left_corner S (U -ℤ S) U sum_is pos_s slant_some
      slant_most ax ay bx by (at_most_if_not (pos 0) (bx -ℤ ax) r) (omega (arith, ints, q, r)) l)

  -- an octagon of no width is the origin
  no_slant : S ≡ pos 0 → U -ℤ S ≡ pos 0
  no_slant none = omega (arith, ints)

  no_sum : S ≡ pos 0 → U ≡ pos 0
  no_sum none = omega (arith, ints)

  at_origin : S ≡ pos 0 → Ends S U ax ay bx by
      → IsSize (breadth S (U -ℤ S) (bx -ℤ ax) (by -ℤ ay)) (cross ax ay bx by) → Approach S U ax ay bx by
  at_origin none e l = by_way (order (by -ℤ ay) (pos 0)) (order (bx -ℤ ax) (pos 0)) (order (pos 0) (bx -ℤ ax))
    where
      level : cross ax ay bx by ≡ pos 0
      level = on_line S U (bx -ℤ ax) (by -ℤ ay) (cross ax ay bx by) none (no_slant none) l

      by_square : pos 0 <ℤ ((by -ℤ ay) *ℤ (by -ℤ ay) +ℤ (bx -ℤ ax) *ℤ (bx -ℤ ax))
          → Approach S U ax ay bx by
      by_square p = origin_found S U ax ay bx by none (no_sum none) level p e

      by_way : ((by -ℤ ay) ≤ℤ pos 0) ⊎ (pos 0 <ℤ (by -ℤ ay))
          → ((bx -ℤ ax) ≤ℤ pos 0) ⊎ (pos 0 <ℤ (bx -ℤ ax))
          → (pos 0 ≤ℤ (bx -ℤ ax)) ⊎ ((bx -ℤ ax) <ℤ pos 0) → Approach S U ax ay bx by
      by_way (inr h) k i = by_square (first_positive _ _ (positive_product (by -ℤ ay) (by -ℤ ay) h h)
          (square_at_least (bx -ℤ ax)))
      by_way (inl h) (inr k) i = by_square (last_positive _ _ (square_at_least (by -ℤ ay))
          (positive_product (bx -ℤ ax) (bx -ℤ ax) k k))
      by_way (inl h) (inl k) (inr i) = by_square (last_positive _ _ (square_at_least (by -ℤ ay))
          (square_positive (bx -ℤ ax) i))
      by_way (inl h) (inl k) (inl i) = approach_point S U ax ay bx by (same_place ax bx k i) (same_place ay by h up) e

  pub approach_if_passes : passes S U ax ay bx by ≡ true → Approach S U ax ay bx by
  unfolding breadth
  approach_if_passes h =
      let f = facts S U ax ay bx by h in
      elim (order S (pos 0)) [
        | inl k ↦ at_origin (omega (arith, ints, k, some)) f.0 f.1
        | inr k ↦ by_octant k (int_le (by -ℤ ay) (bx -ℤ ax)) (int_le ((bx -ℤ ax) +ℤ (by -ℤ ay)) (pos 0))
            (int_le (pos 0)
            (bx -ℤ ax)) refl refl refl f.1 f.0
      ]

  line_if : Approach S U ax ay bx by → (t u v : Bool) → int_le (by -ℤ ay) (bx -ℤ ax) ≡ t
      → int_le ((bx -ℤ ax) +ℤ (by -ℤ ay)) (pos 0) ≡ u → int_le (pos 0) (bx -ℤ ax) ≡ v
      → IsSize (if t then S *ℤ (bx -ℤ ax) +ℤ (U -ℤ S) *ℤ (by -ℤ ay)
      else (if u then (U -ℤ S) *ℤ (by -ℤ ay) -ℤ S *ℤ (bx -ℤ ax)
      else (if v then S *ℤ (by -ℤ ay) +ℤ (U -ℤ S) *ℤ (bx -ℤ ax)
      else S *ℤ (by -ℤ ay) -ℤ (U -ℤ S) *ℤ (bx -ℤ ax)))) (cross ax ay bx by)
  line_if a true u v p q r = reached (sym (right_reach S (U -ℤ S) (bx -ℤ ax) (by -ℤ ay)))
      (right_line S (U -ℤ S) U sum_is ax ay bx by a up (int_le-true (by -ℤ ay) (bx -ℤ ax) p))
  line_if a false true v p q r =
      left_line S (U -ℤ S) U sum_is ax ay bx by a up (back_if (bx -ℤ ax) (by -ℤ ay) q)
  line_if a false false true p q r = reached (sym (steep_reach S (U -ℤ S) (bx -ℤ ax) (by -ℤ ay)))
      (steep_right_line S (U -ℤ S) U sum_is ax ay bx by a (int_le-true (pos 0) (bx -ℤ ax) r)
      (at_most_if_not (by -ℤ ay) (bx -ℤ ax) p))
  line_if a false false false p q r = steep_left_line S (U -ℤ S) U sum_is ax ay bx by a
      (at_most_if_not (pos 0) (bx -ℤ ax) r) (back_if_not (bx -ℤ ax) (by -ℤ ay) q)

  pub passes_if_approach : Approach S U ax ay bx by → passes S U ax ay bx by ≡ true
  unfolding breadth
  passes_if_approach a = tests S U ax ay bx by (ends S U ax ay bx by a) (line_if a (int_le (by -ℤ ay)
      (bx -ℤ ax)) (int_le ((bx -ℤ ax) +ℤ (by -ℤ ay)) (pos 0)) (int_le (pos 0) (bx -ℤ ax)) refl refl refl)

-- ---- idle bounds
pick : (n m c d k s t ax ay bx by : ℤ) → (k ≡ c) ⊎ (k ≡ d) → Lies n m c s t ax ay bx by
    → Lies n m d s t ax ay bx by → Lies n m k s t ax ay bx by
pick n m c d k s t ax ay bx by (inl e) l o = subst (λ (z : ℤ). Lies n m z s t ax ay bx by) (sym e) l
pick n m c d k s t ax ay bx by (inr e) l o = subst (λ (z : ℤ). Lies n m z s t ax ay bx by) (sym e) o

wider : (n m c d s t ax ay bx by : ℤ) → c ≤ℤ d → pos 0 <ℤ (s +ℤ t) → Lies n m c s t ax ay bx by
    → Lies n m d s t ax ay bx by
wider n m c d s t ax ay bx by h some l =
    let p = at_least_mul (d -ℤ c) (s +ℤ t) (omega (arith, ints)) (omega (arith, ints)) in
    let e = gap_times d c (s +ℤ t) in
    omega (arith, ints, p, e, l)

twice_times : (s w : ℤ) → (pos 2 *ℤ s) *ℤ w ≡ pos 2 *ℤ (s *ℤ w)
twice_times s w = ring (s ∷ w ∷ []) ((num (pos 2) ⊗ v0) ⊗ v1) (num (pos 2) ⊗ (v0 ⊗ v1)) refl

module _ (S U K L ax ay bx by : ℤ) where
  -- the octagon of the half width K and the half sum L holds what one does of which they are the bounds that aren't
  -- idle
  pub narrow : (K ≡ S) ⊎ (K ≡ U) → (L ≡ U) ⊎ (L ≡ pos 2 *ℤ S) → Approach S U ax ay bx by
      → Approach K L ax ay bx by
  narrow h i a =
      let x = a.s *ℤ ax +ℤ a.t *ℤ bx in
      let y = a.s *ℤ ay +ℤ a.t *ℤ by in
      let w = a.s +ℤ a.t in
      let e = twice_times S w in
      record {
        s = a.s;
        t = a.t;
        from = a.from;
        to = a.to;
        some = a.some;
        right = pick (pos 1) (pos 0) S U K a.s a.t ax ay bx by h a.right
            (right_between x y (U *ℤ w) a.over_right a.below_right);
        left = pick (neg_ℤ (pos 1)) (pos 0) S U K a.s a.t ax ay bx by h a.left
            (left_between x y (U *ℤ w) a.over_left a.below_left);
        over = pick (pos 0) (pos 1) S U K a.s a.t ax ay bx by h a.over
            (over_between x y (U *ℤ w) a.over_right a.over_left);
        below = pick (pos 0) (neg_ℤ (pos 1)) S U K a.s a.t ax ay bx by h a.below
            (below_between x y (U *ℤ w) a.below_right a.below_left);
        over_right = pick (pos 1) (pos 1) U (pos 2 *ℤ S) L a.s a.t ax ay bx by i a.over_right
            (over_right_between x y (S *ℤ w) ((pos 2 *ℤ S) *ℤ w) e a.over a.right);
        below_right = pick (pos 1) (neg_ℤ (pos 1)) U (pos 2 *ℤ S) L a.s a.t ax ay bx by i a.below_right
            (below_right_between x y (S *ℤ w) ((pos 2 *ℤ S) *ℤ w) e a.below a.right);
        over_left = pick (neg_ℤ (pos 1)) (pos 1) U (pos 2 *ℤ S) L a.s a.t ax ay bx by i a.over_left
            (over_left_between x y (S *ℤ w) ((pos 2 *ℤ S) *ℤ w) e a.over a.left);
        below_left = pick (neg_ℤ (pos 1)) (neg_ℤ (pos 1)) U (pos 2 *ℤ S) L a.s a.t ax ay bx by i a.below_left
            (below_left_between x y (S *ℤ w) ((pos 2 *ℤ S) *ℤ w) e a.below a.left);
      }

  pub widen : K ≤ℤ S → L ≤ℤ U → Approach K L ax ay bx by → Approach S U ax ay bx by
  widen h i a = record {
    s = a.s;
    t = a.t;
    from = a.from;
    to = a.to;
    some = a.some;
    right = wider (pos 1) (pos 0) K S a.s a.t ax ay bx by h a.some a.right;
    left = wider (neg_ℤ (pos 1)) (pos 0) K S a.s a.t ax ay bx by h a.some a.left;
    over = wider (pos 0) (pos 1) K S a.s a.t ax ay bx by h a.some a.over;
    below = wider (pos 0) (neg_ℤ (pos 1)) K S a.s a.t ax ay bx by h a.some a.below;
    over_right = wider (pos 1) (pos 1) L U a.s a.t ax ay bx by i a.some a.over_right;
    below_right = wider (pos 1) (neg_ℤ (pos 1)) L U a.s a.t ax ay bx by i a.some a.below_right;
    over_left = wider (neg_ℤ (pos 1)) (pos 1) L U a.s a.t ax ay bx by i a.some a.over_left;
    below_left = wider (neg_ℤ (pos 1)) (neg_ℤ (pos 1)) L U a.s a.t ax ay bx by i a.some a.below_left;
  }
