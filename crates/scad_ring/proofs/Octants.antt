-- Where a segment that doesn't fall meets the octagon of half width S and half sum U = S + T, in each of the four
-- octants of its direction.
use Rattle.std.proofs.Common.{◌≡◌, ◌⊎◌, inl, inr, [], ◌∷◌, refl, sym, subst}
use Rattle.std.proofs.Common.{◌∙◌, arith, ℤ, pos, neg_ℤ, ◌+ℤ◌, ◌-ℤ◌, ◌*ℤ◌, ◌<ℤ◌}
use lib.Signed.{◌≤ℤ◌}
use Rattle.std.proofs.lemmas.Int.{ints}
use Rattle.scad_base.proofs.Products.{positive_product}
use Rattle.scad_geom.proofs.Signs.{at_least_mul, minus_times}
use Rattle.scad_geom.proofs.Ring.{ring, num, ◌⊕◌, ◌⊖◌, ◌⊗◌, v0, v1, v2, v3}
use Rattle.scad_ring.proofs.Convex.{Lies, cross, Test, found, one_first, beside, beside_back, along, along_back, an_end}

-- a half plane holds an end of the segment
abbrev pub End : ℤ → ℤ → ℤ → ℤ → ℤ → ℤ → ℤ → Type 0
End n m c ax ay bx by = ((n *ℤ ax +ℤ m *ℤ ay) ≤ℤ c) ⊎ ((n *ℤ bx +ℤ m *ℤ by) ≤ℤ c)

-- each of the octagon's half planes holds an end of the segment
pub record Ends (S U ax ay bx by : ℤ) : Type 0 where
  pub right : End (pos 1) (pos 0) S ax ay bx by
  pub left : End (neg_ℤ (pos 1)) (pos 0) S ax ay bx by
  pub over : End (pos 0) (pos 1) S ax ay bx by
  pub below : End (pos 0) (neg_ℤ (pos 1)) S ax ay bx by
  pub over_right : End (pos 1) (pos 1) U ax ay bx by
  pub below_right : End (pos 1) (neg_ℤ (pos 1)) U ax ay bx by
  pub over_left : End (neg_ℤ (pos 1)) (pos 1) U ax ay bx by
  pub below_left : End (neg_ℤ (pos 1)) (neg_ℤ (pos 1)) U ax ay bx by

-- a mean of its ends lies in the octagon
pub record Approach (S U ax ay bx by : ℤ) : Type 0 where
  pub s : ℤ
  pub t : ℤ
  pub from : pos 0 ≤ℤ s
  pub to : pos 0 ≤ℤ t
  pub some : pos 0 <ℤ (s +ℤ t)
  pub right : Lies (pos 1) (pos 0) S s t ax ay bx by
  pub left : Lies (neg_ℤ (pos 1)) (pos 0) S s t ax ay bx by
  pub over : Lies (pos 0) (pos 1) S s t ax ay bx by
  pub below : Lies (pos 0) (neg_ℤ (pos 1)) S s t ax ay bx by
  pub over_right : Lies (pos 1) (pos 1) U s t ax ay bx by
  pub below_right : Lies (pos 1) (neg_ℤ (pos 1)) U s t ax ay bx by
  pub over_left : Lies (neg_ℤ (pos 1)) (pos 1) U s t ax ay bx by
  pub below_left : Lies (neg_ℤ (pos 1)) (neg_ℤ (pos 1)) U s t ax ay bx by

-- a number is at most another in size
pub record IsSize (c k : ℤ) : Type 0 where
  pub least : (pos 0 -ℤ c) ≤ℤ k
  pub most : k ≤ℤ c

-- v lies in the octagon, and the segment's line passes the origin between v and its mirror image
pub record Corner (S U vx vy ax ay bx by : ℤ) : Type 0 where
  pub broad : pos 0 <ℤ cross vx vy (bx -ℤ ax) (by -ℤ ay)
  pub line : IsSize (cross vx vy (bx -ℤ ax) (by -ℤ ay)) (cross ax ay bx by)
  pub across : IsSize S vx
  pub upwards : IsSize S vy
  pub sum : IsSize U (vx +ℤ vy)
  pub difference : IsSize U (vx -ℤ vy)

-- a product of numbers of these sizes is at most that of the sizes
size_product : (r c x k : ℤ) → IsSize r x → IsSize c k → (x *ℤ k) ≤ℤ (c *ℤ r)
size_product r c x k h i =
    let hl = h.least in
    let hm = h.most in
    let il = i.least in
    let im = i.most in
    let p = at_least_mul (c -ℤ k) (r +ℤ x) (omega (arith, ints)) (omega (arith, ints)) in
    let q = at_least_mul (c +ℤ k) (r -ℤ x) (omega (arith, ints)) (omega (arith, ints)) in
    omega (arith, ints, p, q, sum_is)
  where
    sum_is : (c -ℤ k) *ℤ (r +ℤ x) +ℤ (c +ℤ k) *ℤ (r -ℤ x) ≡ pos 2 *ℤ (c *ℤ r -ℤ x *ℤ k)
    sum_is = ring (r ∷ c ∷ x ∷ k ∷ []) ((v1 ⊖ v3) ⊗ (v0 ⊕ v2) ⊕ (v1 ⊕ v3) ⊗ (v0 ⊖ v2))
        (num (pos 2) ⊗ (v1 ⊗ v0 ⊖ v2 ⊗ v3)) refl

-- ---- the value of each half plane at a point
pub right_is : (x y : ℤ) → pos 1 *ℤ x +ℤ pos 0 *ℤ y ≡ x
right_is x y = omega (arith, ints)

pub left_is : (x y : ℤ) → neg_ℤ (pos 1) *ℤ x +ℤ pos 0 *ℤ y ≡ pos 0 -ℤ x
left_is x y = omega (arith, ints)

pub over_is : (x y : ℤ) → pos 0 *ℤ x +ℤ pos 1 *ℤ y ≡ y
over_is x y = omega (arith, ints)

pub below_is : (x y : ℤ) → pos 0 *ℤ x +ℤ neg_ℤ (pos 1) *ℤ y ≡ pos 0 -ℤ y
below_is x y = omega (arith, ints)

pub over_right_is : (x y : ℤ) → pos 1 *ℤ x +ℤ pos 1 *ℤ y ≡ x +ℤ y
over_right_is x y = omega (arith, ints)

pub below_right_is : (x y : ℤ) → pos 1 *ℤ x +ℤ neg_ℤ (pos 1) *ℤ y ≡ x -ℤ y
below_right_is x y = omega (arith, ints)

pub over_left_is : (x y : ℤ) → neg_ℤ (pos 1) *ℤ x +ℤ pos 1 *ℤ y ≡ pos 0 -ℤ (x -ℤ y)
over_left_is x y = omega (arith, ints)

pub below_left_is : (x y : ℤ) → neg_ℤ (pos 1) *ℤ x +ℤ neg_ℤ (pos 1) *ℤ y ≡ pos 0 -ℤ (x +ℤ y)
below_left_is x y = omega (arith, ints)

-- a half plane along an axis holds what the two beside it hold
pub right_between : (x y z : ℤ) → (pos 1 *ℤ x +ℤ pos 1 *ℤ y) ≤ℤ z → (pos 1 *ℤ x +ℤ neg_ℤ (pos 1) *ℤ y) ≤ℤ z
    → (pos 1 *ℤ x +ℤ pos 0 *ℤ y) ≤ℤ z
right_between x y z h i = omega (arith, ints)

pub left_between : (x y z : ℤ) → (neg_ℤ (pos 1) *ℤ x +ℤ pos 1 *ℤ y) ≤ℤ z
    → (neg_ℤ (pos 1) *ℤ x +ℤ neg_ℤ (pos 1) *ℤ y) ≤ℤ z → (neg_ℤ (pos 1) *ℤ x +ℤ pos 0 *ℤ y) ≤ℤ z
left_between x y z h i = omega (arith, ints)

pub over_between : (x y z : ℤ) → (pos 1 *ℤ x +ℤ pos 1 *ℤ y) ≤ℤ z → (neg_ℤ (pos 1) *ℤ x +ℤ pos 1 *ℤ y) ≤ℤ z
    → (pos 0 *ℤ x +ℤ pos 1 *ℤ y) ≤ℤ z
over_between x y z h i = omega (arith, ints)

pub below_between : (x y z : ℤ) → (pos 1 *ℤ x +ℤ neg_ℤ (pos 1) *ℤ y) ≤ℤ z
    → (neg_ℤ (pos 1) *ℤ x +ℤ neg_ℤ (pos 1) *ℤ y) ≤ℤ z → (pos 0 *ℤ x +ℤ neg_ℤ (pos 1) *ℤ y) ≤ℤ z
below_between x y z h i = omega (arith, ints)

-- and one beside two along the axes holds what these hold, at twice the distance
pub over_right_between : (x y z w : ℤ) → w ≡ pos 2 *ℤ z → (pos 0 *ℤ x +ℤ pos 1 *ℤ y) ≤ℤ z
    → (pos 1 *ℤ x +ℤ pos 0 *ℤ y) ≤ℤ z → (pos 1 *ℤ x +ℤ pos 1 *ℤ y) ≤ℤ w
over_right_between x y z w e h i = omega (arith, ints)

pub below_right_between : (x y z w : ℤ) → w ≡ pos 2 *ℤ z → (pos 0 *ℤ x +ℤ neg_ℤ (pos 1) *ℤ y) ≤ℤ z
    → (pos 1 *ℤ x +ℤ pos 0 *ℤ y) ≤ℤ z → (pos 1 *ℤ x +ℤ neg_ℤ (pos 1) *ℤ y) ≤ℤ w
below_right_between x y z w e h i = omega (arith, ints)

pub over_left_between : (x y z w : ℤ) → w ≡ pos 2 *ℤ z → (pos 0 *ℤ x +ℤ pos 1 *ℤ y) ≤ℤ z
    → (neg_ℤ (pos 1) *ℤ x +ℤ pos 0 *ℤ y) ≤ℤ z → (neg_ℤ (pos 1) *ℤ x +ℤ pos 1 *ℤ y) ≤ℤ w
over_left_between x y z w e h i = omega (arith, ints)

pub below_left_between : (x y z w : ℤ) → w ≡ pos 2 *ℤ z → (pos 0 *ℤ x +ℤ neg_ℤ (pos 1) *ℤ y) ≤ℤ z
    → (neg_ℤ (pos 1) *ℤ x +ℤ pos 0 *ℤ y) ≤ℤ z → (neg_ℤ (pos 1) *ℤ x +ℤ neg_ℤ (pos 1) *ℤ y) ≤ℤ w
below_left_between x y z w e h i = omega (arith, ints)

-- the mirror image of a number has its size
mirrored : (c k : ℤ) → IsSize c k → IsSize c (pos 0 -ℤ k)
mirrored c k h =
    let l = h.least in
    let m = h.most in
    record { least = omega (arith, ints); most = omega (arith, ints) }

sized : (c k z : ℤ) → z ≡ k → IsSize c k → IsSize c z
sized c k z e h = subst (IsSize c) (sym e) h

module _ (S U ax ay bx by : ℤ) where
  test_of : (n m c vx vy : ℤ) → End n m c ax ay bx by
      → IsSize (cross vx vy (bx -ℤ ax) (by -ℤ ay)) (cross ax ay bx by) → IsSize c (n *ℤ vx +ℤ m *ℤ vy)
      → Test n m c ax ay bx by vx vy
  test_of n m c vx vy e h i = record { end = e; corner = size_product _ c _ _ h i }

  -- ---- a mean from the tests
  pub approach : (vx vy : ℤ) → Corner S U vx vy ax ay bx by → Ends S U ax ay bx by → Approach S U ax ay bx by
  approach vx vy k e =
      let f = found ax ay bx by vx vy k.broad in
      record {
        s = f.s;
        t = f.t;
        from = f.from;
        to = f.to;
        some = f.some;
        right = f.holds _ _ _ (test_of (pos 1) (pos 0) S vx vy e.right k.line
            (sized S vx _ (right_is vx vy) k.across));
        left = f.holds _ _ _ (test_of (neg_ℤ (pos 1)) (pos 0) S vx vy e.left k.line
            (sized S (pos 0 -ℤ vx) _ (left_is vx vy) (mirrored S vx k.across)));
        over = f.holds _ _ _ (test_of (pos 0) (pos 1) S vx vy e.over k.line
            (sized S vy _ (over_is vx vy) k.upwards));
        below = f.holds _ _ _ (test_of (pos 0) (neg_ℤ (pos 1)) S vx vy e.below k.line
            (sized S (pos 0 -ℤ vy) _ (below_is vx vy) (mirrored S vy k.upwards)));
        over_right = f.holds _ _ _ (test_of (pos 1) (pos 1) U vx vy e.over_right k.line
            (sized U (vx +ℤ vy) _ (over_right_is vx vy) k.sum));
        below_right = f.holds _ _ _ (test_of (pos 1) (neg_ℤ (pos 1)) U vx vy e.below_right k.line
            (sized U (vx -ℤ vy) _ (below_right_is vx vy) k.difference));
        over_left = f.holds _ _ _ (test_of (neg_ℤ (pos 1)) (pos 1) U vx vy e.over_left k.line
            (sized U (pos 0 -ℤ (vx -ℤ vy)) _ (over_left_is vx vy) (mirrored U (vx -ℤ vy) k.difference)));
        below_left = f.holds _ _ _ (test_of (neg_ℤ (pos 1)) (neg_ℤ (pos 1)) U vx vy e.below_left k.line
            (sized U (pos 0 -ℤ (vx +ℤ vy)) _ (below_left_is vx vy) (mirrored U (vx +ℤ vy) k.sum)));
      }

  -- of a point, its tests are those of its place
  pub approach_point : ax ≡ bx → ay ≡ by → Ends S U ax ay bx by → Approach S U ax ay bx by
  approach_point ex ey e = record {
    s = pos 1;
    t = pos 0;
    from = omega (arith, ints);
    to = omega (arith, ints);
    some = omega (arith, ints);
    right = one_first (pos 1) (pos 0) S ax ay bx by (at_point (pos 1) (pos 0) S e.right);
    left = one_first (neg_ℤ (pos 1)) (pos 0) S ax ay bx by (at_point (neg_ℤ (pos 1)) (pos 0) S e.left);
    over = one_first (pos 0) (pos 1) S ax ay bx by (at_point (pos 0) (pos 1) S e.over);
    below = one_first (pos 0) (neg_ℤ (pos 1)) S ax ay bx by (at_point (pos 0) (neg_ℤ (pos 1)) S e.below);
    over_right = one_first (pos 1) (pos 1) U ax ay bx by (at_point (pos 1) (pos 1) U e.over_right);
    below_right = one_first (pos 1) (neg_ℤ (pos 1)) U ax ay bx by
        (at_point (pos 1) (neg_ℤ (pos 1)) U e.below_right);
    over_left = one_first (neg_ℤ (pos 1)) (pos 1) U ax ay bx by (at_point (neg_ℤ (pos 1)) (pos 1) U e.over_left);
    below_left = one_first (neg_ℤ (pos 1)) (neg_ℤ (pos 1)) U ax ay bx by
        (at_point (neg_ℤ (pos 1)) (neg_ℤ (pos 1)) U e.below_left);
  }
    where
      at_point : (n m c : ℤ) → End n m c ax ay bx by → (n *ℤ ax +ℤ m *ℤ ay) ≤ℤ c
      at_point n m c (inl h) = h
      at_point n m c (inr h) = subst (λ (x : ℤ). (n *ℤ x +ℤ m *ℤ ay) ≤ℤ c) (sym ex)
          (subst (λ (y : ℤ). (n *ℤ bx +ℤ m *ℤ y) ≤ℤ c) (sym ey) h)

  -- ---- the tests from a mean
  pub ends : Approach S U ax ay bx by → Ends S U ax ay bx by
  ends a = record {
    right = an_end a.s a.t a.from a.to a.some ax ay bx by (pos 1) (pos 0) S a.right;
    left = an_end a.s a.t a.from a.to a.some ax ay bx by (neg_ℤ (pos 1)) (pos 0) S a.left;
    over = an_end a.s a.t a.from a.to a.some ax ay bx by (pos 0) (pos 1) S a.over;
    below = an_end a.s a.t a.from a.to a.some ax ay bx by (pos 0) (neg_ℤ (pos 1)) S a.below;
    over_right = an_end a.s a.t a.from a.to a.some ax ay bx by (pos 1) (pos 1) U a.over_right;
    below_right = an_end a.s a.t a.from a.to a.some ax ay bx by (pos 1) (neg_ℤ (pos 1)) U a.below_right;
    over_left = an_end a.s a.t a.from a.to a.some ax ay bx by (neg_ℤ (pos 1)) (pos 1) U a.over_left;
    below_left = an_end a.s a.t a.from a.to a.some ax ay bx by (neg_ℤ (pos 1)) (neg_ℤ (pos 1)) U a.below_left;
  }

-- the segment's line passes between the corner v of the octagon and its mirror image
abbrev pub Passes : ℤ → ℤ → ℤ → ℤ → ℤ → ℤ → Type 0
Passes vx vy ax ay bx by = IsSize (cross vx vy (bx -ℤ ax) (by -ℤ ay)) (cross ax ay bx by)

-- ---- the parts of a way along two borders
first_part : (f g : ℤ) → f *ℤ pos 1 +ℤ g *ℤ pos 0 ≡ f
first_part f g = omega (arith, ints)

last_part : (f g : ℤ) → f *ℤ pos 0 +ℤ g *ℤ pos 1 ≡ g
last_part f g = omega (arith, ints)

both_parts : (f g z : ℤ) → f +ℤ g ≡ z → f *ℤ pos 1 +ℤ g *ℤ pos 1 ≡ z
both_parts f g z e = omega (arith, ints)

first_part_back : (f g : ℤ) → f *ℤ neg_ℤ (pos 1) +ℤ g *ℤ pos 0 ≡ pos 0 -ℤ f
first_part_back f g = omega (arith, ints)

last_part_back : (f g : ℤ) → f *ℤ pos 0 +ℤ g *ℤ neg_ℤ (pos 1) ≡ pos 0 -ℤ g
last_part_back f g = omega (arith, ints)

both_parts_back : (f g z : ℤ) → f +ℤ g ≡ z → f *ℤ neg_ℤ (pos 1) +ℤ g *ℤ neg_ℤ (pos 1) ≡ pos 0 -ℤ z
both_parts_back f g z e = omega (arith, ints)

twice_back : (z : ℤ) → pos 0 -ℤ (pos 0 -ℤ z) ≡ z
twice_back z = omega (arith, ints)

gap_from : (a b : ℤ) → a ≤ℤ b → pos 0 ≤ℤ (b -ℤ a)
gap_from a b h = omega (arith, ints)

back_from : (a : ℤ) → a ≤ℤ pos 0 → pos 0 ≤ℤ (pos 0 -ℤ a)
back_from a h = omega (arith, ints)

less_and_back : (x y : ℤ) → (x -ℤ y) +ℤ y ≡ x
less_and_back x y = omega (arith, ints)

on_to : (x y : ℤ) → x +ℤ (y -ℤ x) ≡ y
on_to x y = omega (arith, ints)

on_and_back : (x y : ℤ) → (y +ℤ x) +ℤ (pos 0 -ℤ x) ≡ y
on_and_back x y = omega (arith, ints)

from_back : (x y : ℤ) → (pos 0 -ℤ x) ≤ℤ y → pos 0 ≤ℤ (y +ℤ x)
from_back x y h = omega (arith, ints)

-- a bound of a number and of its mirror image
size_by : (r q k : ℤ) → q ≡ r → k ≤ℤ q → (pos 0 -ℤ k) ≤ℤ q → IsSize r k
size_by r q k e m l = record { least = omega (arith, ints); most = omega (arith, ints) }

module _ (S T U : ℤ) (sum : U ≡ S +ℤ T) (ax ay bx by : ℤ) (a : Approach S U ax ay bx by) where
  -- nearer to the right than upwards
  pub right_line : pos 0 ≤ℤ (by -ℤ ay) → (by -ℤ ay) ≤ℤ (bx -ℤ ax)
      → Passes T (pos 0 -ℤ S) ax ay bx by
  right_line up flat =
      let x = bx -ℤ ax in
      let y = by -ℤ ay in
      size_by _ _ _ (reach_is x y)
      (beside a.s a.t a.from a.to a.some ax ay bx by (pos 0) (neg_ℤ (pos 1)) S (pos 1) (neg_ℤ (pos 1)) U
      (x -ℤ y) y (gap_from y x flat) up (last_part (x -ℤ y) y)
      (both_parts_back (x -ℤ y) y x (less_and_back x y)) a.below a.below_right)
      (beside_back a.s a.t a.from a.to a.some ax ay bx by (pos 0) (pos 1) S (neg_ℤ (pos 1)) (pos 1) U
      (x -ℤ y) y (gap_from y x flat) up (last_part_back (x -ℤ y) y)
      (both_parts (x -ℤ y) y x (less_and_back x y)) a.over a.over_left)
    where
      reach_is : (x y : ℤ) → (x -ℤ y) *ℤ S +ℤ y *ℤ U ≡ cross T (pos 0 -ℤ S) x y
      reach_is x y = rw sum (ring (S ∷ T ∷ x ∷ y ∷ []) ((v2 ⊖ v3) ⊗ v0 ⊕ v3 ⊗ (v0 ⊕ v1))
          (v1 ⊗ v3 ⊖ (num (pos 0) ⊖ v0) ⊗ v2) refl)

  -- upwards and to the right
  pub steep_right_line : pos 0 ≤ℤ (bx -ℤ ax) → (bx -ℤ ax) ≤ℤ (by -ℤ ay)
      → Passes S (pos 0 -ℤ T) ax ay bx by
  steep_right_line right steep =
      let x = bx -ℤ ax in
      let y = by -ℤ ay in
      size_by _ _ _ (reach_is x y)
      (beside a.s a.t a.from a.to a.some ax ay bx by (pos 1) (neg_ℤ (pos 1)) U (pos 1) (pos 0) S
      x (y -ℤ x) right (gap_from x y steep) (both_parts x (y -ℤ x) y (on_to x y))
      (first_part_back x (y -ℤ x)) a.below_right a.right)
      (beside_back a.s a.t a.from a.to a.some ax ay bx by (neg_ℤ (pos 1)) (pos 1) U (neg_ℤ (pos 1)) (pos 0) S
      x (y -ℤ x) right (gap_from x y steep) (both_parts_back x (y -ℤ x) y (on_to x y))
      (first_part x (y -ℤ x)) a.over_left a.left)
    where
      reach_is : (x y : ℤ) → x *ℤ U +ℤ (y -ℤ x) *ℤ S ≡ cross S (pos 0 -ℤ T) x y
      reach_is x y = rw sum (ring (S ∷ T ∷ x ∷ y ∷ []) (v2 ⊗ (v0 ⊕ v1) ⊕ (v3 ⊖ v2) ⊗ v0)
          (v0 ⊗ v3 ⊖ (num (pos 0) ⊖ v1) ⊗ v2) refl)

  -- upwards and to the left
  pub steep_left_line : (bx -ℤ ax) ≤ℤ pos 0 → (pos 0 -ℤ (bx -ℤ ax)) ≤ℤ (by -ℤ ay)
      → Passes S T ax ay bx by
  steep_left_line left steep =
      let x = bx -ℤ ax in
      let y = by -ℤ ay in
      size_by _ _ _ (reach_is x y)
      (beside a.s a.t a.from a.to a.some ax ay bx by (pos 1) (pos 0) S (pos 1) (pos 1) U
      (y +ℤ x) (pos 0 -ℤ x) (from_back x y steep) (back_from x left)
      (both_parts (y +ℤ x) (pos 0 -ℤ x) y (on_and_back x y)) (last_part (y +ℤ x) (pos 0 -ℤ x)) a.right a.over_right)
      (beside_back a.s a.t a.from a.to a.some ax ay bx by (neg_ℤ (pos 1)) (pos 0) S (neg_ℤ (pos 1))
      (neg_ℤ (pos 1)) U (y +ℤ x) (pos 0 -ℤ x) (from_back x y steep) (back_from x left)
      (both_parts_back (y +ℤ x) (pos 0 -ℤ x) y (on_and_back x y))
      (last_part_back (y +ℤ x) (pos 0 -ℤ x) ∙ twice_back x) a.left a.below_left)
    where
      reach_is : (x y : ℤ) → (y +ℤ x) *ℤ S +ℤ (pos 0 -ℤ x) *ℤ U ≡ cross S T x y
      reach_is x y = rw sum (ring (S ∷ T ∷ x ∷ y ∷ [])
          ((v3 ⊕ v2) ⊗ v0 ⊕ (num (pos 0) ⊖ v2) ⊗ (v0 ⊕ v1))
          (v0 ⊗ v3 ⊖ v1 ⊗ v2) refl)

  -- nearer to the left than upwards
  pub left_line : pos 0 ≤ℤ (by -ℤ ay) → (by -ℤ ay) ≤ℤ (pos 0 -ℤ (bx -ℤ ax)) → Passes T S ax ay bx by
  left_line up flat =
      let x = bx -ℤ ax in
      let y = by -ℤ ay in
      size_by _ _ _ (reach_is x y)
      (beside a.s a.t a.from a.to a.some ax ay bx by (pos 1) (pos 1) U (pos 0) (pos 1) S
      y ((pos 0 -ℤ x) -ℤ y) up (gap_from y (pos 0 -ℤ x) flat) (first_part y ((pos 0 -ℤ x) -ℤ y))
      (both_parts y ((pos 0 -ℤ x) -ℤ y) (pos 0 -ℤ x) (on_to y (pos 0 -ℤ x))) a.over_right a.over)
      (beside_back a.s a.t a.from a.to a.some ax ay bx by (neg_ℤ (pos 1)) (neg_ℤ (pos 1)) U (pos 0)
      (neg_ℤ (pos 1)) S y ((pos 0 -ℤ x) -ℤ y) up (gap_from y (pos 0 -ℤ x) flat)
      (first_part_back y ((pos 0 -ℤ x) -ℤ y))
      (both_parts_back y ((pos 0 -ℤ x) -ℤ y) (pos 0 -ℤ x) (on_to y (pos 0 -ℤ x)) ∙ twice_back x) a.below_left a.below)
    where
      reach_is : (x y : ℤ) → y *ℤ U +ℤ ((pos 0 -ℤ x) -ℤ y) *ℤ S ≡ cross T S x y
      reach_is x y = rw sum (ring (S ∷ T ∷ x ∷ y ∷ [])
          (v3 ⊗ (v0 ⊕ v1) ⊕ ((num (pos 0) ⊖ v2) ⊖ v3) ⊗ v0)
          (v1 ⊗ v3 ⊖ v0 ⊗ v2) refl)

times_minus : (a b : ℤ) → a *ℤ (pos 0 -ℤ b) ≡ pos 0 -ℤ a *ℤ b
times_minus a b = ring (a ∷ b ∷ []) (v0 ⊗ (num (pos 0) ⊖ v1)) (num (pos 0) ⊖ v0 ⊗ v1) refl

on_back : (a b : ℤ) → a +ℤ (pos 0 -ℤ b) ≡ a -ℤ b
on_back a b = omega (arith, ints)

less_back : (a b : ℤ) → a -ℤ (pos 0 -ℤ b) ≡ a +ℤ b
less_back a b = omega (arith, ints)

-- the corner of each octant
module _ (S T U : ℤ) (sum : U ≡ S +ℤ T) (positive : pos 0 <ℤ S) (slim : pos 0 ≤ℤ T) (narrow : T ≤ℤ S) where
  width_size : IsSize S S
  width_size = record { least = omega (arith, ints); most = omega (arith, ints) }

  slant_size : IsSize S T
  slant_size = record { least = omega (arith, ints); most = narrow }

  width_sum : IsSize U (S +ℤ T)
  width_sum = record { least = omega (arith, ints); most = omega (arith, ints) }

  slant_sum : IsSize U (T +ℤ S)
  slant_sum = record { least = omega (arith, ints); most = omega (arith, ints) }

  width_gap : IsSize U (S -ℤ T)
  width_gap = record { least = omega (arith, ints); most = omega (arith, ints) }

  slant_gap : IsSize U (T -ℤ S)
  slant_gap = record { least = omega (arith, ints); most = omega (arith, ints) }

  pub right_corner : (ax ay bx by : ℤ) → pos 0 <ℤ (bx -ℤ ax) → pos 0 ≤ℤ (by -ℤ ay) → Passes T (pos 0 -ℤ S) ax ay bx by
      → Corner S U T (pos 0 -ℤ S) ax ay bx by
  right_corner ax ay bx by x y l =
      let p = positive_product S (bx -ℤ ax) positive x in
      let q = at_least_mul T (by -ℤ ay) slim y in
      let e = minus_times S (bx -ℤ ax) in
      record {
        broad = omega (arith, ints, p, q, e);
        line = l;
        across = slant_size;
        upwards = mirrored S S width_size;
        sum = sized U (T -ℤ S) _ (on_back T S) slant_gap;
        difference = sized U (T +ℤ S) _ (less_back T S) slant_sum;
      }

  pub steep_right_corner : (ax ay bx by : ℤ) → pos 0 ≤ℤ (bx -ℤ ax) → pos 0 <ℤ (by -ℤ ay)
      → Passes S (pos 0 -ℤ T) ax ay bx by → Corner S U S (pos 0 -ℤ T) ax ay bx by
  steep_right_corner ax ay bx by x y l =
      let p = positive_product S (by -ℤ ay) positive y in
      let q = at_least_mul T (bx -ℤ ax) slim x in
      let e = minus_times T (bx -ℤ ax) in
      record {
        broad = omega (arith, ints, p, q, e);
        line = l;
        across = width_size;
        upwards = mirrored S T slant_size;
        sum = sized U (S -ℤ T) _ (on_back S T) width_gap;
        difference = sized U (S +ℤ T) _ (less_back S T) width_sum;
      }

  pub steep_left_corner : (ax ay bx by : ℤ) → (bx -ℤ ax) ≤ℤ pos 0 → pos 0 <ℤ (by -ℤ ay) → Passes S T ax ay bx by
      → Corner S U S T ax ay bx by
  steep_left_corner ax ay bx by x y l =
      let p = positive_product S (by -ℤ ay) positive y in
      let q = at_least_mul T (pos 0 -ℤ (bx -ℤ ax)) slim (omega (arith, ints)) in
      let e = times_minus T (bx -ℤ ax) in
      record {
        broad = omega (arith, ints, p, q, e);
        line = l;
        across = width_size;
        upwards = slant_size;
        sum = width_sum;
        difference = width_gap;
      }

  pub left_corner : (ax ay bx by : ℤ) → (bx -ℤ ax) <ℤ pos 0 → pos 0 ≤ℤ (by -ℤ ay) → Passes T S ax ay bx by
      → Corner S U T S ax ay bx by
  left_corner ax ay bx by x y l =
      let p = positive_product S (pos 0 -ℤ (bx -ℤ ax)) positive (omega (arith, ints)) in
      let q = at_least_mul T (by -ℤ ay) slim y in
      let e = times_minus S (bx -ℤ ax) in
      record {
        broad = omega (arith, ints, p, q, e);
        line = l;
        across = slant_size;
        upwards = width_size;
        sum = slant_sum;
        difference = slant_gap;
      }

-- where the half sum is the half width, four half planes make the octagon
pub approach_four : {S ax ay bx by vx vy : ℤ} → Corner S S vx vy ax ay bx by → End (pos 1) (pos 1) S ax ay bx by
    → End (pos 1) (neg_ℤ (pos 1)) S ax ay bx by → End (neg_ℤ (pos 1)) (pos 1) S ax ay bx by
    → End (neg_ℤ (pos 1)) (neg_ℤ (pos 1)) S ax ay bx by → Approach S S ax ay bx by
approach_four {S} {ax} {ay} {bx} {by} {vx} {vy} k h i j l =
    let f = found ax ay bx by vx vy k.broad in
    let g = f.holds (pos 1) (pos 1) S (test_of S S ax ay bx by (pos 1) (pos 1) S vx vy h k.line
    (sized S (vx +ℤ vy) _ (over_right_is vx vy) k.sum)) in
    let m = f.holds (pos 1) (neg_ℤ (pos 1)) S (test_of S S ax ay bx by (pos 1) (neg_ℤ (pos 1)) S vx vy i k.line
    (sized S (vx -ℤ vy) _ (below_right_is vx vy) k.difference)) in
    let n = f.holds (neg_ℤ (pos 1)) (pos 1) S (test_of S S ax ay bx by (neg_ℤ (pos 1)) (pos 1) S vx vy j k.line
    (sized S (pos 0 -ℤ (vx -ℤ vy)) _ (over_left_is vx vy) (mirrored S (vx -ℤ vy) k.difference))) in
    let o = f.holds (neg_ℤ (pos 1)) (neg_ℤ (pos 1)) S
    (test_of S S ax ay bx by (neg_ℤ (pos 1)) (neg_ℤ (pos 1)) S vx vy l k.line
    (sized S (pos 0 -ℤ (vx +ℤ vy)) _ (below_left_is vx vy) (mirrored S (vx +ℤ vy) k.sum))) in
    let x = f.s *ℤ ax +ℤ f.t *ℤ bx in
    let y = f.s *ℤ ay +ℤ f.t *ℤ by in
    let z = S *ℤ (f.s +ℤ f.t) in
    record {
      s = f.s;
      t = f.t;
      from = f.from;
      to = f.to;
      some = f.some;
      right = right_between x y z g m;
      left = left_between x y z n o;
      over = over_between x y z g n;
      below = below_between x y z m o;
      over_right = g;
      below_right = m;
      over_left = n;
      below_left = o;
    }

-- of a point they are the tests of its place
pub approach_four_point : {S ax ay bx by : ℤ} → ax ≡ bx → ay ≡ by → End (pos 1) (pos 1) S ax ay bx by
    → End (pos 1) (neg_ℤ (pos 1)) S ax ay bx by → End (neg_ℤ (pos 1)) (pos 1) S ax ay bx by
    → End (neg_ℤ (pos 1)) (neg_ℤ (pos 1)) S ax ay bx by → Approach S S ax ay bx by
approach_four_point {S} {ax} {ay} {bx} {by} ex ey h i j l =
    let g = at_point (pos 1) (pos 1) h in
    let m = at_point (pos 1) (neg_ℤ (pos 1)) i in
    let n = at_point (neg_ℤ (pos 1)) (pos 1) j in
    let o = at_point (neg_ℤ (pos 1)) (neg_ℤ (pos 1)) l in
    record {
      s = pos 1;
      t = pos 0;
      from = omega (arith, ints);
      to = omega (arith, ints);
      some = omega (arith, ints);
      right = one_first (pos 1) (pos 0) S ax ay bx by (right_between ax ay S g m);
      left = one_first (neg_ℤ (pos 1)) (pos 0) S ax ay bx by (left_between ax ay S n o);
      over = one_first (pos 0) (pos 1) S ax ay bx by (over_between ax ay S g n);
      below = one_first (pos 0) (neg_ℤ (pos 1)) S ax ay bx by (below_between ax ay S m o);
      over_right = one_first (pos 1) (pos 1) S ax ay bx by g;
      below_right = one_first (pos 1) (neg_ℤ (pos 1)) S ax ay bx by m;
      over_left = one_first (neg_ℤ (pos 1)) (pos 1) S ax ay bx by n;
      below_left = one_first (neg_ℤ (pos 1)) (neg_ℤ (pos 1)) S ax ay bx by o;
    }
  where
    at_point : (n m : ℤ) → End n m S ax ay bx by → (n *ℤ ax +ℤ m *ℤ ay) ≤ℤ S
    at_point n m (inl h) = h
    at_point n m (inr h) = subst (λ (x : ℤ). (n *ℤ x +ℤ m *ℤ ay) ≤ℤ S) (sym ex)
        (subst (λ (y : ℤ). (n *ℤ bx +ℤ m *ℤ y) ≤ℤ S) (sym ey) h)

-- ---- a segment along the octagon's sides: the half planes that these bound tell how far its line lies from the
-- origin
swap : (x y : ℤ) → x *ℤ y ≡ y *ℤ x
swap x y = ring (x ∷ y ∷ []) (v0 ⊗ v1) (v1 ⊗ v0) refl

zero_times : (T y : ℤ) → y ≡ pos 0 → T *ℤ y ≡ pos 0
zero_times T y h = rw h (omega (arith, ints))

module _ (S T U : ℤ) (sum : U ≡ S +ℤ T) (ax ay bx by : ℤ) where
  pub flat_line : pos 0 ≤ℤ (bx -ℤ ax) → by -ℤ ay ≡ pos 0 → (pos 0 *ℤ ax +ℤ pos 1 *ℤ ay) ≤ℤ S
      → (pos 0 *ℤ ax +ℤ neg_ℤ (pos 1) *ℤ ay) ≤ℤ S → Passes T (pos 0 -ℤ S) ax ay bx by
  flat_line x y g h =
      let m = along (pos 0) (neg_ℤ (pos 1)) S (bx -ℤ ax) ax ay bx by x (omega (arith, ints)) (omega (
        arith,
        ints,
      )) h in
      let l = along_back (pos 0) (pos 1) S (bx -ℤ ax) ax ay bx by x (omega (arith, ints)) (omega (arith, ints)) g in
      let e = zero_times T (by -ℤ ay) y in
      let k = minus_times S (bx -ℤ ax) in
      let w = swap S (bx -ℤ ax) in
      record { least = omega (arith, ints, l, e, k, w); most = omega (arith, ints, m, e, k, w) }

  pub diagonal_right_line : pos 0 ≤ℤ (bx -ℤ ax) → by -ℤ ay ≡ bx -ℤ ax
      → (neg_ℤ (pos 1) *ℤ ax +ℤ pos 1 *ℤ ay) ≤ℤ U
      → (pos 1 *ℤ ax +ℤ neg_ℤ (pos 1) *ℤ ay) ≤ℤ U → Passes T (pos 0 -ℤ S) ax ay bx by
  diagonal_right_line x y g h =
      let m = along (pos 1) (neg_ℤ (pos 1)) U (bx -ℤ ax) ax ay bx by x (omega (arith, ints)) (omega (
        arith,
        ints,
      )) h in
      let l = along_back (neg_ℤ (pos 1)) (pos 1) U (bx -ℤ ax) ax ay bx by x (omega (arith, ints)) (omega (
        arith,
        ints,
      )) g
      in
      let e = reach_is (bx -ℤ ax) (by -ℤ ay) y in
      record { least = omega (arith, ints, l, e); most = omega (arith, ints, m, e) }
    where
      reach_is : (x y : ℤ) → y ≡ x → x *ℤ U ≡ cross T (pos 0 -ℤ S) x y
      reach_is x y e = rw (sum, e) (ring (S ∷ T ∷ x ∷ []) (v2 ⊗ (v0 ⊕ v1))
          (v1 ⊗ v2 ⊖ (num (pos 0) ⊖ v0) ⊗ v2) refl)

  pub upright_line : bx -ℤ ax ≡ pos 0 → pos 0 ≤ℤ (by -ℤ ay)
      → (neg_ℤ (pos 1) *ℤ ax +ℤ pos 0 *ℤ ay) ≤ℤ S
      → (pos 1 *ℤ ax +ℤ pos 0 *ℤ ay) ≤ℤ S → Passes S (pos 0 -ℤ T) ax ay bx by
  upright_line x y g h =
      let m = along (pos 1) (pos 0) S (by -ℤ ay) ax ay bx by y (omega (arith, ints)) (omega (arith, ints)) h in
      let l = along_back (neg_ℤ (pos 1)) (pos 0) S (by -ℤ ay) ax ay bx by y (omega (arith, ints)) (omega (
        arith,
        ints,
      )) g
      in
      let e = zero_times (pos 0 -ℤ T) (bx -ℤ ax) x in
      let w = swap S (by -ℤ ay) in
      record { least = omega (arith, ints, l, e, w); most = omega (arith, ints, m, e, w) }

  pub diagonal_left_line : by -ℤ ay ≡ pos 0 -ℤ (bx -ℤ ax) → pos 0 ≤ℤ (by -ℤ ay)
      → (neg_ℤ (pos 1) *ℤ ax +ℤ neg_ℤ (pos 1) *ℤ ay) ≤ℤ U
      → (pos 1 *ℤ ax +ℤ pos 1 *ℤ ay) ≤ℤ U → Passes S T ax ay bx by
  diagonal_left_line x y g h =
      let m = along (pos 1) (pos 1) U (by -ℤ ay) ax ay bx by y (omega (arith, ints)) (omega (arith, ints)) h in
      let l = along_back (neg_ℤ (pos 1)) (neg_ℤ (pos 1)) U (by -ℤ ay) ax ay bx by y (omega (arith, ints))
      (omega (arith, ints)) g in
      let e = reach_is (bx -ℤ ax) (by -ℤ ay) (omega (arith, ints)) in
      record { least = omega (arith, ints, l, e); most = omega (arith, ints, m, e) }
    where
      reach_is : (x y : ℤ) → x ≡ pos 0 -ℤ y → y *ℤ U ≡ cross S T x y
      reach_is x y e = rw (sum, e) (ring (S ∷ T ∷ y ∷ []) (v2 ⊗ (v0 ⊕ v1))
          (v0 ⊗ v2 ⊖ v1 ⊗ (num (pos 0) ⊖ v2)) refl)
