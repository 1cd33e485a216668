-- Where a segment meets a convex region round the origin. It does where its line crosses a way through the origin
-- between two points of the region, v and its mirror image, and no half plane of the region leaves out both its ends.
use Rattle.std.proofs.Common.{◌≡◌, ◌⊎◌, inl, inr, [], ◌∷◌, refl, sym, subst, ap₂, arith, ℤ, pos, ◌+ℤ◌, ◌-ℤ◌, ◌*ℤ◌, ◌<ℤ◌}
use lib.Signed.{◌≤ℤ◌}
use Rattle.std.proofs.lemmas.Int.{ints}
use Rattle.scad_geom.proofs.Signs.{at_least_mul, at_least_left}
use Rattle.scad_geom.proofs.Rising.{order}
use Rattle.scad_geom.proofs.Ring.{ring, num, ◌⊕◌, ◌⊖◌, ◌⊗◌, v0, v1, v2, v3, v4, v5, v6, v7, v8, v9, v10}

-- the half plane n x + m y <= c holds the mean of a and b by the weights s and t
abbrev pub Lies : ℤ → ℤ → ℤ → ℤ → ℤ → ℤ → ℤ → ℤ → ℤ → Type 0
Lies n m c s t ax ay bx by = (n *ℤ (s *ℤ ax +ℤ t *ℤ bx) +ℤ m *ℤ (s *ℤ ay +ℤ t *ℤ by)) ≤ℤ
    (c *ℤ (s +ℤ t))

-- the cross product of a and b
abbrev pub cross : ℤ → ℤ → ℤ → ℤ → ℤ
cross ax ay bx by = ax *ℤ by -ℤ ay *ℤ bx

-- it holds an end of the segment, and the line crosses the way from -v to v within it
pub record Test (n m c ax ay bx by vx vy : ℤ) : Type 0 where
  pub end : ((n *ℤ ax +ℤ m *ℤ ay) ≤ℤ c) ⊎ ((n *ℤ bx +ℤ m *ℤ by) ≤ℤ c)
  pub corner : (cross ax ay bx by *ℤ (n *ℤ vx +ℤ m *ℤ vy)) ≤ℤ (c *ℤ cross vx vy (bx -ℤ ax) (by -ℤ ay))

-- weights whose mean is held by all half planes that pass the test
pub record Found (ax ay bx by vx vy : ℤ) : Type 0 where
  pub s : ℤ
  pub t : ℤ
  pub from : pos 0 ≤ℤ s
  pub to : pos 0 ≤ℤ t
  pub some : pos 0 <ℤ (s +ℤ t)
  pub holds : (n m c : ℤ) → Test n m c ax ay bx by vx vy → Lies n m c s t ax ay bx by

-- ---- a mean from the tests
-- where the way from a to b crosses the line through v
crossing : (n m ax ay bx by vx vy : ℤ)
    → n *ℤ (cross vx vy bx by *ℤ ax +ℤ (pos 0 -ℤ cross vx vy ax ay) *ℤ bx) +ℤ m *ℤ
    (cross vx vy bx by *ℤ ay +ℤ (pos 0 -ℤ cross vx vy ax ay) *ℤ by)
    ≡ cross ax ay bx by *ℤ (n *ℤ vx +ℤ m *ℤ vy)
crossing n m ax ay bx by vx vy = ring (n ∷ m ∷ ax ∷ ay ∷ bx ∷ by ∷ vx ∷ vy ∷ [])
    (v0 ⊗ ((v6 ⊗ v5 ⊖ v7 ⊗ v4) ⊗ v2 ⊕ (num (pos 0) ⊖ (v6 ⊗ v3 ⊖ v7 ⊗ v2)) ⊗ v4) ⊕ v1 ⊗
    ((v6 ⊗ v5 ⊖ v7 ⊗ v4) ⊗ v3 ⊕ (num (pos 0) ⊖ (v6 ⊗ v3 ⊖ v7 ⊗ v2)) ⊗ v5))
    ((v2 ⊗ v5 ⊖ v3 ⊗ v4) ⊗ (v0 ⊗ v6 ⊕ v1 ⊗ v7)) refl

breadth : (ax ay bx by vx vy : ℤ) → cross vx vy bx by +ℤ (pos 0 -ℤ cross vx vy ax ay)
    ≡ cross vx vy (bx -ℤ ax)
    (by -ℤ ay)
breadth ax ay bx by vx vy = ring (ax ∷ ay ∷ bx ∷ by ∷ vx ∷ vy ∷ [])
    ((v4 ⊗ v3 ⊖ v5 ⊗ v2) ⊕ (num (pos 0) ⊖ (v4 ⊗ v1 ⊖ v5 ⊗ v0)))
    (v4 ⊗ (v3 ⊖ v1) ⊖ v5 ⊗ (v2 ⊖ v0)) refl

-- an end beyond that line lies where the half plane's other end and the crossing put it
first_by : (n m ax ay bx by vx vy : ℤ)
    → (n *ℤ ax +ℤ m *ℤ ay) *ℤ cross vx vy (bx -ℤ ax) (by -ℤ ay)
    ≡ cross ax ay bx by *ℤ (n *ℤ vx +ℤ m *ℤ vy) -ℤ cross vx vy ax ay *ℤ
    ((n *ℤ ax +ℤ m *ℤ ay) -ℤ (n *ℤ bx +ℤ m *ℤ by))
first_by n m ax ay bx by vx vy = ring (n ∷ m ∷ ax ∷ ay ∷ bx ∷ by ∷ vx ∷ vy ∷ [])
    ((v0 ⊗ v2 ⊕ v1 ⊗ v3) ⊗ (v6 ⊗ (v5 ⊖ v3) ⊖ v7 ⊗ (v4 ⊖ v2)))
    ((v2 ⊗ v5 ⊖ v3 ⊗ v4) ⊗ (v0 ⊗ v6 ⊕ v1 ⊗ v7) ⊖ (v6 ⊗ v3 ⊖ v7 ⊗ v2)
    ⊗ ((v0 ⊗ v2 ⊕ v1 ⊗ v3) ⊖ (v0 ⊗ v4 ⊕ v1 ⊗ v5)))
    refl

last_by : (n m ax ay bx by vx vy : ℤ)
    → (n *ℤ bx +ℤ m *ℤ by) *ℤ cross vx vy (bx -ℤ ax) (by -ℤ ay)
    ≡ cross ax ay bx by *ℤ (n *ℤ vx +ℤ m *ℤ vy) -ℤ (pos 0 -ℤ cross vx vy bx by) *ℤ
    ((n *ℤ bx +ℤ m *ℤ by) -ℤ (n *ℤ ax +ℤ m *ℤ ay))
last_by n m ax ay bx by vx vy = ring (n ∷ m ∷ ax ∷ ay ∷ bx ∷ by ∷ vx ∷ vy ∷ [])
    ((v0 ⊗ v4 ⊕ v1 ⊗ v5) ⊗ (v6 ⊗ (v5 ⊖ v3) ⊖ v7 ⊗ (v4 ⊖ v2)))
    ((v2 ⊗ v5 ⊖ v3 ⊗ v4) ⊗ (v0 ⊗ v6 ⊕ v1 ⊗ v7) ⊖ (num (pos 0) ⊖ (v6 ⊗ v5 ⊖ v7 ⊗ v4)) ⊗
    ((v0 ⊗ v4 ⊕ v1 ⊗ v5) ⊖ (v0 ⊗ v2 ⊕ v1 ⊗ v3))) refl

-- ---- gaps, of numbers whatever they are
gap_from : (a b : ℤ) → a ≤ℤ b → pos 0 ≤ℤ (b -ℤ a)
gap_from a b h = omega (arith, ints)

by_gap : (a b : ℤ) → pos 0 ≤ℤ (b -ℤ a) → a ≤ℤ b
by_gap a b h = omega (arith, ints)

back_from : (a : ℤ) → a ≤ℤ pos 0 → pos 0 ≤ℤ (pos 0 -ℤ a)
back_from a h = omega (arith, ints)

back_above : (a : ℤ) → a <ℤ pos 0 → pos 0 ≤ℤ (pos 0 -ℤ a)
back_above a h = omega (arith, ints)

weaker : (a b : ℤ) → a <ℤ b → a ≤ℤ b
weaker a b h = omega (arith, ints)

nothing : pos 0 ≤ℤ pos 0
nothing = omega (arith, ints)

one : pos 0 ≤ℤ pos 1
one = omega (arith, ints)

some_one : pos 0 <ℤ pos 1
some_one = omega (arith, ints)

gap_by : (z a b c d : ℤ) → z ≡ a -ℤ b → c ≡ b → d ≡ c → d ≤ℤ a → pos 0 ≤ℤ z
gap_by z a b c d e f g h = omega (arith, ints)

gap_and : (z a b d p : ℤ) → z ≡ (a -ℤ b) +ℤ p → d ≡ b → d ≤ℤ a → pos 0 ≤ℤ p → pos 0 ≤ℤ z
gap_and z a b d p e f h i = omega (arith, ints)

gap_of : (p q a b : ℤ) → p +ℤ q ≡ a -ℤ b → pos 0 ≤ℤ p → pos 0 ≤ℤ q → b ≤ℤ a
gap_of p q a b e h i = omega (arith, ints)

pub gap_times : (c a w : ℤ) → (c -ℤ a) *ℤ w ≡ c *ℤ w -ℤ a *ℤ w
gap_times c a w = ring (c ∷ a ∷ w ∷ []) ((v0 ⊖ v1) ⊗ v2) (v0 ⊗ v2 ⊖ v1 ⊗ v2) refl

-- a number times w above 0 is x less a product of k from 0 on and its excess over another: it is at most c where the
-- other is, or x at most c times w
at_most : (c w x k a b : ℤ) → pos 0 <ℤ w → pos 0 ≤ℤ k → a *ℤ w ≡ x -ℤ k *ℤ (a -ℤ b)
    → x ≤ℤ (c *ℤ w) → (a ≤ℤ c) ⊎ (b ≤ℤ c) → a ≤ℤ c
at_most c w x k a b p h e i (inl j) = j
at_most c w x k a b p h e i (inr j) = elim (order a b) [
  | inl l ↦ omega (arith, ints)
  | inr l ↦
      let m = at_least_mul k (a -ℤ b) h (omega (arith, ints)) in
      let g = at_least_left (c -ℤ a) w p (omega (arith, ints, m, e, i, gap_times c a w)) in
      omega (arith, ints, g)
]

turned : {A B : Type 0} → A ⊎ B → B ⊎ A
turned (inl a) = inr a
turned (inr b) = inl b

pub one_first : (n m c ax ay bx by : ℤ) → (n *ℤ ax +ℤ m *ℤ ay) ≤ℤ c
    → Lies n m c (pos 1) (pos 0) ax ay bx by
one_first n m c ax ay bx by h =
    let e : n *ℤ (pos 1 *ℤ ax +ℤ pos 0 *ℤ bx) +ℤ m *ℤ (pos 1 *ℤ ay +ℤ pos 0 *ℤ by) ≡ n *ℤ ax +ℤ m *ℤ ay =
    ring (n ∷ m ∷ ax ∷ ay ∷ bx ∷ by ∷ [])
    (v0 ⊗ (num (pos 1) ⊗ v2 ⊕ num (pos 0) ⊗ v4) ⊕ v1 ⊗ (num (pos 1) ⊗ v3 ⊕ num (pos 0) ⊗ v5))
    (v0 ⊗ v2 ⊕ v1 ⊗ v3)
    refl in
    omega (arith, ints, e, h)

pub one_last : (n m c ax ay bx by : ℤ) → (n *ℤ bx +ℤ m *ℤ by) ≤ℤ c
    → Lies n m c (pos 0) (pos 1) ax ay bx by
one_last n m c ax ay bx by h =
    let e : n *ℤ (pos 0 *ℤ ax +ℤ pos 1 *ℤ bx) +ℤ m *ℤ (pos 0 *ℤ ay +ℤ pos 1 *ℤ by) ≡ n *ℤ bx +ℤ m *ℤ by =
    ring (n ∷ m ∷ ax ∷ ay ∷ bx ∷ by ∷ [])
    (v0 ⊗ (num (pos 0) ⊗ v2 ⊕ num (pos 1) ⊗ v4) ⊕ v1 ⊗ (num (pos 0) ⊗ v3 ⊕ num (pos 1) ⊗ v5))
    (v0 ⊗ v4 ⊕ v1 ⊗ v5)
    refl in
    omega (arith, ints, e, h)

pub found : (ax ay bx by vx vy : ℤ) → pos 0 <ℤ cross vx vy (bx -ℤ ax) (by -ℤ ay) → Found ax ay bx by vx vy
found ax ay bx by vx vy broad =
    elim (order (cross vx vy ax ay) (pos 0)) [
      | inl h ↦ elim (order (pos 0) (cross vx vy bx by)) [
        | inl k ↦ record {
          s = cross vx vy bx by;
          t = pos 0 -ℤ cross vx vy ax ay;
          from = k;
          to = back_from (cross vx vy ax ay) h;
          some = subst (λ (z : ℤ). pos 0 <ℤ z) (sym (breadth ax ay bx by vx vy)) broad;
          holds = λ n m c u. between n m c (u.corner);
        }
        | inr k ↦ record {
          s = pos 0;
          t = pos 1;
          from = nothing;
          to = one;
          some = some_one;
          holds = λ n m c u. one_last n m c ax ay bx by (at_most c _ _ _ _ _ broad (back_above (cross vx vy bx by) k)
              (last_by n m ax ay bx by vx vy) u.corner (turned u.end));
        }
      ]
      | inr h ↦ record {
        s = pos 1;
        t = pos 0;
        from = one;
        to = nothing;
        some = some_one;
        holds = λ n m c u. one_first n m c ax ay bx by (at_most c _ _ _ _ _ broad (weaker (pos 0) (cross vx vy ax ay) h)
            (first_by n m ax ay bx by vx vy) u.corner u.end);
      }
    ]
  where
    between : (n m c : ℤ) → (cross ax ay bx by *ℤ (n *ℤ vx +ℤ m *ℤ vy)) ≤ℤ
        (c *ℤ cross vx vy (bx -ℤ ax) (by -ℤ ay))
        → Lies n m c (cross vx vy bx by) (pos 0 -ℤ cross vx vy ax ay) ax ay bx by
    between n m c h = rw (breadth ax ay bx by vx vy, crossing n m ax ay bx by vx vy) h

-- ---- the tests from a mean
-- a half plane that holds a mean holds an end, the one that lies less far out
means : (n m s t ax ay bx by : ℤ) → n *ℤ (s *ℤ ax +ℤ t *ℤ bx) +ℤ m *ℤ (s *ℤ ay +ℤ t *ℤ by)
    ≡ s *ℤ (n *ℤ ax +ℤ m *ℤ ay) +ℤ t *ℤ (n *ℤ bx +ℤ m *ℤ by)
means n m s t ax ay bx by = ring (n ∷ m ∷ s ∷ t ∷ ax ∷ ay ∷ bx ∷ by ∷ [])
    (v0 ⊗ (v2 ⊗ v4 ⊕ v3 ⊗ v6) ⊕ v1 ⊗ (v2 ⊗ v5 ⊕ v3 ⊗ v7))
    (v2 ⊗ (v0 ⊗ v4 ⊕ v1 ⊗ v5) ⊕ v3 ⊗ (v0 ⊗ v6 ⊕ v1 ⊗ v7)) refl

first_gap : (c s t a b : ℤ) → (c -ℤ a) *ℤ (s +ℤ t)
    ≡ (c *ℤ (s +ℤ t) -ℤ (s *ℤ a +ℤ t *ℤ b)) +ℤ t *ℤ (b -ℤ a)
first_gap c s t a b = ring (c ∷ s ∷ t ∷ a ∷ b ∷ []) ((v0 ⊖ v3) ⊗ (v1 ⊕ v2))
    ((v0 ⊗ (v1 ⊕ v2) ⊖ (v1 ⊗ v3 ⊕ v2 ⊗ v4)) ⊕ v2 ⊗ (v4 ⊖ v3)) refl

last_gap : (c s t a b : ℤ) → (c -ℤ b) *ℤ (s +ℤ t)
    ≡ (c *ℤ (s +ℤ t) -ℤ (s *ℤ a +ℤ t *ℤ b)) +ℤ s *ℤ (a -ℤ b)
last_gap c s t a b = ring (c ∷ s ∷ t ∷ a ∷ b ∷ []) ((v0 ⊖ v4) ⊗ (v1 ⊕ v2))
    ((v0 ⊗ (v1 ⊕ v2) ⊖ (v1 ⊗ v3 ⊕ v2 ⊗ v4)) ⊕ v1 ⊗ (v3 ⊖ v4)) refl

module _ (s t : ℤ) (from : pos 0 ≤ℤ s) (to : pos 0 ≤ℤ t) (some : pos 0 <ℤ (s +ℤ t)) (ax ay bx by : ℤ) where
  pub first_end : (n m c : ℤ) → (n *ℤ ax +ℤ m *ℤ ay) ≤ℤ (n *ℤ bx +ℤ m *ℤ by)
      → Lies n m c s t ax ay bx by → (n *ℤ ax +ℤ m *ℤ ay) ≤ℤ c
  first_end n m c h l =
      let a = n *ℤ ax +ℤ m *ℤ ay in
      let b = n *ℤ bx +ℤ m *ℤ by in
      by_gap a c (at_least_left (c -ℤ a) (s +ℤ t) some (gap_and _ _ _ _ _ (first_gap c s t a b)
      (means n m s t ax ay bx by) l (at_least_mul t (b -ℤ a) to (gap_from a b h))))

  pub last_end : (n m c : ℤ) → (n *ℤ bx +ℤ m *ℤ by) ≤ℤ (n *ℤ ax +ℤ m *ℤ ay)
      → Lies n m c s t ax ay bx by → (n *ℤ bx +ℤ m *ℤ by) ≤ℤ c
  last_end n m c h l =
      let a = n *ℤ ax +ℤ m *ℤ ay in
      let b = n *ℤ bx +ℤ m *ℤ by in
      by_gap b c (at_least_left (c -ℤ b) (s +ℤ t) some (gap_and _ _ _ _ _ (last_gap c s t a b)
      (means n m s t ax ay bx by) l (at_least_mul s (a -ℤ b) from (gap_from b a h))))

  pub an_end : (n m c : ℤ) → Lies n m c s t ax ay bx by
      → ((n *ℤ ax +ℤ m *ℤ ay) ≤ℤ c) ⊎ ((n *ℤ bx +ℤ m *ℤ by) ≤ℤ c)
  an_end n m c l = elim (order (n *ℤ ax +ℤ m *ℤ ay) (n *ℤ bx +ℤ m *ℤ by)) [
    | inl h ↦ inl (first_end n m c h l)
    | inr h ↦ inr (last_end n m c (weaker (n *ℤ bx +ℤ m *ℤ by) (n *ℤ ax +ℤ m *ℤ ay) h) l)
  ]

  -- two half planes between whose borders the segment runs bound how far its line lies to the side of the origin
  bounded : (n m c k l d f g : ℤ) → pos 0 ≤ℤ f → pos 0 ≤ℤ g → Lies n m c s t ax ay bx by
      → Lies k l d s t ax ay bx by
      → ((s *ℤ ax +ℤ t *ℤ bx) *ℤ (f *ℤ n +ℤ g *ℤ k) +ℤ (s *ℤ ay +ℤ t *ℤ by) *ℤ
      (f *ℤ m +ℤ g *ℤ l))
      ≤ℤ ((f *ℤ c +ℤ g *ℤ d) *ℤ (s +ℤ t))
  bounded n m c k l d f g hf hg first last =
      let x = s *ℤ ax +ℤ t *ℤ bx in
      let y = s *ℤ ay +ℤ t *ℤ by in
      let w = s +ℤ t in
      gap_of _ _ _ _ (sum_is x y w n m c k l d f g)
      (at_least_mul f (c *ℤ w -ℤ (n *ℤ x +ℤ m *ℤ y)) hf (gap_from (n *ℤ x +ℤ m *ℤ y) (c *ℤ w) first))
      (at_least_mul g (d *ℤ w -ℤ (k *ℤ x +ℤ l *ℤ y)) hg (gap_from (k *ℤ x +ℤ l *ℤ y) (d *ℤ w) last))
    where
      sum_is : (x y w n m c k l d f g : ℤ)
          → f *ℤ (c *ℤ w -ℤ (n *ℤ x +ℤ m *ℤ y)) +ℤ g *ℤ (d *ℤ w -ℤ (k *ℤ x +ℤ l *ℤ y))
          ≡ (f *ℤ c +ℤ g *ℤ d) *ℤ w -ℤ
          (x *ℤ (f *ℤ n +ℤ g *ℤ k) +ℤ y *ℤ (f *ℤ m +ℤ g *ℤ l))
      sum_is x y w n m c k l d f g = ring (x ∷ y ∷ w ∷ n ∷ m ∷ c ∷ k ∷ l ∷ d ∷ f ∷ g ∷ [])
          (v9 ⊗ (v5 ⊗ v2 ⊖ (v3 ⊗ v0 ⊕ v4 ⊗ v1)) ⊕ v10 ⊗ (v8 ⊗ v2 ⊖ (v6 ⊗ v0 ⊕ v7 ⊗ v1)))
          ((v9 ⊗ v5 ⊕ v10 ⊗ v8) ⊗ v2
          ⊖ (v0 ⊗ (v9 ⊗ v3 ⊕ v10 ⊗ v6) ⊕ v1 ⊗ (v9 ⊗ v4 ⊕ v10 ⊗ v7))) refl

  -- f and g are the parts of the segment's way along the two borders
  pub beside : (n m c k l d f g : ℤ) → pos 0 ≤ℤ f → pos 0 ≤ℤ g → f *ℤ n +ℤ g *ℤ k ≡ by -ℤ ay
      → f *ℤ m +ℤ g *ℤ l ≡ pos 0 -ℤ (bx -ℤ ax) → Lies n m c s t ax ay bx by
      → Lies k l d s t ax ay bx by → cross ax ay bx by ≤ℤ (f *ℤ c +ℤ g *ℤ d)
  beside n m c k l d f g hf hg up left first last =
      let r = f *ℤ c +ℤ g *ℤ d in
      let u = ap₂ (λ (y x : ℤ). (s *ℤ ax +ℤ t *ℤ bx) *ℤ y +ℤ (s *ℤ ay +ℤ t *ℤ by) *ℤ x) up left in
      by_gap (cross ax ay bx by) r (at_least_left (r -ℤ cross ax ay bx by) (s +ℤ t) some (gap_by _ _ _ _ _
      (gap_times r (cross ax ay bx by) (s +ℤ t)) cross_is u (bounded n m c k l d f g hf hg first last)))
    where
      cross_is : (s *ℤ ax +ℤ t *ℤ bx) *ℤ (by -ℤ ay) +ℤ (s *ℤ ay +ℤ t *ℤ by) *ℤ
          (pos 0 -ℤ (bx -ℤ ax))
          ≡ cross ax ay bx by *ℤ (s +ℤ t)
      cross_is = ring (s ∷ t ∷ ax ∷ ay ∷ bx ∷ by ∷ [])
          ((v0 ⊗ v2 ⊕ v1 ⊗ v4) ⊗ (v5 ⊖ v3) ⊕ (v0 ⊗ v3 ⊕ v1 ⊗ v5) ⊗ (num (pos 0) ⊖ (v4 ⊖ v2)))
          ((v2 ⊗ v5 ⊖ v3 ⊗ v4) ⊗ (v0 ⊕ v1)) refl

  -- the same on its other side
  pub beside_back : (n m c k l d f g : ℤ) → pos 0 ≤ℤ f → pos 0 ≤ℤ g
      → f *ℤ n +ℤ g *ℤ k ≡ pos 0 -ℤ (by -ℤ ay)
      → f *ℤ m +ℤ g *ℤ l ≡ bx -ℤ ax → Lies n m c s t ax ay bx by → Lies k l d s t ax ay bx by
      → (pos 0 -ℤ cross ax ay bx by) ≤ℤ (f *ℤ c +ℤ g *ℤ d)
  beside_back n m c k l d f g hf hg up left first last =
      let r = f *ℤ c +ℤ g *ℤ d in
      let back : ℤ = pos 0 -ℤ cross ax ay bx by in
      let u = ap₂ (λ (y x : ℤ). (s *ℤ ax +ℤ t *ℤ bx) *ℤ y +ℤ (s *ℤ ay +ℤ t *ℤ by) *ℤ x) up left in
      by_gap back r (at_least_left (r -ℤ back) (s +ℤ t) some (gap_by _ _ _ _ _
      (gap_times r back (s +ℤ t)) cross_is u (bounded n m c k l d f g hf hg first last)))
    where
      cross_is : (s *ℤ ax +ℤ t *ℤ bx) *ℤ (pos 0 -ℤ (by -ℤ ay)) +ℤ (s *ℤ ay +ℤ t *ℤ by) *ℤ
          (bx -ℤ ax)
          ≡ (pos 0 -ℤ cross ax ay bx by) *ℤ (s +ℤ t)
      cross_is = ring (s ∷ t ∷ ax ∷ ay ∷ bx ∷ by ∷ [])
          ((v0 ⊗ v2 ⊕ v1 ⊗ v4) ⊗ (num (pos 0) ⊖ (v5 ⊖ v3)) ⊕ (v0 ⊗ v3 ⊕ v1 ⊗ v5) ⊗ (v4 ⊖ v2))
          ((num (pos 0) ⊖ (v2 ⊗ v5 ⊖ v3 ⊗ v4)) ⊗ (v0 ⊕ v1)) refl

-- of a segment that runs along a border, the half plane's test of an end bounds it
pub along : (n m c f ax ay bx by : ℤ) → pos 0 ≤ℤ f → f *ℤ n ≡ by -ℤ ay
    → f *ℤ m ≡ pos 0 -ℤ (bx -ℤ ax)
    → (n *ℤ ax +ℤ m *ℤ ay) ≤ℤ c → cross ax ay bx by ≤ℤ (f *ℤ c)
along n m c f ax ay bx by hf up left h =
    let p = at_least_mul f (c -ℤ (n *ℤ ax +ℤ m *ℤ ay)) hf (omega (arith, ints)) in
    let u = ap₂ (λ (y x : ℤ). ax *ℤ y +ℤ ay *ℤ x) up left in
    omega (arith, ints, p, u, gap_is, cross_is)
  where
    gap_is : f *ℤ (c -ℤ (n *ℤ ax +ℤ m *ℤ ay)) ≡ f *ℤ c -ℤ (ax *ℤ (f *ℤ n) +ℤ ay *ℤ (f *ℤ m))
    gap_is = ring (n ∷ m ∷ c ∷ f ∷ ax ∷ ay ∷ []) (v3 ⊗ (v2 ⊖ (v0 ⊗ v4 ⊕ v1 ⊗ v5))) (v3 ⊗ v2 ⊖
        (v4 ⊗ (v3 ⊗ v0) ⊕ v5 ⊗ (v3 ⊗ v1))) refl

    cross_is : ax *ℤ (by -ℤ ay) +ℤ ay *ℤ (pos 0 -ℤ (bx -ℤ ax)) ≡ cross ax ay bx by
    cross_is = ring (ax ∷ ay ∷ bx ∷ by ∷ []) (v0 ⊗ (v3 ⊖ v1) ⊕ v1 ⊗ (num (pos 0) ⊖ (v2 ⊖ v0)))
        (v0 ⊗ v3 ⊖ v1 ⊗ v2)
        refl

pub along_back : (n m c f ax ay bx by : ℤ) → pos 0 ≤ℤ f → f *ℤ n ≡ pos 0 -ℤ (by -ℤ ay)
    → f *ℤ m ≡ bx -ℤ ax
    → (n *ℤ ax +ℤ m *ℤ ay) ≤ℤ c → (pos 0 -ℤ cross ax ay bx by) ≤ℤ (f *ℤ c)
along_back n m c f ax ay bx by hf up left h =
    let p = at_least_mul f (c -ℤ (n *ℤ ax +ℤ m *ℤ ay)) hf (omega (arith, ints)) in
    let u = ap₂ (λ (y x : ℤ). ax *ℤ y +ℤ ay *ℤ x) up left in
    omega (arith, ints, p, u, gap_is, cross_is)
  where
    gap_is : f *ℤ (c -ℤ (n *ℤ ax +ℤ m *ℤ ay)) ≡ f *ℤ c -ℤ (ax *ℤ (f *ℤ n) +ℤ ay *ℤ (f *ℤ m))
    gap_is = ring (n ∷ m ∷ c ∷ f ∷ ax ∷ ay ∷ []) (v3 ⊗ (v2 ⊖ (v0 ⊗ v4 ⊕ v1 ⊗ v5))) (v3 ⊗ v2 ⊖
        (v4 ⊗ (v3 ⊗ v0) ⊕ v5 ⊗ (v3 ⊗ v1))) refl

    cross_is : ax *ℤ (pos 0 -ℤ (by -ℤ ay)) +ℤ ay *ℤ (bx -ℤ ax) ≡ pos 0 -ℤ cross ax ay bx by
    cross_is = ring (ax ∷ ay ∷ bx ∷ by ∷ []) (v0 ⊗ (num (pos 0) ⊖ (v3 ⊖ v1)) ⊕ v1 ⊗ (v2 ⊖ v0))
        (num (pos 0) ⊖ (v0 ⊗ v3 ⊖ v1 ⊗ v2)) refl
