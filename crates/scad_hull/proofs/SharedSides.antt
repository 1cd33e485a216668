-- A convex ring has a side along each line that has two of its points on it, no point on its right and none beyond the
-- two.
use Rattle.std.proofs.Common.{◌≡◌, ◌⊎◌, inl, inr, ℕ, suc, ◌≤◌, length, get_or, List, [], ◌∷◌, ◌++◌, refl, sym, ap, ap₂, ◌∙◌, arith, subst}
use lib.IntN.{ℤ, pos, ◌+ℤ◌, ◌-ℤ◌, ◌*ℤ◌}
use lib.Signed.{◌<ℤ◌, ◌≤ℤ◌}
use Rattle.std.specs.List.{AllByRecursion, Contains}
use Rattle.std.proofs.lemmas.Int.{ints, by_lt_z}
use Rattle.std.proofs.lemmas.List.Elements.{All-contains}
use Rattle.scad_geom.proofs.Ring.{Term, ring, num, var, ◌⊕◌, ◌⊖◌, ◌⊗◌}
use Rattle.scad_geom.proofs.Signs.{at_least_left, at_least_mul}
use Rattle.scad_hull.specs.Chain.{rest_of}
use Rattle.scad_hull.specs.Plane.{left}
use Rattle.scad_hull.specs.Ring.{round, IsRightOfNone, AllTurnLeft, IsConvexRing}
use Rattle.scad_hull.proofs.Lines.{nought_right}
use Rattle.scad_hull.proofs.Planar.{Same}
use Rattle.scad_hull.proofs.Rings.{final, all_joined}
use Rattle.scad_hull.proofs.Whole.{recursion_of}

weak : (x y : ℤ) → x <ℤ y → x ≤ℤ y
weak x y h = omega (arith, ints)

less_on : (x y z : ℤ) → x <ℤ y → y <ℤ z → x <ℤ z
less_on x y z h k = omega (arith, ints)

itself : (x : ℤ) → x <ℤ x → ⊥
itself x h = omega (arith, ints)

-- ---- three corners one after another, the middle one not above the others
module _ {X : Type 0} (h : X → ℤ) where
  pub record Low (way : List X) : Type 0 where
    pub before : List X
    pub z : X
    pub m : X
    pub c : X
    pub after : List X
    pub is : way ≡ before ++ (z ∷ (m ∷ (c ∷ after)))
    pub not_above : h m ≤ℤ h z
    pub nor_above : h m ≤ℤ h c

  shifted : (x : X) (way : List X) → Low way → Low (x ∷ way)
  shifted x way l = record {
    before = x ∷ l.before;
    z = l.z;
    m = l.m;
    c = l.c;
    after = l.after;
    is = ap (λ ys. x ∷ ys) l.is;
    not_above = l.not_above;
    nor_above = l.nor_above;
  }

  here : (z m c : X) (after : List X) → h m ≤ℤ h z → h m ≤ℤ h c → Low (z ∷ (m ∷ (c ∷ after)))
  here z m c after e k =
      record { before = []; z = z; m = m; c = c; after = after; is = refl; not_above = e; nor_above = k }

  -- a way that goes down goes on so
  down : (a b c : X) (ws : List X) → h b ≤ℤ h a → Low (a ∷ (b ∷ (c ∷ ws))) ⊎ (h (final c ws) <ℤ h b)
  down a b c [] e = by_lt_z (h c) (h b) (λ k. inr k) (λ k. inl (here a b c [] e k))
  down a b c (d ∷ ws) e =
      by_lt_z (h c) (h b) (λ k. passed k (down b c d ws (weak (h c) (h b) k))) (λ k. inl (here a b c (d ∷ ws) e k))
    where
      passed : h c <ℤ h b → Low (b ∷ (c ∷ (d ∷ ws))) ⊎ (h (final d ws) <ℤ h c)
          → Low (a ∷ (b ∷ (c ∷ (d ∷ ws)))) ⊎ (h (final d ws) <ℤ h b)
      passed k (inl l) = inl (shifted a (b ∷ (c ∷ (d ∷ ws))) l)
      passed k (inr l) = inr (less_on (h (final d ws)) (h c) (h b) l k)

  abbrev next : X → List X → X
  next p [] = p
  next p (b ∷ ws) = b

  -- a way that ends upwards went up so far
  up : (a : X) (ws : List X) (p q : X) → h p <ℤ h q
      → Low (a ∷ (ws ++ (p ∷ (q ∷ [])))) ⊎ ((h a <ℤ h (next p ws)) × (h a <ℤ h p))
  up a [] p q e = by_lt_z (h a) (h p) (λ k. inr (k, k)) (λ k. inl (here a p q [] k (weak (h p) (h q) e)))
  up a (b ∷ []) p q e = passed (up b [] p q e)
    where
      passed : Low (b ∷ (p ∷ (q ∷ []))) ⊎ ((h b <ℤ h p) × (h b <ℤ h p))
          → Low (a ∷ (b ∷ (p ∷ (q ∷ [])))) ⊎ ((h a <ℤ h b) × (h a <ℤ h p))
      passed (inl l) = inl (shifted a (b ∷ (p ∷ (q ∷ []))) l)
      passed (inr k) = by_lt_z (h a) (h b) (λ j. inr (j, less_on (h a) (h b) (h p) j k.1))
          (λ j. inl (here a b p (q ∷ []) j (weak (h b) (h p) k.0)))
  up a (b ∷ (c ∷ ws)) p q e = passed (up b (c ∷ ws) p q e)
    where
      passed : Low (b ∷ (c ∷ (ws ++ (p ∷ (q ∷ []))))) ⊎ ((h b <ℤ h c) × (h b <ℤ h p))
          → Low (a ∷ (b ∷ (c ∷ (ws ++ (p ∷ (q ∷ [])))))) ⊎ ((h a <ℤ h b) × (h a <ℤ h p))
      passed (inl l) = inl (shifted a (b ∷ (c ∷ (ws ++ (p ∷ (q ∷ []))))) l)
      passed (inr k) = by_lt_z (h a) (h b) (λ j. inr (j, less_on (h a) (h b) (h p) j k.1))
          (λ j. inl (here a b c (ws ++ (p ∷ (q ∷ []))) j (weak (h b) (h c) k.0)))

  final_two : (xs : List X) (x y z : X) → final x (xs ++ (y ∷ (z ∷ []))) ≡ z
  final_two [] x y z = refl
  final_two (w ∷ xs) x y z = final_two xs w y z

  -- a ring has a low corner
  pub low_corner : (m b c : X) (rs : List X) → Low (round (m ∷ (b ∷ (c ∷ rs))))
  low_corner m b c rs = by_lt_z (h m) (h b) (λ k. by_up (up m (b ∷ (c ∷ rs)) m b k))
      (λ k. by_down (down m b c (rs ++ (m ∷ (b ∷ []))) k))
    where
      by_up : Low (round (m ∷ (b ∷ (c ∷ rs)))) ⊎ ((h m <ℤ h b) × (h m <ℤ h m))
          → Low (round (m ∷ (b ∷ (c ∷ rs))))
      by_up (inl l) = l
      by_up (inr l) = absurd (itself (h m) l.1)

      by_down : Low (round (m ∷ (b ∷ (c ∷ rs)))) ⊎ (h (final c (rs ++ (m ∷ (b ∷ [])))) <ℤ h b)
          → Low (round (m ∷ (b ∷ (c ∷ rs))))
      by_down (inl l) = l
      by_down (inr l) = absurd (itself (h b) (subst (λ x. h x <ℤ h b) (final_two rs c m b) l))

-- ---- sides one after another
module _ {X : Type 0} (left : X → X → X → ℤ) where
  turn_behind : (x y : X) (zs : List X) → AllTurnLeft left (x ∷ (y ∷ zs)) → AllTurnLeft left (y ∷ zs)
  turn_behind x y [] t = tt
  turn_behind x y (z ∷ zs) t = t.1

  pub turn_at : (before : List X) (z m c : X) (after : List X)
      → AllTurnLeft left (before ++ (z ∷ (m ∷ (c ∷ after)))) → pos 0 <ℤ left z m c
  turn_at [] z m c after t = t.0
  turn_at (x ∷ []) z m c after t = t.1.0
  turn_at (x ∷ (y ∷ bs)) z m c after t = turn_at (y ∷ bs) z m c after
      (turn_behind x y (bs ++ (z ∷ (m ∷ (c ∷ after)))) t)

  pub first_at : (q : X) (before : List X) (z m c : X) (after : List X)
      → IsRightOfNone left q (before ++ (z ∷ (m ∷ (c ∷ after)))) → pos 0 ≤ℤ left z m q
  first_at q [] z m c after r = r.0
  first_at q (x ∷ []) z m c after r = r.1.0
  first_at q (x ∷ (y ∷ bs)) z m c after r = first_at q (y ∷ bs) z m c after r.1

  pub second_at : (q : X) (before : List X) (z m c : X) (after : List X)
      → IsRightOfNone left q (before ++ (z ∷ (m ∷ (c ∷ after)))) → pos 0 ≤ℤ left m c q
  second_at q [] z m c after r = r.1.0
  second_at q (x ∷ []) z m c after r = r.1.1.0
  second_at q (x ∷ (y ∷ bs)) z m c after r = second_at q (y ∷ bs) z m c after r.1

  -- z, m and c stand one after another in the way
  abbrev pub AreInTurn : List X → X → X → X → Type 0
  AreInTurn way z m c = (before : List X) × (after : List X) × (way ≡ before ++ (z ∷ (m ∷ (c ∷ after))))

pub all_behind : {X : Type 0} (P : X → Type 0) (xs ys : List X) → AllByRecursion P (xs ++ ys)
    → AllByRecursion P ys
all_behind P [] ys h = h
all_behind P (x ∷ xs) ys h = all_behind P xs ys h.1

-- ---- the next and the last three corners of a ring
two_long : {X : Type 0} (a b : X) (ws : List X) → 2 ≤ length (ws ++ (a ∷ (b ∷ [])))
two_long a b [] = omega arith
two_long a b (w ∷ ws) = let l = two_long a b ws in omega arith

three_long : {X : Type 0} (z m c : X) (ws : List X) → 3 ≤ length (ws ++ (z ∷ (m ∷ (c ∷ []))))
three_long z m c [] = omega arith
three_long z m c (w ∷ ws) = let l = three_long z m c ws in omega arith

last_two : {X : Type 0} (before : List X) (z m c a b : X) (ws : List X)
    → ws ++ (a ∷ (b ∷ [])) ≡ before ++ (z ∷ (m ∷ (c ∷ []))) → (a ≡ m) × (b ≡ c)
last_two [] z m c a b [] e = absurd (short (ap length e))
  where
    short : ◌≡◌ {A = ℕ} 2 3 → ⊥
    short e = omega arith
last_two [] z m c a b (w ∷ []) e = (ap (λ l. get_or l 1 m) e, ap (λ l. get_or l 2 c) e)
last_two [] z m c a b (w ∷ (v ∷ ws)) e = absurd
    (long (length (ws ++ (a ∷ (b ∷ [])))) (two_long a b ws) (ap length e))
  where
    long : (n : ℕ) → 2 ≤ n → ◌≡◌ {A = ℕ} (suc (suc n)) 3 → ⊥
    long n l e = omega arith
last_two (x ∷ before) z m c a b [] e =
    absurd (short (length (before ++ (z ∷ (m ∷ (c ∷ []))))) (three_long z m c before) (ap length e))
  where
    short : (n : ℕ) → 3 ≤ n → ◌≡◌ {A = ℕ} 2 (suc n) → ⊥
    short n l e = omega arith
last_two (x ∷ before) z m c a b (w ∷ ws) e = last_two before z m c a b ws (ap rest_of e)

-- a list is what comes before its last, and that
parted_last : {X : Type 0} (x : X) (xs : List X) → (front : List X) × (x ∷ xs ≡ front ++ (final x xs ∷ []))
parted_last x [] = ([], refl)
parted_last x (y ∷ xs) = let (front, e) = parted_last y xs in (x ∷ front, ap (λ ys. x ∷ ys) e)

append_on : {X : Type 0} (xs ys zs : List X) → (xs ++ ys) ++ zs ≡ xs ++ (ys ++ zs)
append_on [] ys zs = refl
append_on (x ∷ xs) ys zs = ap (λ ws. x ∷ ws) (append_on xs ys zs)

module _ {X : Type 0} (left : X → X → X → ℤ) (r0 r1 r2 : X) (rs : List X) where
  abbrev pub way : List X
  way = round (r0 ∷ (r1 ∷ (r2 ∷ rs)))

  pub follow : (z m c : X) → AreInTurn left way z m c → (d : X) × AreInTurn left way m c d
  follow z m c (before, [], e) =
      let same = last_two before z m c r0 r1 (r0 ∷ (r1 ∷ (r2 ∷ rs))) e in (
        r2,
        (
          [],
          rs ++ (r0 ∷ (r1 ∷ [])),
          ap₂ (λ x y. x ∷ (y ∷ (r2 ∷ (rs ++ (r0 ∷ (r1 ∷ [])))))) same.0
              same.1,
        ),
      )
  follow z m c (before, d ∷ after, e) =
      (d, (before ++ (z ∷ []), after, e ∙ sym (append_on before (z ∷ []) (m ∷ (c ∷ (d ∷ after))))))

  pub precede : (z m c : X) → AreInTurn left way z m c → (w : X) × AreInTurn left way w z m
  precede z m c ([], after, e) =
      let (front, f) = parted_last r1 (r2 ∷ rs) in (
        final r1 (r2 ∷ rs),
        (
          r0 ∷ front,
          [],
          ap (λ ys. r0 ∷ (ys ++ (r0 ∷ (r1 ∷ [])))) f
              ∙ ap (λ ys. r0 ∷ ys) (append_on front (final r1 (r2 ∷ rs) ∷ []) (r0 ∷ (r1 ∷ [])))
              ∙ ap₂ (λ x y. r0 ∷ (front ++ (final r1 (r2 ∷ rs) ∷ (x ∷ (y ∷ [])))))
              (ap (λ l. get_or l 0 z) e) (ap (λ l. get_or l 1 m) e),
        ),
      )
  precede z m c (x ∷ before, after, e) =
      let (front, f) = parted_last x before in (
        final x before,
        (
          front,
          c ∷ after,
          e ∙ ap (λ ys. ys ++ (z ∷ (m ∷ (c ∷ after)))) f
              ∙ append_on front (final x before ∷ []) (z ∷ (m ∷ (c ∷ after))),
        ),
      )

-- ---- the line from b to a, with o to its left
module _ {X : Type 0} (f g : X → ℤ) (b a o : X) (off : pos 0 <ℤ left f g b a o) where
  abbrev L : X → X → X → ℤ
  L = left f g

  abbrev h : X → ℤ
  h q = L b a q

  abbrev T : Term → Term → Term → Term → Term → Term → Term
  T pf pg qf qg rf rg = (qf ⊖ pf) ⊗ (rg ⊖ pg) ⊖ (qg ⊖ pg) ⊗ (rf ⊖ pf)

  cramer : (z m c q : X) → L z m c *ℤ (h q -ℤ h m)
      ≡ L m c q *ℤ (h z -ℤ h m) +ℤ L z m q *ℤ (h c -ℤ h m)
  cramer z m c q =
      let H = λ (x y : Term). T (var 0) (var 1) (var 2) (var 3) x y in
      ring (f b ∷ g b ∷ f a ∷ g a ∷ f z ∷ g z ∷ f m ∷ g m ∷ f c ∷ g c ∷ f q ∷ g q ∷ [])
      (T (var 4) (var 5) (var 6) (var 7) (var 8) (var 9) ⊗ (H (var 10) (var 11) ⊖ H (var 6) (var 7)))
      (T (var 6) (var 7) (var 8) (var 9) (var 10) (var 11) ⊗ (H (var 4) (var 5) ⊖ H (var 6) (var 7))
      ⊕ T (var 4) (var 5) (var 6) (var 7) (var 10) (var 11) ⊗ (H (var 8) (var 9) ⊖ H (var 6) (var 7))) refl

  begin : h b ≡ pos 0
  begin = ring (f b ∷ g b ∷ f a ∷ g a ∷ []) (T (var 0) (var 1) (var 2) (var 3) (var 0) (var 1)) (num (pos 0)) refl

  no_way : L b b o ≡ pos 0
  no_way = ring (f b ∷ g b ∷ f o ∷ g o ∷ []) (T (var 0) (var 1) (var 0) (var 1) (var 2) (var 3)) (num (pos 0))
      refl

  some : (z : ℤ) → pos 0 <ℤ z → z ≡ pos 0 → ⊥
  some z k e = omega (arith, ints)

  -- a low corner lies on the line
  at_low : (z m c : X) → pos 0 <ℤ L z m c → pos 0 ≤ℤ L m c b → pos 0 ≤ℤ L z m b → h m ≤ℤ h z
      → h m ≤ℤ h c → pos 0 ≤ℤ h m → h m ≡ pos 0
  at_low z m c turn second first low_z low_c inside =
      level (h b) (h m) begin inside (at_least_left (h b -ℤ h m) (L z m c) turn
      (subst (λ (x : ℤ). pos 0 ≤ℤ x) (sym (cramer z m c b) ∙ flip (L z m c) (h b -ℤ h m))
      (sum (L m c b *ℤ (h z -ℤ h m)) (L z m b *ℤ (h c -ℤ h m))
      (at_least_mul (L m c b) (h z -ℤ h m) second (gap (h m) (h z) low_z))
      (at_least_mul (L z m b) (h c -ℤ h m) first (gap (h m) (h c) low_c)))))
    where
      level : (x y : ℤ) → x ≡ pos 0 → pos 0 ≤ℤ y → pos 0 ≤ℤ (x -ℤ y) → y ≡ pos 0
      level x y e k l = omega (arith, ints)

      gap : (x y : ℤ) → x ≤ℤ y → pos 0 ≤ℤ (y -ℤ x)
      gap x y k = omega (arith, ints)

      sum : (x y : ℤ) → pos 0 ≤ℤ x → pos 0 ≤ℤ y → pos 0 ≤ℤ (x +ℤ y)
      sum x y k l = omega (arith, ints)

      flip : (x y : ℤ) → x *ℤ y ≡ y *ℤ x
      flip x y = ring (x ∷ y ∷ []) (var 0 ⊗ var 1) (var 1 ⊗ var 0) refl

  -- three points on the line don't turn
  no_turn : (z m c : X) → h z ≡ pos 0 → h m ≡ pos 0 → h c ≡ pos 0 → pos 0 <ℤ L z m c → ⊥
  no_turn z m c ez em ec turn =
      some (h o) off (same (h o) (h m) em (nought_right (L z m c) (h o -ℤ h m)
      (cramer z m c o ∙ ap₂ (λ (x y : ℤ). L m c o *ℤ x +ℤ L z m o *ℤ y) (gone (h z) (h m) ez em)
      (gone (h c) (h m) ec em)
      ∙ ring (L m c o ∷ L z m o ∷ []) (var 0 ⊗ num (pos 0) ⊕ var 1 ⊗ num (pos 0)) (num (pos 0)) refl)
      (some (L z m c) turn)))
    where
      gone : (x y : ℤ) → x ≡ pos 0 → y ≡ pos 0 → x -ℤ y ≡ pos 0
      gone x y e k = omega (arith, ints)

      same : (x y : ℤ) → y ≡ pos 0 → x -ℤ y ≡ pos 0 → x ≡ pos 0
      same x y e k = omega (arith, ints)

  -- the first of two ends: m on the line, not before b, with b on the left of the side into m
  at_b : (z m : X) → h m ≡ pos 0 → pos 0 <ℤ h z → pos 0 ≤ℤ L z m b → pos 0 ≤ℤ L o b m
      → Same f g m b
  at_b z m em hz k l = (
    equal (f m) (f b) (nought_right (h o) (f m -ℤ f b)
        (by_f ∙ both (L o b m) (h m) (f a -ℤ f b) (f o -ℤ f b) none em) (some (h o) off)),
    equal (g m) (g b) (nought_right (h o) (g m -ℤ g b)
        (by_g ∙ both (L o b m) (h m) (g a -ℤ g b) (g o -ℤ g b) none em) (some (h o) off)),
  )
    where
      by_f : h o *ℤ (f m -ℤ f b) ≡ L o b m *ℤ (f a -ℤ f b) +ℤ h m *ℤ (f o -ℤ f b)
      by_f =
          ring (f b ∷ g b ∷ f a ∷ g a ∷ f o ∷ g o ∷ f m ∷ g m ∷ [])
          (T (var 0) (var 1) (var 2) (var 3) (var 4) (var 5) ⊗ (var 6 ⊖ var 0))
          (T (var 4) (var 5) (var 0) (var 1) (var 6) (var 7) ⊗ (var 2 ⊖ var 0)
          ⊕ T (var 0) (var 1) (var 2) (var 3) (var 6) (var 7) ⊗ (var 4 ⊖ var 0)) refl

      by_g : h o *ℤ (g m -ℤ g b) ≡ L o b m *ℤ (g a -ℤ g b) +ℤ h m *ℤ (g o -ℤ g b)
      by_g =
          ring (f b ∷ g b ∷ f a ∷ g a ∷ f o ∷ g o ∷ f m ∷ g m ∷ [])
          (T (var 0) (var 1) (var 2) (var 3) (var 4) (var 5) ⊗ (var 7 ⊖ var 1))
          (T (var 4) (var 5) (var 0) (var 1) (var 6) (var 7) ⊗ (var 3 ⊖ var 1)
          ⊕ T (var 0) (var 1) (var 2) (var 3) (var 6) (var 7) ⊗ (var 5 ⊖ var 1)) refl

      both : (x y s t : ℤ) → x ≡ pos 0 → y ≡ pos 0 → x *ℤ s +ℤ y *ℤ t ≡ pos 0
      both x y s t e d = ap₂ (λ (u v : ℤ). u *ℤ s +ℤ v *ℤ t) e d
          ∙ ring (s ∷ t ∷ []) (num (pos 0) ⊗ var 0 ⊕ num (pos 0) ⊗ var 1) (num (pos 0)) refl

      equal : (x y : ℤ) → x -ℤ y ≡ pos 0 → x ≡ y
      equal x y e = omega (arith, ints)

      -- how far m lies from b, as o and as z see it
      as_seen : h o *ℤ L z m b +ℤ L o b m *ℤ h z ≡ h m *ℤ L z o b
      as_seen =
          ring (f b ∷ g b ∷ f a ∷ g a ∷ f o ∷ g o ∷ f m ∷ g m ∷ f z ∷ g z ∷ [])
          (T (var 0) (var 1) (var 2) (var 3) (var 4) (var 5) ⊗ T (var 8) (var 9) (var 6) (var 7) (var 0) (var 1)
          ⊕ T (var 4) (var 5) (var 0) (var 1) (var 6) (var 7) ⊗ T (var 0) (var 1) (var 2) (var 3) (var 8) (var 9))
          (T (var 0) (var 1) (var 2) (var 3) (var 6) (var 7) ⊗ T (var 8) (var 9) (var 4) (var 5) (var 0) (var 1)) refl

      none : L o b m ≡ pos 0
      none =
          squeezed (L o b m) l (at_least_left (pos 0 -ℤ L o b m) (h z) hz
          (subst (λ (x : ℤ). pos 0 ≤ℤ x)
          (ring (L o b m ∷ h z ∷ []) (num (pos 0) ⊖ var 0 ⊗ var 1) ((num (pos 0) ⊖ var 0) ⊗ var 1) refl)
          (rest (h o *ℤ L z m b) (L o b m *ℤ h z) (as_seen ∙ ap (λ (x : ℤ). x *ℤ L z o b) em
          ∙ ring (L z o b ∷ []) (num (pos 0) ⊗ var 0) (num (pos 0)) refl)
          (at_least_mul (h o) (L z m b) (weak (pos 0) (h o) off) k))))
        where
          squeezed : (x : ℤ) → pos 0 ≤ℤ x → pos 0 ≤ℤ (pos 0 -ℤ x) → x ≡ pos 0
          squeezed x p q = omega (arith, ints)

          rest : (x y : ℤ) → x +ℤ y ≡ pos 0 → pos 0 ≤ℤ x → pos 0 ≤ℤ (pos 0 -ℤ y)
          rest x y e p = omega (arith, ints)

  -- the second: c on the line, not beyond a, with a on the left of the side out of c
  at_a : (c d : X) → h c ≡ pos 0 → pos 0 <ℤ h d → pos 0 ≤ℤ L c d a → pos 0 ≤ℤ L a o c
      → Same f g c a
  at_a c d ec hd k l = (
    equal (f c) (f a) (nought_right (h o) (f c -ℤ f a)
        (by_f ∙ both (L a o c) (h c) (f b -ℤ f a) (f o -ℤ f a) none ec) (some (h o) off)),
    equal (g c) (g a) (nought_right (h o) (g c -ℤ g a)
        (by_g ∙ both (L a o c) (h c) (g b -ℤ g a) (g o -ℤ g a) none ec) (some (h o) off)),
  )
    where
      by_f : h o *ℤ (f c -ℤ f a) ≡ L a o c *ℤ (f b -ℤ f a) +ℤ h c *ℤ (f o -ℤ f a)
      by_f =
          ring (f b ∷ g b ∷ f a ∷ g a ∷ f o ∷ g o ∷ f c ∷ g c ∷ [])
          (T (var 0) (var 1) (var 2) (var 3) (var 4) (var 5) ⊗ (var 6 ⊖ var 2))
          (T (var 2) (var 3) (var 4) (var 5) (var 6) (var 7) ⊗ (var 0 ⊖ var 2)
          ⊕ T (var 0) (var 1) (var 2) (var 3) (var 6) (var 7) ⊗ (var 4 ⊖ var 2)) refl

      by_g : h o *ℤ (g c -ℤ g a) ≡ L a o c *ℤ (g b -ℤ g a) +ℤ h c *ℤ (g o -ℤ g a)
      by_g =
          ring (f b ∷ g b ∷ f a ∷ g a ∷ f o ∷ g o ∷ f c ∷ g c ∷ [])
          (T (var 0) (var 1) (var 2) (var 3) (var 4) (var 5) ⊗ (var 7 ⊖ var 3))
          (T (var 2) (var 3) (var 4) (var 5) (var 6) (var 7) ⊗ (var 1 ⊖ var 3)
          ⊕ T (var 0) (var 1) (var 2) (var 3) (var 6) (var 7) ⊗ (var 5 ⊖ var 3)) refl

      both : (x y s t : ℤ) → x ≡ pos 0 → y ≡ pos 0 → x *ℤ s +ℤ y *ℤ t ≡ pos 0
      both x y s t e d = ap₂ (λ (u v : ℤ). u *ℤ s +ℤ v *ℤ t) e d
          ∙ ring (s ∷ t ∷ []) (num (pos 0) ⊗ var 0 ⊕ num (pos 0) ⊗ var 1) (num (pos 0)) refl

      equal : (x y : ℤ) → x -ℤ y ≡ pos 0 → x ≡ y
      equal x y e = omega (arith, ints)

      as_seen : h o *ℤ L c d a +ℤ L a o c *ℤ h d ≡ h c *ℤ L o d a
      as_seen =
          ring (f b ∷ g b ∷ f a ∷ g a ∷ f o ∷ g o ∷ f c ∷ g c ∷ f d ∷ g d ∷ [])
          (T (var 0) (var 1) (var 2) (var 3) (var 4) (var 5) ⊗ T (var 6) (var 7) (var 8) (var 9) (var 2) (var 3)
          ⊕ T (var 2) (var 3) (var 4) (var 5) (var 6) (var 7) ⊗ T (var 0) (var 1) (var 2) (var 3) (var 8) (var 9))
          (T (var 0) (var 1) (var 2) (var 3) (var 6) (var 7) ⊗ T (var 4) (var 5) (var 8) (var 9) (var 2) (var 3)) refl

      none : L a o c ≡ pos 0
      none =
          squeezed (L a o c) l (at_least_left (pos 0 -ℤ L a o c) (h d) hd
          (subst (λ (x : ℤ). pos 0 ≤ℤ x)
          (ring (L a o c ∷ h d ∷ []) (num (pos 0) ⊖ var 0 ⊗ var 1) ((num (pos 0) ⊖ var 0) ⊗ var 1) refl)
          (rest (h o *ℤ L c d a) (L a o c *ℤ h d) (as_seen ∙ ap (λ (x : ℤ). x *ℤ L o d a) ec
          ∙ ring (L o d a ∷ []) (num (pos 0) ⊗ var 0) (num (pos 0)) refl)
          (at_least_mul (h o) (L c d a) (weak (pos 0) (h o) off) k))))
        where
          squeezed : (x : ℤ) → pos 0 ≤ℤ x → pos 0 ≤ℤ (pos 0 -ℤ x) → x ≡ pos 0
          squeezed x p q = omega (arith, ints)

          rest : (x y : ℤ) → x +ℤ y ≡ pos 0 → pos 0 ≤ℤ x → pos 0 ≤ℤ (pos 0 -ℤ y)
          rest x y e p = omega (arith, ints)

  module _ (Before : X → X → Type 0) (Q : List X) (r0 r1 r2 : X) (rs : List X)
      (convex : IsConvexRing L Before Q (r0 ∷ (r1 ∷ (r2 ∷ rs)))) (ib : Contains Q b) (ia : Contains Q a)
      (inside : (q : X) → Contains Q q → pos 0 ≤ℤ h q)
      (from_b : (q : X) → Contains Q q → h q ≡ pos 0 → pos 0 ≤ℤ L o b q)
      (to_a : (q : X) → Contains Q q → h q ≡ pos 0 → pos 0 ≤ℤ L a o q)
      (exact : (p q : X) → Contains Q p → Contains Q q → Same f g p q → p ≡ q) where
    abbrev R : List X
    R = r0 ∷ (r1 ∷ (r2 ∷ rs))

    abbrev In3 : X → X → X → Type 0
    In3 = AreInTurn L (round R)

    record AreCorners (z m c : X) : Type 0 where
      turn : pos 0 <ℤ L z m c
      first : (q : X) → Contains Q q → pos 0 ≤ℤ L z m q
      second : (q : X) → Contains Q q → pos 0 ≤ℤ L m c q
      in_z : Contains Q z
      in_m : Contains Q m
      in_c : Contains Q c

    all_in : AllByRecursion (Contains Q) (round R)
    all_in =
        let h = recursion_of (Contains Q) R convex.corners in
        (h.0, (h.1.0, all_joined (Contains Q) (r2 ∷ rs) (r0 ∷ (r1 ∷ [])) h.1.1 (h.0, (h.1.0, tt))))

    corners_at : (z m c : X) → In3 z m c → AreCorners z m c
    corners_at z m c (before, after, e) =
        let held = λ (q : X) (i : Contains Q q). subst (IsRightOfNone L q) e
        (All-contains (λ p. IsRightOfNone L p (round R)) Q q convex.holds i) in
        let members = all_behind (Contains Q) before (z ∷ (m ∷ (c ∷ after))) (subst (AllByRecursion (Contains Q)) e all_in) in
        record {
          turn = turn_at L before z m c after (subst (AllTurnLeft L) e convex.turns);
          first = λ q i. first_at L q before z m c after (held q i);
          second = λ q i. second_at L q before z m c after (held q i);
          in_z = members.0;
          in_m = members.1.0;
          in_c = members.1.1.0;
        }

    -- b and a stand one after another in the way round
    abbrev pub HasSide : Type 0
    HasSide = (before : List X) × (after : List X) × (round R ≡ before ++ (b ∷ (a ∷ after)))

    above_by : (z : ℤ) → pos 0 ≤ℤ z → (z ≡ pos 0 → ⊥) → pos 0 <ℤ z
    above_by z k n = by_lt_z (pos 0) z (λ l. l) (λ l. absurd (n (zero_by z k l)))
      where
        zero_by : (z : ℤ) → pos 0 ≤ℤ z → z ≤ℤ pos 0 → z ≡ pos 0
        zero_by z k l = omega (arith, ints)

    zero_at : (z : ℤ) → pos 0 ≤ℤ z → z ≤ℤ pos 0 → z ≡ pos 0
    zero_at z k l = omega (arith, ints)

    found : (w x y v : X) → In3 w x y → In3 x y v → h x ≡ pos 0 → h y ≡ pos 0 → HasSide
    found w x y v t u ex ey =
        let cx = corners_at w x y t in
        let cy = corners_at x y v u in
        let hw = above_by (h w) (inside w cx.in_z) (λ e. no_turn w x y e ex ey cx.turn) in
        let hv = above_by (h v) (inside v cy.in_c) (λ e. no_turn x y v ex ey e cy.turn) in
        let same_b : x ≡ b = exact x b cx.in_m ib (at_b w x ex hw (cx.first b ib) (from_b x cx.in_m ex)) in
        let same_a : y ≡ a = exact y a cx.in_c ia (at_a y v ey hv (cy.second a ia) (to_a y cx.in_c ey)) in (
          t.0 ++ (w ∷ []),
          t.1,
          t.2 ∙ sym (append_on t.0 (w ∷ []) (x ∷ (y ∷ t.1)))
              ∙ ap₂ (λ p q. (t.0 ++ (w ∷ [])) ++ (p ∷ (q ∷ t.1))) same_b same_a,
        )

    by_low : Low h (round R) → HasSide
    by_low l = by_lt_z (pos 0) (h l.c)
        (λ hc. by_lt_z (pos 0) (h l.z) (λ hz. absurd (apart hz hc))
        (λ low. let before = precede L r0 r1 r2 rs l.z l.m l.c t in
        found before.0 l.z l.m l.c before.1 t (zero_at (h l.z) (inside l.z k.in_z) low) em))
        (λ low. let behind = follow L r0 r1 r2 rs l.z l.m l.c t in
        found l.z l.m l.c behind.0 t behind.1 em (zero_at (h l.c) (inside l.c k.in_c) low))
      where
        t : In3 l.z l.m l.c
        t = (l.before, l.after, l.is)

        k : AreCorners l.z l.m l.c
        k = corners_at l.z l.m l.c t

        em : h l.m ≡ pos 0
        em = at_low l.z l.m l.c k.turn (k.second b ib) (k.first b ib) l.not_above l.nor_above (inside l.m k.in_m)

        apart : pos 0 <ℤ h l.z → pos 0 <ℤ h l.c → ⊥
        apart hz hc =
            let same_b : l.m ≡ b = exact l.m b k.in_m ib (at_b l.z l.m em hz (k.first b ib) (from_b l.m k.in_m em)) in
            let same_a : l.m ≡ a = exact l.m a k.in_m ia (at_a l.m l.c em hc (k.second a ia) (to_a l.m k.in_m em)) in
            some (h o) off (ap (λ x. L b x o) (sym same_a ∙ same_b) ∙ no_way)

    pub shared_side : HasSide
    shared_side = by_low (low_corner h r0 r1 r2 rs)
