-- Points have one convex ring.
use Rattle.std.proofs.Common.{◌≡◌, inl, inr, ◌≤◌, List, [], ◌∷◌, ◌++◌, length, refl, sym, ap, ap₂, ◌∙◌, arith, subst}
use lib.IntN.{ℤ, pos, negsuc, ◌-ℤ◌, ◌*ℤ◌}
use lib.Signed.{◌<ℤ◌, ◌≤ℤ◌}
use Rattle.std.specs.List.{AllByRecursion, Contains}
use Rattle.std.proofs.lemmas.Int.{ints}
use Rattle.std.proofs.lemmas.List.Elements.{All-contains}
use Rattle.scad_base.proofs.Products.{positive_product}
use Rattle.scad_geom.proofs.Signs.{at_least_left, at_least_mul}
use Rattle.scad_geom.proofs.Ring.{Term, ring, num, ◌⊖◌, ◌⊗◌, v0, v1, v2, v3, v4, v5, v6, v7, v8, v9}
use Rattle.scad_hull.specs.Plane.{area, left, IsBefore}
use Rattle.scad_hull.specs.Ring.{round, IsRightOfNone, AllTurnLeft, IsConvexRing}
use Rattle.scad_hull.proofs.Chains.{IsPlane}
use Rattle.scad_hull.proofs.Lines.{nought_right}
use Rattle.scad_hull.proofs.Planar.{Same, left_on}
use Rattle.scad_hull.proofs.Rings.{final, final_all}
use Rattle.scad_hull.proofs.Whole.{recursion_of}

-- ---- the next corner
module _ {X : Type 0} (f g : X → ℤ) (a : X) (zx zy : ℤ) where
  -- how far a point lies along a way that points to the left of (zx, zy)
  abbrev pub far : X → ℤ
  far p = area zx zy (f p -ℤ f a) (g p -ℤ g a)

  beyond : (b c o : X) → far b *ℤ left f g b c o
      ≡ (far b -ℤ far o) *ℤ left f g a b c -ℤ left f g a b o *ℤ
      ((f c -ℤ f b) *ℤ zy -ℤ (g c -ℤ g b) *ℤ zx)
  beyond b c o =
      let A = λ (x y z w : Term). x ⊗ w ⊖ y ⊗ z in
      let far_b = A v8 v9 (v2 ⊖ v0) (v3 ⊖ v1) in
      let far_o = A v8 v9 (v6 ⊖ v0) (v7 ⊖ v1) in
      ring (f a ∷ g a ∷ f b ∷ g b ∷ f c ∷ g c ∷ f o ∷ g o ∷ zx ∷ zy ∷ [])
      (far_b ⊗ A (v4 ⊖ v2) (v5 ⊖ v3) (v6 ⊖ v2) (v7 ⊖ v3))
      ((far_b ⊖ far_o) ⊗ A (v2 ⊖ v0) (v3 ⊖ v1) (v4 ⊖ v0) (v5 ⊖ v1)
      ⊖ A (v2 ⊖ v0) (v3 ⊖ v1) (v6 ⊖ v0) (v7 ⊖ v1) ⊗ ((v4 ⊖ v2) ⊗ v9 ⊖ (v5 ⊖ v3) ⊗ v8)) refl

  -- no point on the line lies beyond the next corner
  pub not_beyond : (b c o : X) → pos 0 <ℤ far b → left f g a b o ≡ pos 0 → pos 0 <ℤ left f g a b c
      → pos 0 ≤ℤ left f g b c o → far o ≤ℤ far b
  not_beyond b c o hb flat turn hold =
      let k = (f c -ℤ f b) *ℤ zy -ℤ (g c -ℤ g b) *ℤ zx in
      let e : far b *ℤ left f g b c o ≡ (far b -ℤ far o) *ℤ left f g a b c =
      beyond b c o ∙ ap (λ (z : ℤ). (far b -ℤ far o) *ℤ left f g a b c -ℤ z *ℤ k) flat
      ∙ ring (((far b -ℤ far o) *ℤ left f g a b c) ∷ k ∷ []) (v0 ⊖ num (pos 0) ⊗ v1) v0 refl in
      at_most (far b) (far o) (at_least_left (far b -ℤ far o) (left f g a b c) turn
      (subst (λ (z : ℤ). pos 0 ≤ℤ z) e (at_least_mul (far b) (left f g b c o) (weak (far b) hb) hold)))
    where
      weak : (z : ℤ) → pos 0 <ℤ z → pos 0 ≤ℤ z
      weak z h = omega (arith, ints)

      at_most : (x y : ℤ) → pos 0 ≤ℤ (x -ℤ y) → y ≤ℤ x
      at_most x y h = omega (arith, ints)

  apart_x : (b o : X) → far b *ℤ (f o -ℤ f b)
      ≡ (far o -ℤ far b) *ℤ (f b -ℤ f a) -ℤ left f g a b o *ℤ zx
  apart_x b o =
      let A = λ (x y z w : Term). x ⊗ w ⊖ y ⊗ z in
      ring (f a ∷ g a ∷ f b ∷ g b ∷ f o ∷ g o ∷ zx ∷ zy ∷ [])
      (A v6 v7 (v2 ⊖ v0) (v3 ⊖ v1) ⊗ (v4 ⊖ v2))
      ((A v6 v7 (v4 ⊖ v0) (v5 ⊖ v1) ⊖ A v6 v7 (v2 ⊖ v0) (v3 ⊖ v1)) ⊗ (v2 ⊖ v0)
      ⊖ A (v2 ⊖ v0) (v3 ⊖ v1) (v4 ⊖ v0) (v5 ⊖ v1) ⊗ v6) refl

  apart_y : (b o : X) → far b *ℤ (g o -ℤ g b)
      ≡ (far o -ℤ far b) *ℤ (g b -ℤ g a) -ℤ left f g a b o *ℤ zy
  apart_y b o =
      let A = λ (x y z w : Term). x ⊗ w ⊖ y ⊗ z in
      ring (f a ∷ g a ∷ f b ∷ g b ∷ f o ∷ g o ∷ zx ∷ zy ∷ [])
      (A v6 v7 (v2 ⊖ v0) (v3 ⊖ v1) ⊗ (v5 ⊖ v3))
      ((A v6 v7 (v4 ⊖ v0) (v5 ⊖ v1) ⊖ A v6 v7 (v2 ⊖ v0) (v3 ⊖ v1)) ⊗ (v3 ⊖ v1)
      ⊖ A (v2 ⊖ v0) (v3 ⊖ v1) (v4 ⊖ v0) (v5 ⊖ v1) ⊗ v7) refl

  -- two points on the line that are as far are one
  pub as_far : (b o : X) → pos 0 <ℤ far b → left f g a b o ≡ pos 0 → far o ≡ far b → Same f g b o
  as_far b o hb flat same = (
    equal (f b) (f o) (nought_right (far b) (f o -ℤ f b)
        (apart_x b o ∙ none (far o) (far b) (f b -ℤ f a) (left f g a b o) zx same flat) some),
    equal (g b) (g o) (nought_right (far b) (g o -ℤ g b)
        (apart_y b o ∙ none (far o) (far b) (g b -ℤ g a) (left f g a b o) zy same flat) some),
  )
    where
      some : far b ≡ pos 0 → ⊥
      some e = clash (far b) hb e
        where
          clash : (z : ℤ) → pos 0 <ℤ z → z ≡ pos 0 → ⊥
          clash z h e = omega (arith, ints)

      equal : (x y : ℤ) → y -ℤ x ≡ pos 0 → x ≡ y
      equal x y e = omega (arith, ints)

      none : (x y d l z : ℤ) → x ≡ y → l ≡ pos 0 → (x -ℤ y) *ℤ d -ℤ l *ℤ z ≡ pos 0
      none x y d l z e h = ap₂ (λ (u v : ℤ). (u -ℤ y) *ℤ d -ℤ v *ℤ z) e h
          ∙ ring (y ∷ d ∷ z ∷ []) ((v0 ⊖ v0) ⊗ v1 ⊖ num (pos 0) ⊗ v2) (num (pos 0)) refl

  -- the next corners of two rings, each of which has the other's on its line
  pub same_next : (b c o e : X) → pos 0 <ℤ far b → pos 0 <ℤ far o → left f g a b o ≡ pos 0
      → left f g a o b ≡ pos 0 → pos 0 <ℤ left f g a b c → pos 0 <ℤ left f g a o e
      → pos 0 ≤ℤ left f g b c o → pos 0 ≤ℤ left f g o e b → Same f g b o
  same_next b c o e hb ho flat flat_too turn turn_too hold hold_too =
      as_far b o hb flat (both (far o) (far b) (not_beyond b c o hb flat turn hold)
      (not_beyond o e b ho flat_too turn_too hold_too))
    where
      both : (x y : ℤ) → x ≤ℤ y → y ≤ℤ x → x ≡ y
      both x y h k = omega (arith, ints)

-- ---- rings
turn_rest : {X : Type 0} (left : X → X → X → ℤ) (x y : X) (zs : List X) → AllTurnLeft left (x ∷ (y ∷ zs))
    → AllTurnLeft left (y ∷ zs)
turn_rest left x y [] t = tt
turn_rest left x y (z ∷ zs) t = t.1

module _ {X : Type 0} (f g : X → ℤ) (Before Alike : X → X → Type 0) (plane : IsPlane (left f g) Before Alike)
    (points : List X)
    (exact : (p q : X) → Contains points p → Contains points q → Same f g p q → p ≡ q)
    (alike : (p q : X) → Contains points p → Contains points q → Alike p q → p ≡ q)
    (ahead : (m b o : X) → Before m b → Before m o → left f g m b o ≡ pos 0 → (zx : ℤ) × (zy : ℤ)
    × (pos 0 <ℤ far f g m zx zy b) × (pos 0 <ℤ far f g m zx zy o)) where
  abbrev In : X → Type 0
  In = Contains points

  level : (x y : ℤ) → y ≡ pos 0 -ℤ x → pos 0 ≤ℤ x → pos 0 ≤ℤ y → x ≡ pos 0
  level x y e h k = omega (arith, ints)

  step : (a : X) (zx zy : ℤ) (x c y e : X) → In x → In y → pos 0 <ℤ far f g a zx zy x
      → pos 0 <ℤ far f g a zx zy y → pos 0 <ℤ left f g a x c → pos 0 <ℤ left f g a y e
      → pos 0 ≤ℤ left f g a x y → pos 0 ≤ℤ left f g a y x → pos 0 ≤ℤ left f g x c y
      → pos 0 ≤ℤ left f g y e x → x ≡ y
  step a zx zy x c y e ix iy fx fy tx ty h k over over_too =
      exact x y ix iy
      (same_next f g a zx zy x c y e fx fy (level (left f g a x y) (left f g a y x) (plane.turned a x y) h k)
      (level (left f g a y x) (left f g a x y) (plane.turned a y x) k h)
      tx ty over over_too)

  module _ (m b : X) (im : In m) (ib : In b) where
    -- the corner after the next
    record After (a x : X) (rs : List X) : Type 0 where
      corner : X
      turn : pos 0 <ℤ left f g a x corner
      over : (q : X) → IsRightOfNone (left f g) q (x ∷ (rs ++ (m ∷ (b ∷ []))))
          → pos 0 ≤ℤ left f g x corner q

    after : (a x : X) (rs : List X) → AllTurnLeft (left f g) (a ∷ (x ∷ (rs ++ (m ∷ (b ∷ [])))))
        → After a x rs
    after a x [] t = record { corner = m; turn = t.0; over = λ q r. r.0 }
    after a x (r ∷ rs) t = record { corner = r; turn = t.0; over = λ q h. h.0 }

    from_turn : (z a x : X) → pos 0 <ℤ left f g z a x → pos 0 <ℤ far f g a (f a -ℤ f z) (g a -ℤ g z) x
    from_turn z a x h = subst (λ (w : ℤ). pos 0 <ℤ w) (left_on f g z a x) h

    repeated : (y : X) → m ≡ y → Before m y → ⊥
    repeated y e h = let k : Before m m = subst (Before m) (sym e) h in plane.once m m k k

    walk : (z a : X) (rs ss : List X) → AllTurnLeft (left f g) (z ∷ (a ∷ (rs ++ (m ∷ (b ∷ [])))))
        → AllTurnLeft (left f g) (z ∷ (a ∷ (ss ++ (m ∷ (b ∷ [])))))
        → ((q : X) → In q → IsRightOfNone (left f g) q (a ∷ (rs ++ (m ∷ (b ∷ [])))))
        → ((q : X) → In q → IsRightOfNone (left f g) q (a ∷ (ss ++ (m ∷ (b ∷ [])))))
        → AllByRecursion In rs → AllByRecursion In ss → AllByRecursion (Before m) rs
        → AllByRecursion (Before m) ss → rs ≡ ss
    walk z a [] [] t u h k i j l n = refl
    walk z a [] (y ∷ ss) t u h k i j l n =
        let next = after a y ss u.1 in
        absurd (repeated y
        (step a (f a -ℤ f z) (g a -ℤ g z) m b y next.corner im j.0 (from_turn z a m t.0) (from_turn z a y u.0) t.1.0
        next.turn
        (h y j.0).0 (k m im).0 (h y j.0).1.0 (next.over m (k m im).1))
        n.0)
    walk z a (x ∷ rs) [] t u h k i j l n =
        let next = after a x rs t.1 in
        absurd (repeated x
        (sym (step a (f a -ℤ f z) (g a -ℤ g z) x next.corner m b i.0 im (from_turn z a x t.0) (from_turn z a m u.0)
        next.turn u.1.0
        (h m im).0 (k x i.0).0 (next.over m (h m im).1) (k x i.0).1.0))
        l.0)
    walk z a (x ∷ rs) (y ∷ ss) t u h k i j l n =
        let one = after a x rs t.1 in
        let two = after a y ss u.1 in
        let same : x ≡ y =
        step a (f a -ℤ f z) (g a -ℤ g z) x one.corner y two.corner i.0 j.0 (from_turn z a x t.0)
        (from_turn z a y u.0) one.turn two.turn
        (h y j.0).0 (k x i.0).0 (one.over y (h y j.0).1) (two.over x (k x i.0).1) in
        ap₂ (λ p ps. p ∷ ps) same
        (walk a x rs ss t.1
        (subst (λ p. AllTurnLeft (left f g) (a ∷ (p ∷ (ss ++ (m ∷ (b ∷ [])))))) (sym same) u.1)
        (λ q iq. (h q iq).1)
        (λ q iq. subst (λ p. IsRightOfNone (left f g) q (p ∷ (ss ++ (m ∷ (b ∷ []))))) (sym same) (k q iq).1)
        i.1 j.1 l.1 n.1)

  -- ---- the first corner
  last_turn : (x : X) (xs : List X) (m b : X) → AllTurnLeft (left f g) (x ∷ (xs ++ (m ∷ (b ∷ []))))
      → pos 0 <ℤ left f g (final x xs) m b
  last_turn x [] m b t = t.0
  last_turn x (y ∷ xs) m b t = last_turn y xs m b (turn_rest (left f g) x y (xs ++ (m ∷ (b ∷ []))) t)

  last_over : (q x : X) (xs : List X) (m b : X) → IsRightOfNone (left f g) q (x ∷ (xs ++ (m ∷ (b ∷ []))))
      → pos 0 ≤ℤ left f g (final x xs) m q
  last_over q x [] m b h = h.0
  last_over q x (y ∷ xs) m b h = last_over q y xs m b h.1

  against : (x y : ℤ) → x ≡ pos 0 -ℤ y → pos 0 <ℤ x → pos 0 ≤ℤ y → ⊥
  against x y e h k = omega (arith, ints)

  -- no point comes before a ring's first corner
  pub least : (m b : X) (rs : List X) → AllTurnLeft (left f g) (round (m ∷ (b ∷ rs)))
      → ((q : X) → In q → IsRightOfNone (left f g) q (round (m ∷ (b ∷ rs))))
      → AllByRecursion (Before m) (b ∷ rs) → (q : X) → In q → Before q m → ⊥
  least m b rs t h s q iq before =
      let z = final b rs in
      against (left f g z m b) (left f g m z b) (plane.swapped m z b)
      (last_turn b rs m b (turn_rest (left f g) m b (rs ++ (m ∷ (b ∷ []))) t))
      (plane.amid q m z b before (final_all (Before m) b rs s.0 s.1) s.0 (last_over q b rs m b (h q iq).1) (h q iq).0)

  too_short : {A : Type 0} (a : X) → 3 ≤ length (a ∷ []) → A
  too_short a h = absurd (omega arith)

  pub one_ring : (r s : List X) → IsConvexRing (left f g) Before points r → IsConvexRing (left f g) Before points s
      → r ≡ s
  one_ring [] s h k = absurd h.starts
  one_ring (m ∷ []) s h k = too_short m h.three
  one_ring (m ∷ (b ∷ rs)) [] h k = absurd k.starts
  one_ring (m ∷ (b ∷ rs)) (n ∷ []) h k = too_short n k.three
  one_ring (m ∷ (b ∷ rs)) (n ∷ (o ∷ ss)) h k = from_first same_first
    where
      holds : (xs : List X) → IsConvexRing (left f g) Before points xs → (q : X) → In q
          → IsRightOfNone (left f g) q (round xs)
      holds xs c q iq = All-contains (λ p. IsRightOfNone (left f g) p (round xs)) points q c.holds iq

      rm : AllByRecursion In (m ∷ (b ∷ rs))
      rm = recursion_of In (m ∷ (b ∷ rs)) h.corners

      sn : AllByRecursion In (n ∷ (o ∷ ss))
      sn = recursion_of In (n ∷ (o ∷ ss)) k.corners

      after_m : AllByRecursion (Before m) (b ∷ rs)
      after_m = recursion_of (Before m) (b ∷ rs) h.starts

      after_n : AllByRecursion (Before n) (o ∷ ss)
      after_n = recursion_of (Before n) (o ∷ ss) k.starts

      same_first : n ≡ m
      same_first = elim (plane.either m n) [
        | inl before ↦ absurd (least n o ss k.turns (holds (n ∷ (o ∷ ss)) k) after_n m rm.0 before)
        | inr (inl e) ↦ alike n m sn.0 rm.0 e
        | inr (inr before) ↦ absurd (least m b rs h.turns (holds (m ∷ (b ∷ rs)) h) after_m n sn.0 before)
      ]

      from_first : n ≡ m → m ∷ (b ∷ rs) ≡ n ∷ (o ∷ ss)
      from_first e =
          let turns : AllTurnLeft (left f g) (round (m ∷ (o ∷ ss))) = subst
          (λ p. AllTurnLeft (left f g) (round (p ∷ (o ∷ ss)))) e k.turns in
          let over : (q : X) → In q → IsRightOfNone (left f g) q (round (m ∷ (o ∷ ss))) = λ q iq. subst
          (λ p. IsRightOfNone (left f g) q (round (p ∷ (o ∷ ss)))) e (holds (n ∷ (o ∷ ss)) k q iq) in
          let later : AllByRecursion (Before m) (o ∷ ss) = subst (λ p. AllByRecursion (Before p) (o ∷ ss)) e after_n in
          ap₂ (λ p ps. p ∷ ps) (sym e) (from_next turns over later)
        where
          from_next : AllTurnLeft (left f g) (round (m ∷ (o ∷ ss)))
              → ((q : X) → In q → IsRightOfNone (left f g) q (round (m ∷ (o ∷ ss))))
              → AllByRecursion (Before m) (o ∷ ss) → b ∷ rs ≡ o ∷ ss
          from_next turns over later =
              let flat : left f g m b o ≡ pos 0 = level (left f g m b o) (left f g m o b) (plane.turned m b o)
              (holds (m ∷ (b ∷ rs)) h o sn.1.0).0 (over b rm.1.0).0 in
              let (zx, zy, hb, ho) = ahead m b o after_m.0 later.0 flat in
              let one = after m b rm.0 rm.1.0 m b rs h.turns in
              let two = after m o rm.0 sn.1.0 m o ss turns in
              let same : b ≡ o =
              step m zx zy b one.corner o two.corner rm.1.0 sn.1.0 hb ho one.turn two.turn
              (holds (m ∷ (b ∷ rs)) h o sn.1.0).0 (over b rm.1.0).0
              (one.over o (holds (m ∷ (b ∷ rs)) h o sn.1.0).1)
              (two.over b (over b rm.1.0).1) in
              ap₂ (λ p ps. p ∷ ps) same
              (walk m b rm.0 rm.1.0 m b rs ss h.turns
              (subst (λ p. AllTurnLeft (left f g) (round (m ∷ (p ∷ ss)))) (sym same) turns)
              (λ q iq. (holds (m ∷ (b ∷ rs)) h q iq).1)
              (λ q iq. (subst (λ p. IsRightOfNone (left f g) q (round (m ∷ (p ∷ ss)))) (sym same) (over q iq)).1)
              rm.1.1 sn.1.1 after_m.1 later.1)

-- ---- in the order of the plane itself
module _ {X : Type 0} (f g : X → ℤ) where
  upright : (x y : ℤ) → area (pos 1) (pos 0) x y ≡ y
  upright x y = ring (x ∷ y ∷ []) (num (pos 1) ⊗ v1 ⊖ num (pos 0) ⊗ v0) v1 refl

  sideways : (x y : ℤ) → area (pos 0) (negsuc 0) x y ≡ x
  sideways x y = ring (x ∷ y ∷ []) (num (pos 0) ⊗ v1 ⊖ num (negsuc 0) ⊗ v0) v0 refl

  bent_away : (x y z w : ℤ) → area x y z w ≡ pos 0 → pos 0 <ℤ y → w ≡ pos 0 → pos 0 <ℤ z → ⊥
  bent_away x y z w e hy hw hz =
      clash (y *ℤ z) (positive_product y z hy hz)
      (ring (x ∷ y ∷ z ∷ []) (v1 ⊗ v2) (num (pos 0) ⊖ (v0 ⊗ num (pos 0) ⊖ v1 ⊗ v2)) refl
      ∙ ap (λ (u : ℤ). pos 0 -ℤ u) (ap (λ (u : ℤ). x *ℤ u -ℤ y *ℤ z) (sym hw) ∙ e))
    where
      clash : (u : ℤ) → pos 0 <ℤ u → u ≡ pos 0 -ℤ pos 0 → ⊥
      clash u h e = omega (arith, ints)

  bent_too : (x y z w : ℤ) → area x y z w ≡ pos 0 → y ≡ pos 0 → pos 0 <ℤ x → pos 0 <ℤ w → ⊥
  bent_too x y z w e hy hx hw =
      clash (x *ℤ w) (positive_product x w hx hw)
      (ring (x ∷ z ∷ w ∷ []) (v0 ⊗ v2) (v0 ⊗ v2 ⊖ num (pos 0) ⊗ v1) refl
      ∙ ap (λ (u : ℤ). x *ℤ w -ℤ u *ℤ z) (sym hy)
      ∙ e)
    where
      clash : (u : ℤ) → pos 0 <ℤ u → u ≡ pos 0 → ⊥
      clash u h e = omega (arith, ints)

  -- a way to whose left both points of a line lie
  pub onward_ahead : (m b o : X) → IsBefore f g m b → IsBefore f g m o → left f g m b o ≡ pos 0
      → (zx : ℤ) × (zy : ℤ)
      × (pos 0 <ℤ far f g m zx zy b) × (pos 0 <ℤ far f g m zx zy o)
  onward_ahead m b o hb ho flat = elim hb [
    | inl up ↦ elim ho [
      | inl too ↦ (
        pos 1,
        pos 0,
        as_above _ _ (upright (f b -ℤ f m) (g b -ℤ g m)) up,
        as_above _ _
            (upright (f o -ℤ f m) (g o -ℤ g m)) too,
      )
      | inr level ↦ absurd (bent_away (f b -ℤ f m) (g b -ℤ g m) (f o -ℤ f m) (g o -ℤ g m) flat up level.0
          level.1)
    ]
    | inr right ↦ elim ho [
      | inl up ↦ absurd (bent_too (f b -ℤ f m) (g b -ℤ g m) (f o -ℤ f m) (g o -ℤ g m) flat right.0 right.1 up)
      | inr too ↦ (
        pos 0,
        negsuc 0,
        as_above _ _ (sideways (f b -ℤ f m) (g b -ℤ g m)) right.1,
        as_above _ _
            (sideways (f o -ℤ f m) (g o -ℤ g m)) too.1,
      )
    ]
  ]
    where
      as_above : (x y : ℤ) → x ≡ y → pos 0 <ℤ y → pos 0 <ℤ x
      as_above x y e h = omega (arith, ints)
