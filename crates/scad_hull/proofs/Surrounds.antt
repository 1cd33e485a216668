-- No plane through a point on the inner side of all triangles of a closed surface has all corners on one side.
-- And turning a plane about a line: what is outermost so far stays so.
use Rattle.std.proofs.Common.{◌≡◌, inl, List, [], ◌∷◌, refl, sym, ap, ◌∙◌, arith, subst, true}
use lib.IntN.{ℤ, pos, ◌+ℤ◌, ◌-ℤ◌, ◌*ℤ◌}
use lib.Signed.{◌<ℤ◌, ◌≤ℤ◌}
use Rattle.std.specs.List.{AllByRecursion}
use Rattle.std.proofs.lemmas.Int.{ints}
use Rattle.scad_base.proofs.Products.{positive_product}
use Rattle.scad_geom.specs.declared.point3.Pt3.{Pt3}
use Rattle.scad_geom.proofs.Signs.{at_least_left, at_least_mul}
use Rattle.scad_geom.proofs.Ring.{Term, ring, num, var, ◌⊕◌, ◌⊖◌, ◌⊗◌}
use Rattle.scad_solid.specs.declared.triangle.Triangle.{Triangle}
use Rattle.scad_solid.specs.Surface.{is_closed}
use Rattle.scad_hull.proofs.Escape.{volume, IsToward, IsSided, one_open}
use Rattle.scad_hull.specs.Plane.{area, IsOnward}
use Rattle.scad_hull.proofs.Planar.{area_on}

det_term : Term → Term → Term → Term → Term → Term → Term → Term → Term → Term
det_term ax ay aw bx by bw cx cy cw = aw ⊗ (bx ⊗ cy ⊖ by ⊗ cx)
    ⊕ (bw ⊗ (cx ⊗ ay ⊖ cy ⊗ ax) ⊕ cw ⊗ (ax ⊗ by ⊖ ay ⊗ bx))

abbrev det : ℤ → ℤ → ℤ → ℤ → ℤ → ℤ → ℤ → ℤ → ℤ → ℤ
det ax ay aw bx by bw cx cy cw = aw *ℤ (bx *ℤ cy -ℤ by *ℤ cx) +ℤ
    (bw *ℤ (cx *ℤ ay -ℤ cy *ℤ ax) +ℤ cw *ℤ (ax *ℤ by -ℤ ay *ℤ bx))

-- three numbers that are sums of three others by weights
module _ (x y z : Pt3 → ℤ) (k0 k1 k2 l0 l1 l2 m0 m1 m2 : ℤ) where
  abbrev f : Pt3 → ℤ
  f p = k0 *ℤ x p +ℤ (k1 *ℤ y p +ℤ k2 *ℤ z p)

  abbrev g : Pt3 → ℤ
  g p = l0 *ℤ x p +ℤ (l1 *ℤ y p +ℤ l2 *ℤ z p)

  abbrev h : Pt3 → ℤ
  h p = m0 *ℤ x p +ℤ (m1 *ℤ y p +ℤ m2 *ℤ z p)

  mixed : (a b c : Pt3) → volume f g h a b c ≡ det k0 l0 m0 k1 l1 m1 k2 l2 m2 *ℤ volume x y z a b c
  unfolding volume det_term
  mixed a b c =
      let s : Term → Term → Term → Term → Term → Term → Term = λ (k l m u v w : Term). k ⊗ u ⊕ (l ⊗ v ⊕ m ⊗ w) in
      let F : Term → Term → Term → Term = s (var 9) (var 10) (var 11) in
      let G : Term → Term → Term → Term = s (var 12) (var 13) (var 14) in
      let H : Term → Term → Term → Term = s (var 15) (var 16) (var 17) in
      ring (x a ∷ y a ∷ z a ∷ x b ∷ y b ∷ z b ∷ x c ∷ y c ∷ z c ∷ k0 ∷ k1 ∷ k2 ∷ l0 ∷ l1
      ∷ l2 ∷ m0 ∷ m1 ∷ m2 ∷ [])
      (det_term (F (var 0) (var 1) (var 2)) (G (var 0) (var 1) (var 2)) (H (var 0) (var 1) (var 2))
      (F (var 3) (var 4) (var 5)) (G (var 3) (var 4) (var 5)) (H (var 3) (var 4) (var 5))
      (F (var 6) (var 7) (var 8)) (G (var 6) (var 7) (var 8)) (H (var 6) (var 7) (var 8)))
      (det_term (var 9) (var 12) (var 15) (var 10) (var 13) (var 16) (var 11) (var 14) (var 17)
      ⊗ det_term (var 0) (var 1) (var 2) (var 3) (var 4) (var 5) (var 6) (var 7) (var 8)) refl

positive_as : (s k v : ℤ) → s ≡ k *ℤ v → pos 0 <ℤ k → pos 0 <ℤ v → pos 0 <ℤ s
positive_as s k v e a b = let p = positive_product k v a b in omega (arith, ints)

-- a normal (n0, n1, n2), and a way (u0, u1, u2) that isn't along it
module _ (x y z : Pt3 → ℤ) (n0 n1 n2 u0 u1 u2 : ℤ) where
  abbrev s0 : ℤ
  s0 = n1 *ℤ u2 -ℤ n2 *ℤ u1

  abbrev s1 : ℤ
  s1 = n2 *ℤ u0 -ℤ n0 *ℤ u2

  abbrev s2 : ℤ
  s2 = n0 *ℤ u1 -ℤ n1 *ℤ u0

  triad : det u0 s0 n0 u1 s1 n1 u2 s2 n2 ≡ s0 *ℤ s0 +ℤ (s1 *ℤ s1 +ℤ s2 *ℤ s2)
  unfolding det_term
  triad =
      let S : Term → Term → Term → Term → Term = λ (a b c d : Term). a ⊗ b ⊖ c ⊗ d in
      let A = S (var 1) (var 5) (var 2) (var 4) in
      let B = S (var 2) (var 3) (var 0) (var 5) in
      let C = S (var 0) (var 4) (var 1) (var 3) in
      ring (n0 ∷ n1 ∷ n2 ∷ u0 ∷ u1 ∷ u2 ∷ [])
      (det_term (var 3) A (var 0) (var 4) B (var 1) (var 5) C (var 2)) (A ⊗ A ⊕ (B ⊗ B ⊕ C ⊗ C)) refl

  abbrev pub depth : Pt3 → ℤ
  depth p = n0 *ℤ x p +ℤ (n1 *ℤ y p +ℤ n2 *ℤ z p)

  pub record IsDeep (t : Triangle) : Type 0 where
    pub first : pos 0 <ℤ depth t.a
    pub second : pos 0 <ℤ depth t.b
    pub third : pos 0 <ℤ depth t.c
    pub round : pos 0 <ℤ volume x y z t.a t.b t.c

  module _ (some : pos 0 <ℤ (s0 *ℤ s0 +ℤ (s1 *ℤ s1 +ℤ s2 *ℤ s2))) where
    abbrev f1 : Pt3 → ℤ
    f1 p = u0 *ℤ x p +ℤ (u1 *ℤ y p +ℤ u2 *ℤ z p)

    abbrev f2 : Pt3 → ℤ
    f2 p = s0 *ℤ x p +ℤ (s1 *ℤ y p +ℤ s2 *ℤ z p)

    toward : (t : Triangle) → IsDeep t → IsToward f1 f2 depth t
    toward t d = record {
      first = d.first;
      second = d.second;
      third = d.third;
      round = positive_as (volume f1 f2 depth t.a t.b t.c) (det u0 s0 n0 u1 s1 n1 u2 s2 n2) (volume x y z t.a t.b t.c)
          (mixed x y z u0 u1 u2 s0 s1 s2 n0 n1 n2 t.a t.b t.c)
          (subst (λ (w : ℤ). pos 0 <ℤ w) (sym triad) some) d.round;
    }

    all_toward : (ts : List Triangle) → AllByRecursion IsDeep ts → AllByRecursion (IsSided f1 f2 depth) ts
    all_toward [] d = tt
    all_toward (t ∷ ts) d = (inl (toward t d.0), all_toward ts d.1)

    pub surrounded : (ts : List Triangle) → is_closed ts ≡ true → AllByRecursion IsDeep ts → ts ≡ []
    surrounded [] closed d = refl
    surrounded (t ∷ ts) closed d = absurd (one_open f1 f2 depth t (toward t d.0) ts (all_toward ts d.1) closed)

-- ---- turning a plane about the line with the way (u0, u1, u2), from a plane with the inward normal (n0, n1, n2)
-- through it
module _ (n0 n1 n2 u0 u1 u2 : ℤ) (upright : n0 *ℤ u0 +ℤ (n1 *ℤ u1 +ℤ n2 *ℤ u2) ≡ pos 0) where
  -- six times the volume of the line's way and two others
  abbrev pub turn3 : ℤ → ℤ → ℤ → ℤ → ℤ → ℤ → ℤ
  turn3 rx ry rz sx sy sz = det u0 u1 u2 rx ry rz sx sy sz

  abbrev pub height : ℤ → ℤ → ℤ → ℤ
  height rx ry rz = n0 *ℤ rx +ℤ (n1 *ℤ ry +ℤ n2 *ℤ rz)

  abbrev pub aside : ℤ → ℤ → ℤ → ℤ
  aside rx ry rz = (n2 *ℤ u1 -ℤ n1 *ℤ u2) *ℤ rx +ℤ
      ((n0 *ℤ u2 -ℤ n2 *ℤ u0) *ℤ ry +ℤ (n1 *ℤ u0 -ℤ n0 *ℤ u1) *ℤ rz)

  in_plane : (rx ry rz sx sy sz : ℤ) → area (aside rx ry rz) (height rx ry rz) (aside sx sy sz) (height sx sy sz)
      ≡ (n0 *ℤ n0 +ℤ (n1 *ℤ n1 +ℤ n2 *ℤ n2)) *ℤ turn3 sx sy sz rx ry rz
  unfolding det_term
  in_plane rx ry rz sx sy sz =
      ring (n0 ∷ n1 ∷ n2 ∷ u0 ∷ u1 ∷ u2 ∷ rx ∷ ry ∷ rz ∷ sx ∷ sy ∷ sz ∷ []) left_side
      (square ⊗ whole ⊖ (var 0 ⊗ var 3 ⊕ (var 1 ⊗ var 4 ⊕ var 2 ⊗ var 5)) ⊗ rest) refl
      ∙ ap (λ (w : ℤ). (n0 *ℤ n0 +ℤ (n1 *ℤ n1 +ℤ n2 *ℤ n2)) *ℤ turn3 sx sy sz rx ry rz -ℤ w *ℤ det
      n0 n1 n2 sx sy sz rx ry rz) upright
      ∙ nothing_less ((n0 *ℤ n0 +ℤ (n1 *ℤ n1 +ℤ n2 *ℤ n2)) *ℤ turn3 sx sy sz rx ry rz)
      (det n0 n1 n2 sx sy sz rx ry rz)
    where
      tilt : Term → Term → Term → Term
      tilt a b c = (var 2 ⊗ var 4 ⊖ var 1 ⊗ var 5) ⊗ a
          ⊕ ((var 0 ⊗ var 5 ⊖ var 2 ⊗ var 3) ⊗ b ⊕ (var 1 ⊗ var 3 ⊖ var 0 ⊗ var 4) ⊗ c)

      rise : Term → Term → Term → Term
      rise a b c = var 0 ⊗ a ⊕ (var 1 ⊗ b ⊕ var 2 ⊗ c)

      left_side : Term
      left_side = tilt (var 6) (var 7) (var 8) ⊗ rise (var 9) (var 10) (var 11) ⊖ rise (var 6) (var 7) (var 8)
          ⊗ tilt (var 9) (var 10) (var 11)

      square : Term
      square = var 0 ⊗ var 0 ⊕ (var 1 ⊗ var 1 ⊕ var 2 ⊗ var 2)

      whole : Term
      whole = det_term (var 3) (var 4) (var 5) (var 9) (var 10) (var 11) (var 6) (var 7) (var 8)

      rest : Term
      rest = det_term (var 0) (var 1) (var 2) (var 9) (var 10) (var 11) (var 6) (var 7) (var 8)

      nothing_less : (v w : ℤ) → v -ℤ pos 0 *ℤ w ≡ v
      nothing_less v w = ring (v ∷ w ∷ []) (var 0 ⊖ num (pos 0) ⊗ var 1) (var 0) refl

  -- above 0 where s lies beyond r, as one turns inwards from the first plane: both by their ways from a point of the
  -- line. A point off the
  -- line is in front where it lies above that plane, or in it on one side of the line.
  abbrev pub IsFront : ℤ → ℤ → ℤ → Type 0
  IsFront rx ry rz = IsOnward (aside rx ry rz) (height rx ry rz)

  factor_out : (k v : ℤ) → pos 0 <ℤ k → pos 0 ≤ℤ (k *ℤ v) → pos 0 ≤ℤ v
  factor_out k v h p = at_least_left v k h (subst (λ (w : ℤ). pos 0 ≤ℤ w)
      (ring (k ∷ v ∷ []) (var 0 ⊗ var 1) (var 1 ⊗ var 0) refl) p)

  factor_in : (k v : ℤ) → pos 0 <ℤ k → pos 0 ≤ℤ v → pos 0 ≤ℤ (k *ℤ v)
  factor_in k v h p = at_least_mul k v (weak k h) p
    where
      weak : (z : ℤ) → pos 0 <ℤ z → pos 0 ≤ℤ z
      weak z h = omega (arith, ints)

  -- what lay beyond the outermost point so far lies beyond a further one
  pub still_outermost : pos 0 <ℤ (n0 *ℤ n0 +ℤ (n1 *ℤ n1 +ℤ n2 *ℤ n2)) → (px py pz cx cy cz rx ry rz : ℤ)
      → IsFront px py pz → IsFront cx cy cz → IsFront rx ry rz
      → pos 0 ≤ℤ turn3 px py pz cx cy cz → pos 0 ≤ℤ turn3 cx cy cz rx ry rz
      → pos 0 ≤ℤ turn3 px py pz rx ry rz
  still_outermost some px py pz cx cy cz rx ry rz hp hc hr first second =
      let k = n0 *ℤ n0 +ℤ (n1 *ℤ n1 +ℤ n2 *ℤ n2) in
      factor_out k (turn3 px py pz rx ry rz) some
      (subst (λ (w : ℤ). pos 0 ≤ℤ w) (in_plane rx ry rz px py pz)
      (area_on (aside rx ry rz) (height rx ry rz) (aside cx cy cz) (height cx cy cz) (aside px py pz) (height px py pz)
      hr hc hp
      (subst (λ (w : ℤ). pos 0 ≤ℤ w) (sym (in_plane rx ry rz cx cy cz))
      (factor_in k (turn3 cx cy cz rx ry rz) some second))
      (subst (λ (w : ℤ). pos 0 ≤ℤ w) (sym (in_plane cx cy cz px py pz))
      (factor_in k (turn3 px py pz cx cy cz) some first))))
