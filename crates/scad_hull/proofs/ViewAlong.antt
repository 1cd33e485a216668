-- A plane as seen along one coordinate: the other two tell its points apart, in the order of space, and the turns in it
-- from the left ones.
use Rattle.std.proofs.Common.{◌≡◌, ◌⊎◌, inl, inr, Bool, true, false, cond, [], ◌∷◌, refl, sym, ap, ap₂, ◌∙◌, arith}
use lib.IntN.{ℤ, pos, ◌+ℤ◌, ◌-ℤ◌, ◌*ℤ◌}
use lib.Signed.{◌<ℤ◌}
use Rattle.std.specs.Prelude.{int_lt, if◌then◌else◌}
use Rattle.std.specs.Ordering.{ordering_then}
use Rattle.std.specs.declared.cmp.Ordering.TheVariants.{Less, Equal, Greater}
use Rattle.std.proofs.lemmas.Int.{ints}
use Rattle.scad_geom.specs.declared.point3.Pt3.{Pt3}
use Rattle.scad_geom.proofs.Ring.{Term, ring, num, var, ◌⊕◌, ◌⊖◌, ◌⊗◌}
use Rattle.scad_hull.specs.declared.turning.Normal.{Normal}
use Rattle.scad_hull.specs.Plane.{left, IsBefore}
use Rattle.scad_hull.specs.Space.{space_cmp, normal_of, depth_of, face_left, dot_of, square_of}
use Rattle.scad_hull.proofs.Chains.{IsPlane}
use Rattle.scad_hull.proofs.Lines.{nought_right}
use Rattle.scad_hull.proofs.Planar.{IsAfter, Same, plane, turned_plane}
use Rattle.scad_hull.proofs.Mirror.{mirrored, turned_mirrored}

abbrev pub x_of : Pt3 → ℤ
x_of p = p.x

abbrev pub y_of : Pt3 → ℤ
y_of p = p.y

abbrev pub z_of : Pt3 → ℤ
z_of p = p.z

-- ---- two ways in a plane with the normal (n0, n1, n2): their cross product is a multiple of it
module _ (n0 n1 n2 u0 u1 u2 v0 v1 v2 : ℤ) (flat_u : n0 *ℤ u0 +ℤ (n1 *ℤ u1 +ℤ n2 *ℤ u2) ≡ pos 0)
    (flat_v : n0 *ℤ v0 +ℤ (n1 *ℤ v1 +ℤ n2 *ℤ v2) ≡ pos 0) where
  abbrev cross_x : ℤ
  cross_x = u1 *ℤ v2 -ℤ u2 *ℤ v1

  abbrev cross_y : ℤ
  cross_y = u2 *ℤ v0 -ℤ u0 *ℤ v2

  abbrev cross_z : ℤ
  cross_z = u0 *ℤ v1 -ℤ u1 *ℤ v0

  abbrev along : ℤ
  along = n0 *ℤ cross_x +ℤ (n1 *ℤ cross_y +ℤ n2 *ℤ cross_z)

  abbrev whole : ℤ
  whole = n0 *ℤ n0 +ℤ (n1 *ℤ n1 +ℤ n2 *ℤ n2)

  abbrev CrossX : Term
  CrossX = var 4 ⊗ var 8 ⊖ var 5 ⊗ var 7

  abbrev CrossY : Term
  CrossY = var 5 ⊗ var 6 ⊖ var 3 ⊗ var 8

  abbrev CrossZ : Term
  CrossZ = var 3 ⊗ var 7 ⊖ var 4 ⊗ var 6

  abbrev Along : Term
  Along = var 0 ⊗ CrossX ⊕ (var 1 ⊗ CrossY ⊕ var 2 ⊗ CrossZ)

  abbrev Whole : Term
  Whole = var 0 ⊗ var 0 ⊕ (var 1 ⊗ var 1 ⊕ var 2 ⊗ var 2)

  abbrev U : Term
  U = var 0 ⊗ var 3 ⊕ (var 1 ⊗ var 4 ⊕ var 2 ⊗ var 5)

  abbrev V : Term
  V = var 0 ⊗ var 6 ⊕ (var 1 ⊗ var 7 ⊕ var 2 ⊗ var 8)

  nothing_more : (s k l a b c d : ℤ) → s +ℤ
      (k *ℤ (a *ℤ pos 0 -ℤ b *ℤ pos 0) -ℤ l *ℤ (c *ℤ pos 0 -ℤ d *ℤ pos 0)) ≡ s
  nothing_more s k l a b c d =
      ring (s ∷ k ∷ l ∷ a ∷ b ∷ c ∷ d ∷ [])
      (var 0 ⊕ (var 1 ⊗ (var 3 ⊗ num (pos 0) ⊖ var 4 ⊗ num (pos 0)) ⊖ var 2
      ⊗ (var 5 ⊗ num (pos 0) ⊖ var 6 ⊗ num (pos 0))))
      (var 0) refl

  pub by_x : n0 *ℤ along ≡ whole *ℤ cross_x
  by_x =
      ring (n0 ∷ n1 ∷ n2 ∷ u0 ∷ u1 ∷ u2 ∷ v0 ∷ v1 ∷ v2 ∷ []) (var 0 ⊗ Along)
      (Whole ⊗ CrossX ⊕ (var 1 ⊗ (var 5 ⊗ V ⊖ var 8 ⊗ U) ⊖ var 2 ⊗ (var 4 ⊗ V ⊖ var 7 ⊗ U))) refl
      ∙ ap₂ (λ (s t : ℤ). whole *ℤ cross_x +ℤ
      (n1 *ℤ (u2 *ℤ t -ℤ v2 *ℤ s) -ℤ n2 *ℤ (u1 *ℤ t -ℤ v1 *ℤ s))) flat_u flat_v
      ∙ nothing_more (whole *ℤ cross_x) n1 n2 u2 v2 u1 v1

  pub by_y : n1 *ℤ along ≡ whole *ℤ cross_y
  by_y =
      ring (n0 ∷ n1 ∷ n2 ∷ u0 ∷ u1 ∷ u2 ∷ v0 ∷ v1 ∷ v2 ∷ []) (var 1 ⊗ Along)
      (Whole ⊗ CrossY ⊕ (var 2 ⊗ (var 3 ⊗ V ⊖ var 6 ⊗ U) ⊖ var 0 ⊗ (var 5 ⊗ V ⊖ var 8 ⊗ U))) refl
      ∙ ap₂ (λ (s t : ℤ). whole *ℤ cross_y +ℤ
      (n2 *ℤ (u0 *ℤ t -ℤ v0 *ℤ s) -ℤ n0 *ℤ (u2 *ℤ t -ℤ v2 *ℤ s))) flat_u flat_v
      ∙ nothing_more (whole *ℤ cross_y) n2 n0 u0 v0 u2 v2

  pub by_z : n2 *ℤ along ≡ whole *ℤ cross_z
  by_z =
      ring (n0 ∷ n1 ∷ n2 ∷ u0 ∷ u1 ∷ u2 ∷ v0 ∷ v1 ∷ v2 ∷ []) (var 2 ⊗ Along)
      (Whole ⊗ CrossZ ⊕ (var 0 ⊗ (var 4 ⊗ V ⊖ var 7 ⊗ U) ⊖ var 1 ⊗ (var 3 ⊗ V ⊖ var 6 ⊗ U))) refl
      ∙ ap₂ (λ (s t : ℤ). whole *ℤ cross_z +ℤ
      (n0 *ℤ (u1 *ℤ t -ℤ v1 *ℤ s) -ℤ n1 *ℤ (u0 *ℤ t -ℤ v0 *ℤ s))) flat_u flat_v
      ∙ nothing_more (whole *ℤ cross_z) n0 n1 u1 v1 u0 v0

-- the same where the coordinate of the normal is below 0
opposite : (n t s a b c d : ℤ) → n *ℤ t ≡ s *ℤ (a *ℤ b -ℤ c *ℤ d)
    → (pos 0 -ℤ n) *ℤ t ≡ s *ℤ (c *ℤ d -ℤ a *ℤ b)
opposite n t s a b c d e =
    ring (n ∷ t ∷ []) ((num (pos 0) ⊖ var 0) ⊗ var 1) (num (pos 0) ⊖ var 0 ⊗ var 1) refl
    ∙ ap (λ (z : ℤ). pos 0 -ℤ z) e
    ∙ ring (s ∷ a ∷ b ∷ c ∷ d ∷ []) (num (pos 0) ⊖ var 0 ⊗ (var 1 ⊗ var 2 ⊖ var 3 ⊗ var 4))
    (var 0 ⊗ (var 3 ⊗ var 4 ⊖ var 1 ⊗ var 2)) refl

-- ---- the order of space
abbrev pub IsLower : Pt3 → Pt3 → Type 0
IsLower p q = (p.z <ℤ q.z) ⊎ ((p.z ≡ q.z) × ((p.y <ℤ q.y) ⊎ ((p.y ≡ q.y) × (p.x <ℤ q.x))))

pub space_less : (p q : Pt3) → space_cmp p q ≡ Less → IsLower p q
space_less p q e =
    by_tests (int_lt p.z q.z) (int_lt q.z p.z) (int_lt p.y q.y) (int_lt q.y p.y) (int_lt p.x q.x) (int_lt q.x p.x)
    refl refl refl refl refl e
  where
    by_tests : (l m n o r s : Bool) → int_lt p.z q.z ≡ l → int_lt q.z p.z ≡ m → int_lt p.y q.y ≡ n
        → int_lt q.y p.y ≡ o → int_lt p.x q.x ≡ r → ordering_then (cond l Less (cond m Greater Equal))
        (ordering_then (cond n Less (cond o Greater Equal)) (cond r Less (cond s Greater Equal))) ≡ Less
        → IsLower p q
    by_tests true m n o r s a b c d f e = inl (omega (arith, ints))
    by_tests false true n o r s a b c d f e = cc
    by_tests false false true o r s a b c d f e = inr (omega (arith, ints), inl (omega (arith, ints)))
    by_tests false false false true r s a b c d f e = cc
    by_tests false false false false true s a b c d f e =
        inr (omega (arith, ints), inr (omega (arith, ints), omega (arith, ints)))
    by_tests false false false false false true a b c d f e = cc
    by_tests false false false false false false a b c d f e = cc

apart : (a b : ℤ) → a <ℤ b → b -ℤ a ≡ pos 0 → ⊥
apart a b h e = omega (arith, ints)

gone : (a b : ℤ) → a ≡ b → b -ℤ a ≡ pos 0
gone a b e = omega (arith, ints)

rise : (a b : ℤ) → a <ℤ b → pos 0 <ℤ (b -ℤ a)
rise a b h = omega (arith, ints)

-- of a sum of three products one is left where the others are 0
only_x : (n0 n1 n2 x y z : ℤ) → n0 *ℤ x +ℤ (n1 *ℤ y +ℤ n2 *ℤ z) ≡ pos 0 → y ≡ pos 0 → z ≡ pos 0
    → n0 *ℤ x ≡ pos 0
only_x n0 n1 n2 x y z e hy hz =
    ring (n0 ∷ n1 ∷ n2 ∷ x ∷ []) (var 0 ⊗ var 3)
    (var 0 ⊗ var 3 ⊕ (var 1 ⊗ num (pos 0) ⊕ var 2 ⊗ num (pos 0))) refl
    ∙ ap₂ (λ (s t : ℤ). n0 *ℤ x +ℤ (n1 *ℤ s +ℤ n2 *ℤ t)) (sym hy) (sym hz) ∙ e

only_y : (n0 n1 n2 x y z : ℤ) → n0 *ℤ x +ℤ (n1 *ℤ y +ℤ n2 *ℤ z) ≡ pos 0 → n0 ≡ pos 0 → z ≡ pos 0
    → n1 *ℤ y ≡ pos 0
only_y n0 n1 n2 x y z e hx hz =
    ring (n1 ∷ n2 ∷ x ∷ y ∷ []) (var 0 ⊗ var 3)
    (num (pos 0) ⊗ var 2 ⊕ (var 0 ⊗ var 3 ⊕ var 1 ⊗ num (pos 0))) refl
    ∙ ap₂ (λ (s t : ℤ). s *ℤ x +ℤ (n1 *ℤ y +ℤ n2 *ℤ t)) (sym hx) (sym hz) ∙ e

only_z : (n0 n1 n2 x y z : ℤ) → n0 *ℤ x +ℤ (n1 *ℤ y +ℤ n2 *ℤ z) ≡ pos 0 → n0 ≡ pos 0
    → n1 ≡ pos 0 → n2 *ℤ z ≡ pos 0
only_z n0 n1 n2 x y z e hx hy =
    ring (n2 ∷ x ∷ y ∷ z ∷ []) (var 0 ⊗ var 3)
    (num (pos 0) ⊗ var 1 ⊕ (num (pos 0) ⊗ var 2 ⊕ var 0 ⊗ var 3)) refl
    ∙ ap₂ (λ (s t : ℤ). s *ℤ x +ℤ (t *ℤ y +ℤ n2 *ℤ z)) (sym hx) (sym hy) ∙ e

-- ---- a plane, and the turns in it
pub record IsSeenBy (n : Normal) (turn : Pt3 → Pt3 → Pt3 → ℤ) : Type 0 where
  pub f : Pt3 → ℤ
  pub g : Pt3 → ℤ
  pub straight : (turn ≡ left f g) ⊎ (turn ≡ left g f)
  pub there : IsPlane turn (IsBefore f g) (Same f g)
  pub back : IsPlane turn (IsAfter f g) (Same f g)
  pub ordered : (p q : Pt3) → depth_of n p q ≡ pos 0 → space_cmp p q ≡ Less → IsBefore f g p q
  pub exact : (p q : Pt3) → depth_of n p q ≡ pos 0 → Same f g p q → p ≡ q
  pub along : (a b q : Pt3) (w t : ℤ) → w *ℤ (q.x -ℤ a.x) ≡ t *ℤ (b.x -ℤ a.x)
      → w *ℤ (q.y -ℤ a.y) ≡ t *ℤ (b.y -ℤ a.y) → w *ℤ (q.z -ℤ a.z) ≡ t *ℤ (b.z -ℤ a.z)
      → (w *ℤ (f q -ℤ f a) ≡ t *ℤ (f b -ℤ f a)) × (w *ℤ (g q -ℤ g a) ≡ t *ℤ (g b -ℤ g a))
  pub scale : ℤ
  pub positive : pos 0 <ℤ scale
  pub scaled : (p q r : Pt3) → depth_of n p q ≡ pos 0 → depth_of n p r ≡ pos 0
      → scale *ℤ dot_of n (normal_of p q r) ≡ square_of n *ℤ turn p q r

no_gap : (a b : ℤ) → b -ℤ a ≡ pos 0 → a ≡ b
no_gap a b e = omega (arith, ints)

-- turns, by the tests of a normal's signs
abbrev pub turn_by : Bool → Bool → Bool → Bool → Bool → Pt3 → Pt3 → Pt3 → ℤ
turn_by a b c d e =
    if a then left y_of z_of
    else (if b then left z_of y_of
    else (if c then left z_of x_of
    else (if d then left x_of z_of
    else (if e then left x_of y_of
    else left y_of x_of))))

module _ (n : Normal) where
  no_x : (n.x ≡ pos 0 → ⊥) → (p q : Pt3) → depth_of n p q ≡ pos 0 → space_cmp p q ≡ Less
      → IsBefore y_of z_of p q
  no_x some p q flat e = told_by (space_less p q e)
    where
      told_by : IsLower p q → IsBefore y_of z_of p q
      told_by (inl h) = inl (rise p.z q.z h)
      told_by (inr (ez, inl h)) = inr (gone p.z q.z ez, rise p.y q.y h)
      told_by (inr (ez, inr (ey, h))) = absurd (apart p.x q.x h (nought_right n.x (q.x -ℤ p.x)
          (only_x n.x n.y n.z (q.x -ℤ p.x) (q.y -ℤ p.y) (q.z -ℤ p.z) flat (gone p.y q.y ey) (gone p.z q.z ez))
          some))

  no_y : n.x ≡ pos 0 → (n.y ≡ pos 0 → ⊥) → (p q : Pt3) → depth_of n p q ≡ pos 0
      → space_cmp p q ≡ Less → IsBefore x_of z_of p q
  no_y none some p q flat e = told_by (space_less p q e)
    where
      told_by : IsLower p q → IsBefore x_of z_of p q
      told_by (inl h) = inl (rise p.z q.z h)
      told_by (inr (ez, inl h)) = absurd (apart p.y q.y h (nought_right n.y (q.y -ℤ p.y)
          (only_y n.x n.y n.z (q.x -ℤ p.x) (q.y -ℤ p.y) (q.z -ℤ p.z) flat none (gone p.z q.z ez)) some))
      told_by (inr (ez, inr (ey, h))) = inr (gone p.z q.z ez, rise p.x q.x h)

  no_z : n.x ≡ pos 0 → n.y ≡ pos 0 → (n.z ≡ pos 0 → ⊥) → (p q : Pt3) → depth_of n p q ≡ pos 0
      → space_cmp p q ≡ Less → IsBefore x_of y_of p q
  no_z none nor some p q flat e = told_by (space_less p q e)
    where
      told_by : IsLower p q → IsBefore x_of y_of p q
      told_by (inl h) = absurd (apart p.z q.z h (nought_right n.z (q.z -ℤ p.z)
          (only_z n.x n.y n.z (q.x -ℤ p.x) (q.y -ℤ p.y) (q.z -ℤ p.z) flat none nor) some))
      told_by (inr (ez, inl h)) = inl (rise p.y q.y h)
      told_by (inr (ez, inr (ey, h))) = inr (gone p.y q.y ey, rise p.x q.x h)

  -- two coordinates tell the points of the plane apart
  exact_x : (n.x ≡ pos 0 → ⊥) → (p q : Pt3) → depth_of n p q ≡ pos 0 → Same y_of z_of p q → p ≡ q
  exact_x some p q flat s =
      let x = no_gap p.x q.x (nought_right n.x (q.x -ℤ p.x)
      (only_x n.x n.y n.z (q.x -ℤ p.x) (q.y -ℤ p.y) (q.z -ℤ p.z) flat (gone p.y q.y s.0) (gone p.z q.z s.1)) some) in
      let y = s.0 in
      let z = s.1 in
      λ i. record { x = x i; y = y i; z = z i }

  exact_y : n.x ≡ pos 0 → (n.y ≡ pos 0 → ⊥) → (p q : Pt3) → depth_of n p q ≡ pos 0
      → Same x_of z_of p q → p ≡ q
  exact_y none some p q flat s =
      let y = no_gap p.y q.y (nought_right n.y (q.y -ℤ p.y)
      (only_y n.x n.y n.z (q.x -ℤ p.x) (q.y -ℤ p.y) (q.z -ℤ p.z) flat none (gone p.z q.z s.1)) some) in
      let x = s.0 in
      let z = s.1 in
      λ i. record { x = x i; y = y i; z = z i }

  exact_z : n.x ≡ pos 0 → n.y ≡ pos 0 → (n.z ≡ pos 0 → ⊥) → (p q : Pt3) → depth_of n p q ≡ pos 0
      → Same x_of y_of p q → p ≡ q
  exact_z none nor some p q flat s =
      let z = no_gap p.z q.z (nought_right n.z (q.z -ℤ p.z)
      (only_z n.x n.y n.z (q.x -ℤ p.x) (q.y -ℤ p.y) (q.z -ℤ p.z) flat none nor) some) in
      let x = s.0 in
      let y = s.1 in
      λ i. record { x = x i; y = y i; z = z i }

  above : (z : ℤ) → int_lt (pos 0) z ≡ true → z ≡ pos 0 → ⊥
  above z h e = omega (arith, ints)

  below : (z : ℤ) → int_lt z (pos 0) ≡ true → z ≡ pos 0 → ⊥
  below z h e = omega (arith, ints)

  neither : (z : ℤ) → int_lt (pos 0) z ≡ false → int_lt z (pos 0) ≡ false → z ≡ pos 0
  neither z h k = omega (arith, ints)

  told : (z : ℤ) → int_lt (pos 0) z ≡ true → pos 0 <ℤ z
  told z h = omega (arith, ints)

  told_below : (z : ℤ) → int_lt z (pos 0) ≡ true → pos 0 <ℤ (pos 0 -ℤ z)
  told_below z h = omega (arith, ints)

  module _ (p q r : Pt3) (hq : depth_of n p q ≡ pos 0) (hr : depth_of n p r ≡ pos 0) where
    pub scaled_x : n.x *ℤ dot_of n (normal_of p q r) ≡ square_of n *ℤ (normal_of p q r).x
    scaled_x = by_x n.x n.y n.z (q.x -ℤ p.x) (q.y -ℤ p.y) (q.z -ℤ p.z) (r.x -ℤ p.x) (r.y -ℤ p.y)
        (r.z -ℤ p.z) hq hr

    pub scaled_y : n.y *ℤ dot_of n (normal_of p q r) ≡ square_of n *ℤ (normal_of p q r).y
    scaled_y = by_y n.x n.y n.z (q.x -ℤ p.x) (q.y -ℤ p.y) (q.z -ℤ p.z) (r.x -ℤ p.x) (r.y -ℤ p.y)
        (r.z -ℤ p.z) hq hr

    pub scaled_z : n.z *ℤ dot_of n (normal_of p q r) ≡ square_of n *ℤ (normal_of p q r).z
    scaled_z = by_z n.x n.y n.z (q.x -ℤ p.x) (q.y -ℤ p.y) (q.z -ℤ p.z) (r.x -ℤ p.x) (r.y -ℤ p.y)
        (r.z -ℤ p.z) hq hr

    scaled_off_x : (pos 0 -ℤ n.x) *ℤ dot_of n (normal_of p q r) ≡ square_of n *ℤ left z_of y_of p q r
    scaled_off_x = opposite n.x (dot_of n (normal_of p q r)) (square_of n) (q.y -ℤ p.y) (r.z -ℤ p.z) (q.z -ℤ p.z)
        (r.y -ℤ p.y) scaled_x

    scaled_off_y : (pos 0 -ℤ n.y) *ℤ dot_of n (normal_of p q r) ≡ square_of n *ℤ left x_of z_of p q r
    scaled_off_y = opposite n.y (dot_of n (normal_of p q r)) (square_of n) (q.z -ℤ p.z) (r.x -ℤ p.x) (q.x -ℤ p.x)
        (r.z -ℤ p.z) scaled_y

    scaled_off_z : (pos 0 -ℤ n.z) *ℤ dot_of n (normal_of p q r) ≡ square_of n *ℤ left y_of x_of p q r
    scaled_off_z = opposite n.z (dot_of n (normal_of p q r)) (square_of n) (q.x -ℤ p.x) (r.y -ℤ p.y) (q.y -ℤ p.y)
        (r.x -ℤ p.x) scaled_z

  seen_by : (a b c d e h : Bool) → int_lt (pos 0) n.x ≡ a → int_lt n.x (pos 0) ≡ b → int_lt (pos 0) n.y ≡ c
      → int_lt n.y (pos 0) ≡ d → int_lt (pos 0) n.z ≡ e → int_lt n.z (pos 0) ≡ h → pos 0 <ℤ square_of n
      → IsSeenBy n (turn_by a b c d e)
  seen_by true b c d e h ea eb ec ed ee eh some = record {
    f = y_of;
    g = z_of;
    straight = inl refl;
    there = plane y_of z_of;
    back = turned_plane y_of z_of;
    ordered = no_x (above n.x ea);
    exact = exact_x (above n.x ea);
    along = λ a b q w t ex ey ez. (ey, ez);
    scale = n.x;
    positive = told n.x ea;
    scaled = scaled_x;
  }
  seen_by false true c d e h ea eb ec ed ee eh some = record {
    f = y_of;
    g = z_of;
    straight = inr refl;
    there = mirrored y_of z_of;
    back = turned_mirrored y_of z_of;
    ordered = no_x (below n.x eb);
    exact = exact_x (below n.x eb);
    along = λ a b q w t ex ey ez. (ey, ez);
    scale = pos 0 -ℤ n.x;
    positive = told_below n.x eb;
    scaled = scaled_off_x;
  }
  seen_by false false true d e h ea eb ec ed ee eh some = record {
    f = x_of;
    g = z_of;
    straight = inr refl;
    there = mirrored x_of z_of;
    back = turned_mirrored x_of z_of;
    ordered = no_y (neither n.x ea eb) (above n.y ec);
    exact = exact_y (neither n.x ea eb) (above n.y ec);
    along = λ a b q w t ex ey ez. (ex, ez);
    scale = n.y;
    positive = told n.y ec;
    scaled = scaled_y;
  }
  seen_by false false false true e h ea eb ec ed ee eh some = record {
    f = x_of;
    g = z_of;
    straight = inl refl;
    there = plane x_of z_of;
    back = turned_plane x_of z_of;
    ordered = no_y (neither n.x ea eb) (below n.y ed);
    exact = exact_y (neither n.x ea eb) (below n.y ed);
    along = λ a b q w t ex ey ez. (ex, ez);
    scale = pos 0 -ℤ n.y;
    positive = told_below n.y ed;
    scaled = scaled_off_y;
  }
  seen_by false false false false true h ea eb ec ed ee eh some = record {
    f = x_of;
    g = y_of;
    straight = inl refl;
    there = plane x_of y_of;
    back = turned_plane x_of y_of;
    ordered = no_z (neither n.x ea eb) (neither n.y ec ed) (above n.z ee);
    exact = exact_z (neither n.x ea eb) (neither n.y ec ed) (above n.z ee);
    along = λ a b q w t ex ey ez. (ex, ey);
    scale = n.z;
    positive = told n.z ee;
    scaled = scaled_z;
  }
  seen_by false false false false false true ea eb ec ed ee eh some = record {
    f = x_of;
    g = y_of;
    straight = inr refl;
    there = mirrored x_of y_of;
    back = turned_mirrored x_of y_of;
    ordered = no_z (neither n.x ea eb) (neither n.y ec ed) (below n.z eh);
    exact = exact_z (neither n.x ea eb) (neither n.y ec ed) (below n.z eh);
    along = λ a b q w t ex ey ez. (ex, ey);
    scale = pos 0 -ℤ n.z;
    positive = told_below n.z eh;
    scaled = scaled_off_z;
  }
  seen_by false false false false false false ea eb ec ed ee eh some =
      absurd (none n.x n.y n.z (neither n.x ea eb) (neither n.y ec ed) (neither n.z ee eh) some)
    where
      none : (x y z : ℤ) → x ≡ pos 0 → y ≡ pos 0 → z ≡ pos 0
          → pos 0 <ℤ (x *ℤ x +ℤ (y *ℤ y +ℤ z *ℤ z)) → ⊥
      none x y z hx hy hz h = nothing (x *ℤ x +ℤ (y *ℤ y +ℤ z *ℤ z))
          (λ i. hx i *ℤ hx i +ℤ (hy i *ℤ hy i +ℤ hz i *ℤ hz i)) h
        where
          nothing : (s : ℤ) → s ≡ pos 0 → pos 0 <ℤ s → ⊥
          nothing s e h = omega (arith, ints)

  -- a plane with a normal, and the turns in it as seen from outside
  pub seen : pos 0 <ℤ square_of n → IsSeenBy n (face_left n)
  seen some =
      seen_by (int_lt (pos 0) n.x) (int_lt n.x (pos 0)) (int_lt (pos 0) n.y) (int_lt n.y (pos 0)) (int_lt (pos 0) n.z)
      (int_lt n.z (pos 0))
      refl refl refl refl refl refl some
