-- The outline of an upright rectangle winds round exactly the points strictly inside it, whichever way it runs.
use Rattle.std.proofs.Common.{◌≡◌, Bool, true, false, [], ◌∷◌, ℤ, pos, zero, suc, negsuc, neg_ℤ, ◌+ℤ◌, ◌-ℤ◌, ◌*ℤ◌, ◌<ℤ◌, arith, refl, ap, sym, ◌∙◌}
use Rattle.std.specs.Prelude.{int_lt}
use Rattle.std.proofs.lemmas.Int.{ints}
use Rattle.scad_geom.specs.declared.point.Pt.{Pt}
use Rattle.scad_geom.specs.declared.point.Edge.{Edge}
use Rattle.scad_geom.specs.Point.{halves}
use Rattle.scad_geom.specs.Segment.{segments}
use Rattle.scad_geom.specs.Winding.{counted, wind}
use Rattle.scad_geom.proofs.Crossing.{side_of, crossing, doubled_edge}
use Rattle.scad_geom.proofs.CommonDivisor.{wind_halves}
use Rattle.scad_geom.specs.Loop.{sides}
use Rattle.scad_geom.proofs.Ring.{Term, ring, var, num, less, times}
use Rattle.scad_solid.specs.Laws.{rectangle}
use Rattle.scad_solid.proofs.Parts.{told, crossing-told, sign_up_by, gap_sign}

abbrev point : ℤ → ℤ → Pt
point x y = record { x = x; y = y }

abbrev edge : Pt → Pt → Edge
edge p q = record { a = p; b = q }

-- how an upright edge crosses the ray, by which of its ends lie above, and whether it lies to the right
abbrev up : Bool → Bool → Bool → ℤ
up false true r = counted r
up true false r = neg_ℤ (counted r)
up true true r = pos 0
up false false r = pos 0

negative_up : (k s : ℤ) → k <ℤ pos 0 → int_lt (k *ℤ s) (pos 0) ≡ int_lt (pos 0) s
negative_up (pos n) s below = absurd (omega (arith, ints))
negative_up (negsuc n) (pos zero) below = grind (arith, ints)
negative_up (negsuc n) (pos (suc m)) below = grind (arith, ints)
negative_up (negsuc n) (negsuc m) below = grind (arith, ints)

rises : (a b y : ℤ) → int_lt y a ≡ false → int_lt y b ≡ true → pos 0 <ℤ (b -ℤ a)
rises a b y low high = grind (arith, ints)

sinks : (a b y : ℤ) → int_lt y a ≡ true → int_lt y b ≡ false → (b -ℤ a) <ℤ pos 0
sinks a b y high low = grind (arith, ints)

module _ (c y0 y1 x y : ℤ) where
  upright_side : side_of (doubled_edge (edge (point c y0) (point c y1))) x y ≡ (pos 2 *ℤ y1 -ℤ pos 2 *ℤ y0) *ℤ
      (pos 2 *ℤ c -ℤ x)
  upright_side = ring (c ∷ y0 ∷ y1 ∷ x ∷ y ∷ [])
      (less (times (less C C) (less (var 4) Y0)) (times (less Y1 Y0) (less (var 3) C)))
      (times (less Y1 Y0) (less C (var 3))) refl
    where
      C : Term
      C = times (num (pos 2)) (var 0)

      Y0 : Term
      Y0 = times (num (pos 2)) (var 1)

      Y1 : Term
      Y1 = times (num (pos 2)) (var 2)

  upright_by : (a b : Bool) → int_lt y (pos 2 *ℤ y0) ≡ a → int_lt y (pos 2 *ℤ y1) ≡ b
      → told a b (int_lt (pos 0) ((pos 2 *ℤ y1 -ℤ pos 2 *ℤ y0) *ℤ (pos 2 *ℤ c -ℤ x)))
      (int_lt ((pos 2 *ℤ y1 -ℤ pos 2 *ℤ y0) *ℤ (pos 2 *ℤ c -ℤ x)) (pos 0)) ≡ up a b (int_lt x (pos 2 *ℤ c))
  upright_by true true ea eb = refl
  upright_by false false ea eb = refl
  upright_by false true ea eb = ap counted (sign_up_by (pos 2 *ℤ y1 -ℤ pos 2 *ℤ y0) (pos 2 *ℤ c -ℤ x)
      (rises (pos 2 *ℤ y0) (pos 2 *ℤ y1) y ea eb) ∙ sym (gap_sign x (pos 2 *ℤ c)))
  upright_by true false ea eb = ap down_when (negative_up (pos 2 *ℤ y1 -ℤ pos 2 *ℤ y0) (pos 2 *ℤ c -ℤ x)
      (sinks (pos 2 *ℤ y0) (pos 2 *ℤ y1) y ea eb) ∙ sym (gap_sign x (pos 2 *ℤ c))) ∙ down_is (int_lt x (pos 2 *ℤ c))
    where
      down_when : Bool → ℤ
      down_when b = told true false b b

      down_is : (b : Bool) → down_when b ≡ neg_ℤ (counted b)
      down_is true = refl
      down_is false = refl

  upright : crossing (doubled_edge (edge (point c y0) (point c y1))) x y ≡ up (int_lt y (pos 2 *ℤ y0))
      (int_lt y (pos 2 *ℤ y1)) (int_lt x (pos 2 *ℤ c))
  upright = crossing-told (doubled_edge (edge (point c y0) (point c y1))) x y
      ∙ ap (λ s. told (int_lt y (pos 2 *ℤ y0)) (int_lt y (pos 2 *ℤ y1)) (int_lt (pos 0) s) (int_lt s (pos 0)))
      upright_side
      ∙ upright_by (int_lt y (pos 2 *ℤ y0)) (int_lt y (pos 2 *ℤ y1)) refl refl

flat_by : (a l r : Bool) → told a a l r ≡ pos 0
flat_by true l r = refl
flat_by false l r = refl

flat : (a b h x y : ℤ) → crossing (doubled_edge (edge (point a h) (point b h))) x y ≡ pos 0
flat a b h x y = crossing-told (doubled_edge (edge (point a h) (point b h))) x y ∙ flat_by (int_lt y (pos 2 *ℤ h)) _ _

-- 1 or -1 where the height lies between the two sides along x and the point between the upright ones, else 0
abbrev pub boxed : Bool → Bool → Bool → Bool → ℤ
boxed a0 a1 r0 r1 = up a0 a1 r1 +ℤ up a1 a0 r0

pub rectangle_wind : (x0 y0 x1 y1 x y : ℤ) → wind (halves x y) (segments (sides (rectangle x0 y0 x1 y1)))
    ≡ boxed (int_lt y (pos 2 *ℤ y0)) (int_lt y (pos 2 *ℤ y1)) (int_lt x (pos 2 *ℤ x0)) (int_lt x (pos 2 *ℤ x1))
rectangle_wind x0 y0 x1 y1 x y =
    omega (
      arith,
      ints,
      wind_halves (sides (rectangle x0 y0 x1 y1)) x y,
      flat x0 x1 y0 x y,
      upright x1 y0 y1 x y,
      flat
          x1 x0 y1 x y,
      upright x0 y1 y0 x y,
    )
