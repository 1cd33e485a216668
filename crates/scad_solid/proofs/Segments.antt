-- The turn of a segment round a point by a crossing over the common divisor of the three points.
use Rattle.std.proofs.Common.{◌≡◌, true, [], ◌∷◌, ℤ, pos, ◌-ℤ◌, ◌*ℤ◌, ◌<ℤ◌, refl, ap, sym, ◌∙◌}
use Rattle.std.specs.Prelude.{int_lt}
use Rattle.scad_geom.specs.declared.point.Edge.{Edge}
use Rattle.scad_geom.specs.Point.{Point}
use Rattle.scad_geom.specs.Winding.{is_over, side_by, turn}
use Rattle.scad_geom.proofs.Crossing.{side_of, crossing}
use Rattle.scad_geom.proofs.CommonDivisor.{turn_by}
use Rattle.scad_base.proofs.Products.{positive_product}
use Rattle.scad_geom.proofs.Ring.{ring, var, less, times}
use Rattle.scad_solid.proofs.Parts.{gap_sign, sign_up_by}

module _ (o a b : Point) where
  abbrev pub common : Edge
  common = record {
    a = record { x = o.d *ℤ b.d *ℤ a.x; y = o.d *ℤ b.d *ℤ a.y };
    b = record { x = o.d *ℤ a.d *ℤ b.x; y = o.d *ℤ a.d *ℤ b.y };
  }

  common_side : side_of common (a.d *ℤ b.d *ℤ o.x) (a.d *ℤ b.d *ℤ o.y) ≡ side_by o a b *ℤ (o.d *ℤ b.d)
  unfolding side_by
  common_side =
      let AX = var 0 in let AY = var 1 in let AD = var 2 in let BX = var 3 in let BY = var 4 in let BD = var 5 in let X = var 6 in let Y = var 7 in let D = var 8 in
      ring (a.x ∷ a.y ∷ a.d ∷ b.x ∷ b.y ∷ b.d ∷ o.x ∷ o.y ∷ o.d ∷ [])
      (less (times (less (times (times D AD) BX) (times (times D BD) AX))
      (less (times (times AD BD) Y) (times (times D BD) AY)))
      (times (less (times (times D AD) BY) (times (times D BD) AY))
      (less (times (times AD BD) X) (times (times D BD) AX))))
      (times (less (times (less (times BX AD) (times AX BD)) (less (times Y AD) (times AY D)))
      (times (less (times BY AD) (times AY BD)) (less (times X AD) (times AX D)))) (times D BD)) refl

  -- a height over a further divisor
  further : (k : ℤ) (z : Point) (y h : ℤ) → pos 0 <ℤ k → h -ℤ y ≡ k *ℤ (z.y *ℤ o.d -ℤ o.y *ℤ z.d) → is_over true o z
      ≡ int_lt y h
  unfolding is_over
  further k z y h some factor =
      gap_sign (o.y *ℤ z.d) (z.y *ℤ o.d) ∙ sym (sign_up_by k (z.y *ℤ o.d -ℤ o.y *ℤ z.d) some) ∙ ap (int_lt (pos 0))
      (sym factor) ∙ sym (gap_sign y h)

  from_height : o.d *ℤ b.d *ℤ a.y -ℤ a.d *ℤ b.d *ℤ o.y ≡ b.d *ℤ (a.y *ℤ o.d -ℤ o.y *ℤ a.d)
  from_height = ring (a.y ∷ a.d ∷ b.d ∷ o.y ∷ o.d ∷ []) (less (times (times (var 4) (var 2)) (var 0))
      (times (times (var 1) (var 2)) (var 3))) (times (var 2) (less (times (var 0) (var 4)) (times (var 3) (var 1))))
      refl

  to_height : o.d *ℤ a.d *ℤ b.y -ℤ a.d *ℤ b.d *ℤ o.y ≡ a.d *ℤ (b.y *ℤ o.d -ℤ o.y *ℤ b.d)
  to_height = ring (b.y ∷ b.d ∷ a.d ∷ o.y ∷ o.d ∷ []) (less (times (times (var 4) (var 2)) (var 0))
      (times (times (var 2) (var 1)) (var 3))) (times (var 2) (less (times (var 0) (var 4)) (times (var 3) (var 1))))
      refl

  pub turn_common : pos 0 <ℤ o.d → pos 0 <ℤ a.d → pos 0 <ℤ b.d → turn true true o a b ≡ crossing common
      (a.d *ℤ b.d *ℤ o.x) (a.d *ℤ b.d *ℤ o.y)
  turn_common some_o some_a some_b =
      turn_by o a b common (a.d *ℤ b.d *ℤ o.x) (a.d *ℤ b.d *ℤ o.y) (o.d *ℤ b.d) (positive_product o.d b.d some_o some_b)
      (further b.d a (a.d *ℤ b.d *ℤ o.y) (o.d *ℤ b.d *ℤ a.y) some_b from_height)
      (further a.d b (a.d *ℤ b.d *ℤ o.y) (o.d *ℤ a.d *ℤ b.y) some_a to_height)
      common_side
