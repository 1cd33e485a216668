-- What is handed on is small, and comes out as it is.
use Rattle.std.proofs.Common.{◌≡◌, ℤ, pos, to_z, of_z, FitsSigned, refl, ap, sym, ◌∙◌, subst, arith}
use Rattle.std.proofs.lemmas.Int.{to_z-of_z}
use lib.Signed.{◌<ℤ◌}
use Rattle.scad_geom.specs.declared.point.Edge.{Edge}
use Rattle.scad_geom.specs.Line.{x_at}
use Rattle.scad_geom.proofs.Casts.{by_cast, difference_by, sum_by, sizes}
use Rattle.plan_infill.specs.Quotient.{IsFloor, IsCeiling}
use Rattle.plan_support.proofs.near.reached_by_line.Goals as goal
use mir.Syntax.{w32, w128}

-- a fact of three numbers, of what they are equal to
moved : (P : ℤ → ℤ → ℤ → Type 0) {a b c x y z : ℤ} → a ≡ x → b ≡ y → c ≡ z → P a b c → P x y z
moved P {a} {b} {c} {x} {y} {z} e f g h =
    subst (λ (k : ℤ). P x y k) g (subst (λ (k : ℤ). P x k c) f (subst (λ (k : ℤ). P k b c) e h))

-- the height of the row, as it is handed on
row : (e : Edge) (y : ℤ) → FitsSigned w32 y → x_at e (to_z w32 (of_z w32 y)) (pos 1) ≡ x_at e y (pos 1)
row e y fits = ap (λ (z : ℤ). x_at e z (pos 1)) (to_z-of_z w32 y fits)

pub minus-requires : goal.minus-requires
minus-requires c = record { fits = omega (arith, sizes) }

pub plus-requires : goal.plus-requires
plus-requires c = record { fits = omega (arith, sizes) }

pub ceiling-requires-clause-size : goal.ceiling-requires-clause-size
ceiling-requires-clause-size c = omega (arith, sizes)

pub floor-requires-clause-size : goal.floor-requires-clause-size
floor-requires-clause-size c = omega (arith, sizes)

pub ceiling-requires-clause-divisor : goal.ceiling-requires-clause-divisor
ceiling-requires-clause-divisor c =
    subst (λ (z : ℤ). pos 0 <ℤ z) (sym (by_cast w128 c.rise.type_inv c.rise.ensures.value)) c.requires.rises

pub floor-requires-clause-divisor : goal.floor-requires-clause-divisor
floor-requires-clause-divisor c =
    subst (λ (z : ℤ). pos 0 <ℤ z) (sym (by_cast w128 c.rise-2.type_inv c.rise-2.ensures.value)) c.requires.rises

pub returns-clause-from : goal.returns-clause-from
returns-clause-from c =
    moved IsCeiling (difference_by w128 c.minus.type_inv c.minus.ensures.difference
    (by_cast w128 c.row_x-x.type_inv (c.row_x-x.ensures.value ∙ row c.args.e.now c.args.y c.ranges.y))
    (by_cast w128 c.line_reach-reach.type_inv c.line_reach-reach.ensures.value))
    (by_cast w128 c.rise.type_inv c.rise.ensures.value) (sym (by_cast w128 c.ceiling.type_inv refl)) c.ceiling.ensures

pub returns-clause-to : goal.returns-clause-to
returns-clause-to c =
    moved IsFloor (sum_by w128 c.plus.type_inv c.plus.ensures.sum
    (by_cast w128 c.row_x-x.type_inv (c.row_x-x.ensures.value ∙ row c.args.e.now c.args.y c.ranges.y))
    (by_cast w128 c.line_reach-reach.type_inv c.line_reach-reach.ensures.value))
    (by_cast w128 c.rise-2.type_inv c.rise-2.ensures.value) (sym (by_cast w128 c.floor.type_inv refl)) c.floor.ensures
