-- The height of a spot is within the limit, over its divisor and run.
use Rattle.std.proofs.Common.{◌≡◌, ◌≤◌, ◌^◌, ℤ, pos, ◌*ℤ◌, unsigned_abs, sym, subst, ap₂, ◌∙◌, refl, arith, to_z, of_z}
use mir.Syntax.{w128}
use Rattle.scad_geom.specs.Limits.{coordinate_limit}
use Rattle.scad_geom.proofs.Casts.{by_cast, product_by}
use Rattle.slice_pieces.proofs.SpotRange.{scaled_value, height_small, height_kept, run_kept}
use Rattle.slice_pieces.proofs.rounding.height.Goals as goal

pub times-requires-clause-left : goal.times-requires-clause-left
times-requires-clause-left c =
    subst (λ (z : ℤ). unsigned_abs z ≤ 2 ^ 64) (sym (height_kept c.args.s.now c.requires))
    (height_small c.args.s.now c.requires)

pub times-requires-clause-right : goal.times-requires-clause-right
times-requires-clause-right c =
    subst (λ (z : ℤ). unsigned_abs z ≤ 2 ^ 22) (sym (run_kept c.args.s.now c.requires)) (omega (arith, c.requires.run))

pub returns-clause-value : goal.returns-clause-value
returns-clause-value c = product_by w128 c.times.type_inv c.times.ensures.product
    (height_kept c.args.s.now c.requires) (run_kept c.args.s.now c.requires)

pub returns-clause-size : goal.returns-clause-size
returns-clause-size c =
    let s = c.args.s.now in
    let value : c.times.result ≡ s.at.n *ℤ pos s.run =
    c.times.ensures.product ∙ ap₂ (λ (n r : ℤ). n *ℤ r) (height_kept s c.requires) (run_kept s c.requires) in
    let back : to_z w128 (of_z w128 c.times.result) ≡ c.times.result = by_cast w128 c.times.type_inv refl in
    rw back (scaled_value coordinate_limit s.at.n s.at.d s.run c.times.result value
    c.requires.level.size)
