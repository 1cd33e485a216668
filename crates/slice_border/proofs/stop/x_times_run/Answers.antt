-- The product of what is handed on.
use Rattle.std.proofs.Common.{◌≤◌, ◌^◌, ℕ, ℤ, unsigned_abs, refl, sym, subst, arith}
use Rattle.std.proofs.lemmas.Int.{to_z_pos}
use mir.Syntax.{w128}
use Rattle.scad_geom.proofs.Casts.{cast_size, handed, product_by}
use Rattle.slice_border.proofs.stop.x_times_run.Goals as goal

pub times-requires-clause-left : goal.times-requires-clause-left
times-requires-clause-left c =
    let s = c.args.s.now in
    subst (λ (n : ℕ). n ≤ 2 ^ 89) (sym (cast_size w128 s.spot.x (omega (arith, s.x_size)))) s.x_size

pub times-requires-clause-right : goal.times-requires-clause-right
times-requires-clause-right c =
    let t = c.args.t.now in
    subst (λ (z : ℤ). unsigned_abs z ≤ 2 ^ 22) (sym (to_z_pos w128 t.spot.run (omega (arith, t.run_size)))) t.run_size

pub returns : goal.returns
returns c =
    let s = c.args.s.now in
    let t = c.args.t.now in
    product_by w128 c.times.type_inv c.times.ensures.product
    (handed w128 s.spot.x (omega (arith, s.x_size)) refl) (to_z_pos w128 t.spot.run (omega (arith, t.run_size)))
