-- The product of what is handed on.
use Rattle.std.proofs.Common.{◌≤◌, ◌^◌, ℤ, unsigned_abs, sym, subst, arith}
use mir.Syntax.{w128}
use Rattle.scad_geom.proofs.Casts.{product_by}
use Rattle.slice_pieces.proofs.SpotRange.{across_small, across_kept, run_kept}
use Rattle.slice_snap.proofs.spots.x_times_run.Goals as goal

pub times-requires-clause-left : goal.times-requires-clause-left
times-requires-clause-left c =
    subst (λ (z : ℤ). unsigned_abs z ≤ 2 ^ 89) (sym (across_kept c.args.s.now c.requires.s))
    (across_small c.args.s.now c.requires.s)

pub times-requires-clause-right : goal.times-requires-clause-right
times-requires-clause-right c =
    subst (λ (z : ℤ). unsigned_abs z ≤ 2 ^ 22) (sym (run_kept c.args.t.now c.requires.t)) (omega (arith, c.requires.t.run))

pub returns : goal.returns
returns c = product_by w128 c.times.type_inv c.times.ensures.product (across_kept c.args.s.now c.requires.s)
    (run_kept c.args.t.now c.requires.t)
