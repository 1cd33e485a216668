use Rattle.std.proofs.Common.{ℕ, ◌^◌, ◌≤◌, rules, arith}
use Rattle.scad_geom.proofs.Casts.{casts}
use Rattle.scad_geom.specs.Line.{left_of}
use Rattle.plan_infill.proofs.Places.{column_size, rise_size, both_fit, both_size}
use Rattle.plan_infill.proofs.turn_steps.left_of_start.Goals as goal

pub returns-clause-value : goal.returns-clause-value
unfolding left_of
returns-clause-value c = search (rules, casts)

wider : (n : ℕ) → n ≤ 2 ^ 43 → n ≤ 2 ^ 60
wider n small = omega arith

pub times-requires : goal.times-requires
times-requires c = record {
  left = rise_size c.rise.result c.rise.ensures.size;
  right = column_size c.args.x c.ranges.x c.requires.column;
  fits = omega arith;
}

pub minus-requires : goal.minus-requires
minus-requires c =
    record { fits = both_fit c.x_at.result c.times.result c.x_at.ensures.size (wider _ c.times.ensures.size) }

pub returns-clause-size : goal.returns-clause-size
returns-clause-size c =
    both_size c.x_at.result c.times.result c.x_at.ensures.size (wider _ c.times.ensures.size) c.minus.result
    c.minus.ensures.size
