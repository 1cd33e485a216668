-- The turn over doubled coordinates.
use Rattle.std.proofs.Common.{rules, ◌≡◌, pos, sym, ◌∙◌, to_z, of_z, arith}
use Rattle.scad_geom.proofs.Casts.{casts, sizes}
use Rattle.scad_geom.proofs.Crossing.{crossing, doubled_edge}
use Rattle.scad_geom.proofs.CommonDivisor.{turn_halves}
use Rattle.scad_geom.proofs.winding_number.crossing.Goals as goal
use mir.Syntax.{w64}

pub returns-then-step-eq0-clause-value : goal.returns-then-step-eq0-clause-value
returns-then-step-eq0-clause-value c =
    let told : pos 0 ≡ crossing (doubled_edge c.args.edge.now) c.args.x c.args.y = search (rules, casts) in
    told ∙ sym (turn_halves c.args.edge.now c.args.x c.args.y)

pub returns-then-times-gt0-clause-value : goal.returns-then-times-gt0-clause-value
returns-then-times-gt0-clause-value c =
    let told : to_z w64 (of_z w64 c.passage-step.result) ≡ crossing (doubled_edge c.args.edge.now) c.args.x c.args.y =
    search (rules, casts) in
    told ∙ sym (turn_halves c.args.edge.now c.args.x c.args.y)

pub returns-else-times-gt0-clause-value : goal.returns-else-times-gt0-clause-value
returns-else-times-gt0-clause-value c =
    let told : pos 0 ≡ crossing (doubled_edge c.args.edge.now) c.args.x c.args.y = search (rules, casts) in
    told ∙ sym (turn_halves c.args.edge.now c.args.x c.args.y)

pub side_at-requires-clause-x : goal.side_at-requires-clause-x
side_at-requires-clause-x c = omega (arith, sizes)

pub side_at-requires-clause-y : goal.side_at-requires-clause-y
side_at-requires-clause-y c = omega (arith, sizes)

pub times-requires-clause-left : goal.times-requires-clause-left
times-requires-clause-left c = omega (arith, sizes)

pub times-requires-clause-right : goal.times-requires-clause-right
times-requires-clause-right c = omega (arith, sizes)

pub returns-then-times-gt0-clause-size : goal.returns-then-times-gt0-clause-size
returns-then-times-gt0-clause-size c = omega (arith, sizes)
