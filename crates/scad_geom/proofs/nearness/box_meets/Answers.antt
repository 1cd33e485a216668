-- The tests decide whether the edge meets the square.
use Rattle.std.proofs.Common.{rules, ◌≡◌, ◌*◌, pos, sym, ◌∙◌, arith}
use Rattle.std.proofs.lemmas.Int.{ints}
use Rattle.scad_geom.specs.Half.{doubled}
use Rattle.scad_geom.proofs.Casts.{casts, sizes}
use Rattle.scad_geom.proofs.Boxes.{edge_passes, edge_meets, edge_is_clear}
use Rattle.scad_geom.proofs.nearness.box_meets.Goals as goal

pub returns-clause-meets : goal.returns-clause-meets
returns-clause-meets c h =
    let told : c.meets_square.result ≡ edge_passes (pos (2 * c.args.width)) (doubled c.args.half c.args.p.x)
    (doubled c.args.half c.args.p.y) c.args.e.now = search (rules, casts) in
    edge_meets (pos (2 * c.args.width)) (doubled c.args.half c.args.p.x) (doubled c.args.half c.args.p.y) c.args.e.now
    (omega (arith, ints)) (sym told ∙ h)

pub returns-clause-clear : goal.returns-clause-clear
returns-clause-clear c h =
    let told : c.meets_square.result ≡ edge_passes (pos (2 * c.args.width)) (doubled c.args.half c.args.p.x)
    (doubled c.args.half c.args.p.y) c.args.e.now = search (rules, casts) in
    edge_is_clear (pos (2 * c.args.width)) (doubled c.args.half c.args.p.x) (doubled c.args.half c.args.p.y)
    c.args.e.now (sym told ∙ h)

pub past-requires : goal.past-requires
past-requires c = omega (arith, sizes)

pub past-requires-2 : goal.past-requires-2
past-requires-2 c = omega (arith, sizes)

pub rising-across-requires-clause-from : goal.rising-across-requires-clause-from
rising-across-requires-clause-from c = omega (arith, sizes)

pub rising-across-requires-clause-to : goal.rising-across-requires-clause-to
rising-across-requires-clause-to c = omega (arith, sizes)

pub past-requires-3 : goal.past-requires-3
past-requires-3 c = omega (arith, sizes)

pub past-requires-4 : goal.past-requires-4
past-requires-4 c = omega (arith, sizes)

pub rising-along-requires-clause-from : goal.rising-along-requires-clause-from
rising-along-requires-clause-from c = omega (arith, sizes)

pub rising-along-requires-clause-to : goal.rising-along-requires-clause-to
rising-along-requires-clause-to c = omega (arith, sizes)

pub meets_square-requires-clause-left : goal.meets_square-requires-clause-left
meets_square-requires-clause-left c = omega (arith, sizes)

pub meets_square-requires-clause-right : goal.meets_square-requires-clause-right
meets_square-requires-clause-right c = omega (arith, sizes)

pub meets_square-requires-clause-below : goal.meets_square-requires-clause-below
meets_square-requires-clause-below c = omega (arith, sizes)

pub meets_square-requires-clause-above : goal.meets_square-requires-clause-above
meets_square-requires-clause-above c = omega (arith, sizes)

pub meets_square-requires-clause-width : goal.meets_square-requires-clause-width
meets_square-requires-clause-width c = omega (arith, sizes)
