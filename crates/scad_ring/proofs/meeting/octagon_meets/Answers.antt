-- The tests decide whether the edge meets the octagon.
use Rattle.std.proofs.Common.{rules, ◌≡◌, sym, ◌∙◌}
use Rattle.scad_geom.specs.Half.{doubled}
use Rattle.scad_geom.specs.Line.{low, high}
use Rattle.scad_geom.proofs.Casts.{casts}
use Rattle.scad_ring.proofs.EdgeTests.{SeenPasses, edge_meets, edge_is_clear}
use Rattle.scad_ring.proofs.meeting.octagon_meets.Goals as goal

pub returns-clause-meets : goal.returns-clause-meets
returns-clause-meets c h =
    let told : c.passes.result ≡ SeenPasses c.narrowed.result.s c.narrowed.result.u (doubled c.args.half c.args.p.x)
    (doubled c.args.half c.args.p.y) (low c.args.e.now) (high c.args.e.now) = search (rules, casts) in
    edge_meets c.args.s c.args.u c.narrowed.result.s c.narrowed.result.u c.narrowed.ensures.s c.narrowed.ensures.u
    (doubled c.args.half c.args.p.x) (doubled c.args.half c.args.p.y) c.args.e.now (sym told ∙ h)

pub returns-clause-clear : goal.returns-clause-clear
returns-clause-clear c h =
    let told : c.passes.result ≡ SeenPasses c.narrowed.result.s c.narrowed.result.u (doubled c.args.half c.args.p.x)
    (doubled c.args.half c.args.p.y) (low c.args.e.now) (high c.args.e.now) = search (rules, casts) in
    edge_is_clear c.args.s c.args.u c.narrowed.result.s c.narrowed.result.u c.narrowed.ensures.s c.narrowed.ensures.u
    (doubled c.args.half c.args.p.x) (doubled c.args.half c.args.p.y) c.args.e.now (sym told ∙ h)
