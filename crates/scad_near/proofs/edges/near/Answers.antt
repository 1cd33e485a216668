-- The tests decide whether the edges come near.
use Rattle.std.proofs.Common.{sym, ◌∙◌, arith, pos}
use Rattle.std.proofs.lemmas.Int.{ints}
use Rattle.scad_geom.specs.Point.{whole}
use Rattle.scad_near.proofs.RegionTurns.{octagon_holds_origin}
use Rattle.scad_near.proofs.Apart.{apart}
use Rattle.scad_near.proofs.EdgeCrossing.{near_at_end, come_near_back, near_if_cross}
use Rattle.scad_near.proofs.edges.near.Goals as goal

pub returns-then-comes_to_end-clause-near : goal.returns-then-comes_to_end-clause-near
returns-then-comes_to_end-clause-near c h =
    near_at_end (pos c.args.s) (pos c.args.u) c.args.e.now.a c.args.e.now.b c.args.f.now.a c.args.f.now.b
    (c.comes_to_end.ensures.meets c.if-comes_to_end.true)

pub returns-then-comes_to_end-2-clause-near : goal.returns-then-comes_to_end-2-clause-near
returns-then-comes_to_end-2-clause-near c h =
    come_near_back (pos c.args.s) (pos c.args.u) (whole c.args.e.now.a) (whole c.args.e.now.b) (whole c.args.f.now.a)
    (whole c.args.f.now.b)
    (near_at_end (pos c.args.s) (pos c.args.u) c.args.f.now.a c.args.f.now.b c.args.e.now.a c.args.e.now.b
    (c.comes_to_end-else-comes_to_end.ensures.meets c.if-comes_to_end-2.true))

pub returns-else-comes_to_end-2-clause-near : goal.returns-else-comes_to_end-2-clause-near
returns-else-comes_to_end-2-clause-near c h =
    near_if_cross (pos c.args.s) (pos c.args.u)
    (octagon_holds_origin (pos c.args.s) (pos c.args.u) (omega (arith, ints)) (omega (arith, ints)))
    c.args.e.now c.args.f.now (sym c.crosses.ensures ∙ h)

pub returns-else-comes_to_end-2-clause-apart : goal.returns-else-comes_to_end-2-clause-apart
returns-else-comes_to_end-2-clause-apart c h =
    apart (pos c.args.s) (pos c.args.u)
    (octagon_holds_origin (pos c.args.s) (pos c.args.u) (omega (arith, ints)) (omega (arith, ints)))
    c.args.e.now c.args.f.now (record {
      first = c.comes_to_end.ensures.start c.if-comes_to_end.false;
      second = c.comes_to_end.ensures.end c.if-comes_to_end.false;
      third = c.comes_to_end-else-comes_to_end.ensures.start c.if-comes_to_end-2.false;
      fourth = c.comes_to_end-else-comes_to_end.ensures.end c.if-comes_to_end-2.false;
    }) (sym c.crosses.ensures ∙ h)
