-- The next point of an outline is placed in a turn, or its ring is refused.
use Rattle.std.proofs.Common.{refl, ap}
use Rattle.std.proofs.lemmas.Result.{err_from_is_err_and}
use Rattle.std.specs.List.{list_all}
use Rattle.std.specs.Prelude.{◌++◌, List}
use Rattle.scad_geom.specs.declared.point3.Pt3.{Pt3}
use Rattle.scad_geom.specs.PointRange.{is_in_range}
use Rattle.scad_shapes.proofs.Solids.{item_made-more, item_ranged-more, item_ranged-fails, items_made, items_ranged}
use Rattle.scad_shapes.proofs.Solids.{ring_fails, ring_makes}
use Rattle.scad_extrude.specs.Revolution.{turned_point, turned_ring}
use Rattle.scad_extrude.proofs.turns.turn.Goals as goal

pub points-init : goal.points-init
points-init c =
    let all = turned_ring c.args.m.now c.args.cosine c.args.sine c.args.ring.now in
    record { made = ap (λ (none : List Pt3). none ++ all) c.new-turn.ensures.items; ranged = refl }

pub push_turned-requires-clause-cosine : goal.push_turned-requires-clause-cosine
push_turned-requires-clause-cosine c = c.requires.cosine

pub push_turned-requires-clause-sine : goal.push_turned-requires-clause-sine
push_turned-requires-clause-sine c = c.requires.sine

pub points-preserved : goal.points-preserved
points-preserved c =
    let place = turned_point c.args.m.now c.args.cosine c.args.sine in
    let all = turned_ring c.args.m.now c.args.cosine c.args.sine c.args.ring.now in
    record {
      made = item_made-more is_in_range place c.args.ring.now c.points.point-index c.point-item.result
          c.points-test.true c.point-item.is c.points.turn.items c.push_turned.new.out.items all
          c.points.invariant.made c.in_ok-push_turned.ensures.0;
      ranged = item_ranged-more is_in_range place c.args.ring.now c.points.point-index c.point-item.result
          c.points-test.true c.point-item.is (list_all is_in_range all) c.points.invariant.ranged
          c.in_ok-push_turned.ensures.1;
    }

pub returns-in_err-push_turned : goal.returns-in_err-push_turned
returns-in_err-push_turned c =
    let place = turned_point c.args.m.now c.args.cosine c.args.sine in
    let all = turned_ring c.args.m.now c.args.cosine c.args.sine c.args.ring.now in
    let p = err_from_is_err_and c.from_residual.result c.from_residual.ensures.1 in
    rw (p.1, p.2) (ring_fails c.points.turn.items c.push_turned.new.out.items all (place c.point-item.result) _
    c.in_err-push_turned.ensures
    (item_ranged-fails is_in_range place c.args.ring.now c.points.point-index c.point-item.result
    c.points-test.true c.point-item.is (list_all is_in_range all) c.points.invariant.ranged))

pub returns : goal.returns
returns c =
    let place = turned_point c.args.m.now c.args.cosine c.args.sine in
    let all = turned_ring c.args.m.now c.args.cosine c.args.sine c.args.ring.now in
    ring_makes c.from_vec.result c.points.turn.items all c.from_vec.ensures
    (items_made is_in_range place c.args.ring.now c.points.point-index c.points-test.false c.points.turn.items all
    c.points.invariant.made)
    (items_ranged is_in_range place c.args.ring.now c.points.point-index c.points-test.false
    (list_all is_in_range all) c.points.invariant.ranged)
