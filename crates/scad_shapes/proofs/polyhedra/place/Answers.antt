-- The next point of a polyhedron is placed, or all are refused.
use Rattle.std.proofs.Common.{ℤ}
use Rattle.std.proofs.lemmas.Result.{err_from_is_err_and}
use Rattle.std.specs.List.{list_all}
use Rattle.scad_geom.specs.PointRange.{is_in_range}
use Rattle.scad_matrix.specs.Matrix.{placed_point}
use Rattle.scad_shapes.specs.Polyhedron.{placed_points}
use Rattle.scad_shapes.proofs.Solids.{item_made-more, item_ranged-more, item_ranged-fails, items_made, items_ranged, fails}
use Rattle.scad_shapes.proofs.polyhedra.place.Goals as goal

pub points-preserved : goal.points-preserved
points-preserved c =
    let place = λ (p : ℤ × ℤ × ℤ). placed_point c.args.m.now p.0 p.1 p.2 in
    let all = placed_points c.args.m.now c.args.points.now in
    record {
      made = item_made-more is_in_range place c.args.points.now c.points.point-index c.point-item.result
          c.points-test.true c.point-item.is c.points.placed.items c.push_placed.new.out.items all
          c.points.invariant.made c.in_ok-push_placed.ensures.0;
      ranged = item_ranged-more is_in_range place c.args.points.now c.points.point-index c.point-item.result
          c.points-test.true c.point-item.is (list_all is_in_range all) c.points.invariant.ranged
          c.in_ok-push_placed.ensures.1;
    }

pub returns-in_err-push_placed : goal.returns-in_err-push_placed
returns-in_err-push_placed c =
    let place = λ (p : ℤ × ℤ × ℤ). placed_point c.args.m.now p.0 p.1 p.2 in
    let all = placed_points c.args.m.now c.args.points.now in
    let p = err_from_is_err_and c.from_residual.result c.from_residual.ensures.1 in
    rw (p.1, p.2) (fails _ is_in_range c.points.placed.items c.push_placed.new.out.items all (place c.point-item.result)
    _ (λ v. v.items) c.in_err-push_placed.ensures
    (item_ranged-fails is_in_range place c.args.points.now c.points.point-index c.point-item.result
    c.points-test.true c.point-item.is (list_all is_in_range all) c.points.invariant.ranged))

pub returns : goal.returns
returns c =
    let place = λ (p : ℤ × ℤ × ℤ). placed_point c.args.m.now p.0 p.1 p.2 in
    let all = placed_points c.args.m.now c.args.points.now in (
      items_made is_in_range place c.args.points.now c.points.point-index c.points-test.false c.points.placed.items all
          c.points.invariant.made,
      items_ranged is_in_range place c.args.points.now c.points.point-index c.points-test.false
          (list_all is_in_range all) c.points.invariant.ranged,
    )
