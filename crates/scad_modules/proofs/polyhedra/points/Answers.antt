use Rattle.std.proofs.Common.{◌+◌, drop, ap, sym, ◌∙◌}
use Rattle.std.proofs.lemmas.Result.{err_from_is_err_and}
use Rattle.scad_value.specs.View.{elements}
use Rattle.scad_value.proofs.Rows.{elements-drop_all}
use Rattle.scad_modules.specs.Reading.{points_onto}
use Rattle.scad_modules.proofs.Onto.{points-goes, points-stops}
use Rattle.scad_modules.proofs.polyhedra.points.Goals as goal

pub returns-in_err-point : goal.returns-in_err-point
returns-in_err-point c =
    let p = err_from_is_err_and c.from_residual.result c.from_residual.ensures.1 in
    rw (p.1, p.2) (λ some. sym c.points.invariant.onto ∙ points-stops c.points.points.items c.args.all.now
    c.points.value-index c.value-item.result _ c.points-test.true c.value-item.is c.in_err-point.ensures)

pub points-preserved : goal.points-preserved
points-preserved c = record {
  onto =
      ap (λ so_far. points_onto so_far (elements (drop (c.points.value-index + 1) c.args.all.now)))
      c.in_ok-push.ensures.items
      ∙ points-goes c.points.points.items c.args.all.now c.points.value-index c.value-item.result _ c.points-test.true
      c.value-item.is c.in_ok-point.ensures
      ∙ c.points.invariant.onto;
}

pub returns : goal.returns
returns c =
    sym c.points.invariant.onto
    ∙ ap (points_onto c.points.points.items) (elements-drop_all c.args.all.now c.points.value-index c.points-test.false)
