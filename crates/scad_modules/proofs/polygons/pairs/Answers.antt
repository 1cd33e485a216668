use Rattle.std.proofs.Common.{◌+◌, drop, ap, sym, ◌∙◌}
use Rattle.std.proofs.lemmas.Result.{err_from_is_err_and}
use Rattle.scad_value.specs.View.{elements}
use Rattle.scad_value.proofs.Rows.{elements-drop_all}
use Rattle.scad_modules.specs.FlatShapes.{pairs_onto}
use Rattle.scad_modules.proofs.Onto.{pairs-goes, pairs-stops}
use Rattle.scad_modules.proofs.polygons.pairs.Goals as goal

pub returns-in_err-point : goal.returns-in_err-point
returns-in_err-point c =
    let p = err_from_is_err_and c.from_residual.result c.from_residual.ensures.1 in
    rw (p.1, p.2) (λ some. sym c.points.invariant.onto ∙ pairs-stops c.points.points.items c.args.all.now
    c.points.value-index c.value-item.result _ c.points-test.true c.value-item.is c.in_err-point.ensures)

pub points-preserved : goal.points-preserved
points-preserved c = record {
  onto =
      ap (λ so_far. pairs_onto so_far (elements (drop (c.points.value-index + 1) c.args.all.now)))
      c.in_ok-push.ensures.items
      ∙ pairs-goes c.points.points.items c.args.all.now c.points.value-index c.value-item.result _ c.points-test.true
      c.value-item.is c.in_ok-point.ensures
      ∙ c.points.invariant.onto;
}

pub returns : goal.returns
returns c =
    sym c.points.invariant.onto
    ∙ ap (pairs_onto c.points.points.items) (elements-drop_all c.args.all.now c.points.value-index c.points-test.false)
