use Rattle.std.proofs.Common.{◌+◌, drop, ap, sym, ◌∙◌}
use Rattle.std.proofs.lemmas.Result.{err_from_is_err_and}
use Rattle.std.specs.List.{list_all}
use Rattle.scad_value.specs.View.{elements}
use Rattle.scad_value.proofs.Rows.{elements-drop_all}
use Rattle.scad_modules.specs.FlatShapes.{paths_onto}
use Rattle.scad_modules.specs.Outline.{is_outline}
use Rattle.scad_modules.specs.View.{outline, outlines}
use Rattle.scad_modules.proofs.Onto.{all-more}
use Rattle.scad_modules.proofs.Paths.{outlines-push, paths-goes, paths-stops}
use Rattle.scad_modules.proofs.polygons.paths.Goals as goal

pub returns-in_err-path-clause-reads : goal.returns-in_err-path-clause-reads
returns-in_err-path-clause-reads c =
    let p = err_from_is_err_and c.from_residual.result c.from_residual.ensures.1 in
    rw (p.1, p.2) (λ some. sym c.paths.invariant.onto ∙ paths-stops c.args.points.now c.paths.paths.items
    c.args.all.now c.paths.value-index c.value-item.result _ c.paths-test.true c.value-item.is
    (c.in_err-path.ensures.reads some))

pub paths-preserved : goal.paths-preserved
paths-preserved c = record {
  onto =
      ap (λ so_far. paths_onto c.args.points.now (outlines so_far) (elements (drop (c.paths.value-index + 1)
      c.args.all.now))) c.in_ok-push.ensures.items
      ∙ paths-goes c.args.points.now c.paths.paths.items c.args.all.now c.paths.value-index c.value-item.result _
      c.paths-test.true c.value-item.is c.in_ok-path.ensures.reads
      ∙ c.paths.invariant.onto;
  outlines =
      ap (λ made. list_all is_outline (outlines made)) c.in_ok-push.ensures.items
      ∙ ap (list_all is_outline) (outlines-push c.paths.paths.items c.in_ok-path.path)
      ∙ all-more is_outline (outlines c.paths.paths.items) (outline c.in_ok-path.path) c.paths.invariant.outlines
      c.in_ok-path.ensures.outline;
}

pub returns-clause-reads : goal.returns-clause-reads
returns-clause-reads c =
    sym c.paths.invariant.onto
    ∙ ap (paths_onto c.args.points.now (outlines c.paths.paths.items)) (elements-drop_all c.args.all.now
    c.paths.value-index c.paths-test.false)
