use Rattle.std.proofs.Common.{◌+◌, drop, ap, sym, ◌∙◌}
use Rattle.std.proofs.lemmas.Result.{err_from_is_err_and}
use Rattle.std.specs.List.{list_all}
use Rattle.scad_value.specs.View.{elements}
use Rattle.scad_value.proofs.Rows.{elements-drop_all}
use Rattle.scad_modules.specs.Primitive.{is_face}
use Rattle.scad_modules.specs.Reading.{faces_onto}
use Rattle.scad_modules.proofs.Onto.{all-more, one-more, faces-goes, faces-stops}
use Rattle.scad_modules.proofs.polyhedra.faces.Goals as goal

pub returns-in_err-face-clause-reads : goal.returns-in_err-face-clause-reads
returns-in_err-face-clause-reads c =
    let p = err_from_is_err_and c.from_residual.result c.from_residual.ensures.1 in
    rw (p.1, p.2) (λ some. sym c.faces.invariant.onto ∙ faces-stops c.args.limit c.faces.faces.items c.args.all.now
    c.faces.value-index c.value-item.result _ c.faces-test.true c.value-item.is (c.in_err-face.ensures.reads some))

pub faces-preserved : goal.faces-preserved
faces-preserved c = record {
  onto =
      ap (λ so_far. faces_onto c.args.limit so_far (elements (drop (c.faces.value-index + 1) c.args.all.now)))
      c.in_ok-push.ensures.items
      ∙ faces-goes c.args.limit c.faces.faces.items c.args.all.now c.faces.value-index c.value-item.result _
      c.faces-test.true c.value-item.is c.in_ok-face.ensures.reads
      ∙ c.faces.invariant.onto;
  named =
      ap (list_all (is_face c.args.limit)) c.in_ok-push.ensures.items
      ∙ all-more (is_face c.args.limit) c.faces.faces.items _ c.faces.invariant.named c.in_ok-face.ensures.face;
  count = one-more _ c.faces.faces.items _ _ c.in_ok-push.ensures.items c.faces.invariant.count;
}

pub returns-clause-reads : goal.returns-clause-reads
returns-clause-reads c =
    sym c.faces.invariant.onto
    ∙ ap (faces_onto c.args.limit c.faces.faces.items) (elements-drop_all c.args.all.now c.faces.value-index
    c.faces-test.false)
