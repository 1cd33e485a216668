use Rattle.std.proofs.Common.{◌+◌, drop, ap, sym, ◌∙◌}
use Rattle.std.proofs.lemmas.Result.{err_from_is_err_and}
use Rattle.std.proofs.lemmas.Bool.{lt-ltb}
use Rattle.scad_solid.specs.Solid.{names_points}
use Rattle.scad_value.specs.View.{elements}
use Rattle.scad_value.proofs.Rows.{elements-drop_all}
use Rattle.scad_modules.specs.Reading.{indices_onto}
use Rattle.scad_modules.proofs.Onto.{all-more, one-more, indices-goes, indices-stops}
use Rattle.scad_modules.proofs.polyhedra.indices.Goals as goal

pub returns-in_err-index-clause-reads : goal.returns-in_err-index-clause-reads
returns-in_err-index-clause-reads c =
    let p = err_from_is_err_and c.from_residual.result c.from_residual.ensures.1 in
    rw (p.1, p.2) (λ some. sym c.indices.invariant.onto ∙ indices-stops c.args.limit c.indices.indices.items
    c.args.all.now c.indices.value-index c.value-item.result _ c.indices-test.true c.value-item.is
    c.in_err-index.ensures.value)

pub indices-preserved : goal.indices-preserved
indices-preserved c = record {
  onto =
      ap (λ so_far. indices_onto c.args.limit so_far (elements (drop (c.indices.value-index + 1) c.args.all.now)))
      c.in_ok-push.ensures.items
      ∙ indices-goes c.args.limit c.indices.indices.items c.args.all.now c.indices.value-index c.value-item.result _
      c.indices-test.true c.value-item.is c.in_ok-index.ensures.value
      ∙ c.indices.invariant.onto;
  named =
      ap (names_points c.args.limit) c.in_ok-push.ensures.items
      ∙ all-more _ c.indices.indices.items c.in_ok-index.index c.indices.invariant.named
      (lt-ltb c.in_ok-index.index c.args.limit c.in_ok-index.ensures.below);
  count = one-more _ c.indices.indices.items _ _ c.in_ok-push.ensures.items c.indices.invariant.count;
}

pub returns-clause-reads : goal.returns-clause-reads
returns-clause-reads c =
    sym c.indices.invariant.onto
    ∙ ap (indices_onto c.args.limit c.indices.indices.items) (elements-drop_all c.args.all.now c.indices.value-index
    c.indices-test.false)
