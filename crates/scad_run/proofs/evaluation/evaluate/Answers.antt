use Rattle.std.proofs.Common.{◌≡◌, rules}
use Rattle.scad_script.proofs.Layers.{as_left}
use Rattle.scad_run.specs.Meaning.{source_means}
use Rattle.scad_run.proofs.Telling.{model_told, end_told, stops_bring}
use Rattle.scad_run.proofs.evaluation.evaluate.Goals as goal

pub returns-in_err-echo-in-Ok-clause-tells : goal.returns-in_err-echo-in-Ok-clause-tells
returns-in_err-echo-in-Ok-clause-tells g c follows whole start left =
    let lines : c.deref.result.now ≡ c.in-Ok.field-0.echoes.items = search rules in
    stops_bring follows whole _ _ start _ (search rules)
    (c.in_err-echo-in-Ok.ensures.carries whole _ start
    (as_left (model_told follows (source_means c.args.source.now) c.in-Ok.field-0 c.deref.result.now lines
    c.in-Ok.ensures) left))

pub returns-in_err-echo-in-Err-clause-tells : goal.returns-in_err-echo-in-Err-clause-tells
returns-in_err-echo-in-Err-clause-tells g c follows whole start left =
    let lines : c.deref-in-Err.result.now ≡ c.in-Err.field-0.echoes.items = search rules in
    stops_bring follows whole _ _ start _ (search rules)
    (c.in_err-echo-in-Err.ensures.carries whole _ start
    (as_left (end_told follows (source_means c.args.source.now) c.in-Err.field-0 c.in-Some.refusal
    c.deref-in-Err.result.now lines c.in-Err.ensures (search rules)) left))
