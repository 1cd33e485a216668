use Rattle.std.proofs.Common.{◌∙◌}
use Rattle.scad_run.proofs.Telling.{text_makes_nothing}
use Rattle.scad_run.proofs.meaning.model_of_source.Goals as goal

pub returns-in-Err : goal.returns-in-Err
returns-in-Err c =
    text_makes_nothing c.args.source.now c.in-Err.fault c.nothing_made.result c.in-Err.ensures.refused
    (c.nothing_made.ensures.fault ∙ c.text_fault.ensures) c.nothing_made.ensures.echoes
