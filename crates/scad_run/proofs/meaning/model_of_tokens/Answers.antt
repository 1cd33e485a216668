use Rattle.std.proofs.Common.{subst, ◌∙◌}
use Rattle.scad_expr.specs.State.{Outcome}
use Rattle.scad_tree.specs.Solid.{Solid}
use Rattle.scad_inst.specs.Model.{Makes}
use Rattle.scad_run.proofs.Telling.{program_read, made_nothing}
use Rattle.scad_run.proofs.meaning.model_of_tokens.Goals as goal

pub returns-in-Ok : goal.returns-in-Ok
returns-in-Ok c =
    subst (λ (m : Outcome Solid). Makes m c.model.result) (program_read c.args.tokens.list.items
    c.args.tokens.end _ c.in-Ok.ensures)
    c.model.ensures

pub returns-in-Err : goal.returns-in-Err
returns-in-Err c =
    made_nothing c.args.tokens.list.items c.args.tokens.end c.in-Err.fault c.nothing_made.result
    c.in-Err.ensures
    (c.nothing_made.ensures.fault ∙ c.tokens_fault.ensures) c.nothing_made.ensures.echoes
