-- The fields of the layers, and what is said of the layers by them.
use Rattle.std.proofs.Common.{List, refl, sym, subst}
use Rattle.std.specs.Prelude.{All}
use Rattle.std.specs.List.{AllZip}
use Rattle.std.proofs.lemmas.Result.{err_from_is_err_and}
use Rattle.cli_read.specs.declared.layers.CliLayer.{CliLayer}
use Rattle.plan_verify.specs.declared.field.Field.{Field}
use Rattle.plan_verify.specs.Fields.{AreSidesWithin, IsSound, IsFieldOf}
use Rattle.plan_verify.proofs.Files.{are_sides_within}
use Rattle.plan_verify.proofs.Layers.{sound_fields, verdict_of_layers}
use Rattle.plan_verify.proofs.court.check.Goals as goal

pub fields_of-requires : goal.fields_of-requires
fields_of-requires c = subst (λ (ls : List CliLayer). AreSidesWithin ls) (sym c.as_slice.ensures)
    (are_sides_within c.args.cli.now.layers c.requires.layers)

pub judge-requires-clause-fields : goal.judge-requires-clause-fields
judge-requires-clause-fields c = subst (λ (fs : List Field). All IsSound fs) (sym c.deref.ensures.value)
    (sound_fields c.as_slice.result.now c.in_ok-fields.fields.items c.in_ok-fields.ensures)

pub returns-in_err-fields : goal.returns-in_err-fields
returns-in_err-fields c =
    let p = err_from_is_err_and c.from_residual.result c.from_residual.ensures.1 in
    rw (p.1, p.2) (λ some. absurd (some refl))

pub returns : goal.returns
returns c = verdict_of_layers c.args.cli.now.layers c.deref.result.now c.args.line_width c.args.gcode.now c.judge.result
    (subst (λ (ls : List CliLayer). AllZip IsFieldOf ls c.deref.result.now) c.as_slice.ensures
    (subst (λ (fs : List Field). AllZip IsFieldOf c.as_slice.result.now fs) (sym c.deref.ensures.value)
    c.in_ok-fields.ensures))
    c.judge.ensures
