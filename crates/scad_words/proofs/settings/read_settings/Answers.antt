use Rattle.std.proofs.Common.{rules, Option, Err, sym, ap, ◌∙◌, subst}
use Rattle.toml.specs.Data.{Members}
use Rattle.toml.specs.View.{table_view}
use Rattle.scad_fault.specs.declared.settings.SetKind.TheVariants.{NotToml}
use Rattle.scad_words.specs.Settings.{set_fault, settings_by, Answers}
use Rattle.scad_words.proofs.Documents.{document_is, no_document}
use Rattle.scad_words.proofs.Ranges.{answered_in_range}
use Rattle.scad_words.proofs.settings.read_settings.Goals as goal

pub returns-in-Ok-clause-answers : goal.returns-in-Ok-clause-answers
returns-in-Ok-clause-answers c =
    let there = document_is c.args.bytes.now (table_view c.in-Ok.table) c.in-Ok.ensures.ok.0 c.in-Ok.ensures.ok.1 in
    subst (λ (ms : Option Members). Answers (settings_by ms) c.judged.result) (sym there) c.judged.ensures

pub returns-in-Ok-clause-in_range : goal.returns-in-Ok-clause-in_range
returns-in-Ok-clause-in_range c = answered_in_range c.args.bytes.now c.judged.result (returns-in-Ok-clause-answers c)

pub returns-in-Err-2-clause-answers : goal.returns-in-Err-2-clause-answers
returns-in-Err-2-clause-answers c =
    ap settings_by (no_document c.args.bytes.now (c.in-Err.ensures.refused (search rules)))
    ∙ ap (λ key. Err (set_fault NotToml key _)) (sym c.empty.ensures)
