use Rattle.std.proofs.Common.{Option, ap, ◌∙◌}
use Rattle.std.specs.Prelude.{option_and_then}
use Rattle.toml.specs.Data.{Data, as_integer}
use Rattle.toml.proofs.Views.{table_get}
use Rattle.scad_words.specs.Settings.{value_or}
use Rattle.scad_words.proofs.settings.setting.Goals as goal

pub returns-in-Some : goal.returns-in-Some
returns-in-Some c =
    let found = table_get c.get.result c.args.key.now c.args.table.now.entries c.get.ensures.value in
    let here = rw c.in-Some.is at found in
    c.value_or.ensures ∙ ap (value_or c.args.row) (c.as_integer.ensures ∙ ap (λ (o : Option Data). option_and_then as_integer o) here)

pub returns-in-None : goal.returns-in-None
returns-in-None c =
    let found = table_get c.get.result c.args.key.now c.args.table.now.entries c.get.ensures.value in
    let here = rw c.in-None.is at found in
    ap (λ (o : Option Data). value_or c.args.row (option_and_then as_integer o)) here
