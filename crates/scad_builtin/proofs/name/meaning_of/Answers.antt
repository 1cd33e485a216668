use Rattle.std.proofs.Common.{◌∙◌, sym}
use Rattle.scad_table.specs.Table.{entries}
use Rattle.scad_builtin.proofs.Meanings.{meaning_of_id, meaning_of_none}
use Rattle.scad_builtin.proofs.name.meaning_of.Goals as goal

pub returns-in-Some : goal.returns-in-Some
returns-in-Some c =
    c.numbered_name.ensures ∙ meaning_of_id c.args.name.now (entries c.names.result.now) c.in-Some.id
    c.names.ensures.entries (sym c.in-Some.ensures.given)

pub returns-in-None : goal.returns-in-None
returns-in-None c =
    meaning_of_none c.args.name.now (entries c.names.result.now) c.names.ensures.entries (sym c.in-None.ensures.given)
