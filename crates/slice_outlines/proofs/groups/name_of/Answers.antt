-- The first strand below, or the first above where none is below.
use Rattle.std.proofs.Common.{List, ap, ◌∙◌, arith, length, ◌<◌, sym, subst}
use Rattle.slice_outlines.specs.declared.mark.Mark.{Mark}
use Rattle.slice_outlines.specs.Marks.{mark_at}
use Rattle.slice_outlines.proofs.Grouping.{named_below, named_above, some_above}
use Rattle.slice_outlines.proofs.groups.name_of.Goals as goal

pub name_at-requires-else-has_below : goal.name_at-requires-else-has_below
name_at-requires-else-has_below c =
    let some = some_above c.args.height.now c.args.kept.now.marks.items c.args.run.now c.requires.group
    c.requires.pass_below c.requires.pass_above c.requires.there_below c.requires.there_above
    (c.has_below.ensures.none c.if-has_below.false) in
    let to = c.requires.group.run.above_to in
    subst (λ (ms : List Mark). c.args.run.now.above < length ms) (sym c.deref.ensures.value) (omega (arith, some, to))

pub returns-then-has_below : goal.returns-then-has_below
returns-then-has_below c =
    named_below c.args.height.now c.args.kept.now.marks.items c.args.run.now c.requires.group c.requires.pass_below
    c.requires.pass_above c.requires.there_below c.requires.there_above c.name_at.result
    (c.has_below.ensures.some c.if-has_below.true) c.name_at.ensures

pub returns-else-has_below : goal.returns-else-has_below
returns-else-has_below c =
    named_above c.args.height.now c.args.kept.now.marks.items c.args.run.now c.requires.group c.requires.pass_below
    c.requires.pass_above c.requires.there_below c.requires.there_above c.name_at-else-has_below.result
    (c.has_below.ensures.none c.if-has_below.false)
    (c.name_at-else-has_below.ensures
    ∙ ap (λ (ms : List Mark). (mark_at ms c.args.run.now.above).name) c.deref.ensures.value)
