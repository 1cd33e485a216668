-- One strand alone has the value below the height to its left; for more the cursors are asked.
use Rattle.std.proofs.Common.{ℕ, drop, ap, ◌∙◌, arith}
use Rattle.std.specs.Prelude.{Bool}
use Rattle.slice_sweep.specs.Front.{bundles_in}
use Rattle.slice_border.specs.Beside.{left_value}
use Rattle.slice_outlines.specs.MarkValue.{valued}
use Rattle.slice_outlines.proofs.Valuing.{keeps_all, keeps_more, valued_one}
use Rattle.slice_outlines.proofs.changing.find_values.Goals as goal

pub returns-then-is_one-clause-values : goal.returns-then-is_one-clause-values
returns-then-is_one-clause-values c shape balanced on =
    let h = c.args.height.now in
    let run = c.args.run.now in
    let one = c.is_one.ensures c.if-is_one.true in
    let there = c.requires.there.above_to in
    valued_one (λ (j : ℕ). left_value h.edges.now shape (drop j (bundles_in h.front.now))) run.above run.above_to
    c.args.kept.now.marks.items c.set_value.new.marks.items one (omega (arith, one, there))
    (c.set_value.ensures ∙ ap (λ (v : Bool). valued run.above v c.args.kept.now.marks.items)
    (c.value_at.ensures ∙ balanced))

pub returns-then-is_one-clause-rest : goal.returns-then-is_one-clause-rest
returns-then-is_one-clause-rest c =
    let run = c.args.run.now in
    let one = c.is_one.ensures c.if-is_one.true in
    keeps_more run c.args.kept.now.marks.items c.args.kept.now.marks.items c.set_value.new.marks.items run.above _
    (keeps_all run c.args.kept.now.marks.items) (omega arith) (omega (arith, one)) c.set_value.ensures
