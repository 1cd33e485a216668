-- Within the list the comparison tells, past its end nothing ties.
use Rattle.std.proofs.Common.{◌≡◌, ◌<◌, length, false, nat_lt, sym, ap, ◌∙◌}
use Rattle.std.proofs.lemmas.Bool.{le-ltb}
use Rattle.std.specs.Ordering.{is_eq}
use Rattle.slice_snap.specs.declared.end.End.{End}
use Rattle.slice_snap.specs.EndOrder.{ties}
use Rattle.slice_snap.proofs.Ties.{holds_there, holds_past}
use Rattle.slice_snap.proofs.alone.ties_at.Goals as goal

pub returns-then-place-ends : goal.returns-then-place-ends
returns-then-place-ends c =
    let at : End = c.args.at.now in
    let e : End = c.index-ends-place.result in
    let there : c.args.place < length c.args.ends.now = c.if-place-ends.true in
    c.is_eq.ensures ∙ ap is_eq c.compare.ensures ∙ ap (ties at) c.index-ends-place.is
    ∙ sym (holds_there (ties at) c.args.ends.now c.args.place e there)

pub returns-else-place-ends : goal.returns-else-place-ends
returns-else-place-ends c =
    let past : nat_lt c.args.place (length c.args.ends.now) ≡ false = le-ltb c.args.place (length c.args.ends.now) c.if-place-ends.false in
    past ∙ sym (holds_past (ties c.args.at.now) c.args.ends.now c.args.place c.if-place-ends.false)
