-- Where one end and one start alone tie with the piece's end, the piece that starts there goes on from it, or none
-- does.
use Rattle.std.proofs.Common.{sym, true≢false, ◌∙◌}
use Rattle.slice_snap.proofs.Joints.{if_none, no_end, no_start, inside, once_passed, goes_next, goes_nowhere}
use Rattle.slice_snap.proofs.merging.joint.Goals as goal

pub goes_on_at-requires-clause-there : goal.goes_on_at-requires-clause-there
goes_on_at-requires-clause-there c =
    inside c.args.pieces.now c.args.place c.end_at-end.result c.end_at-end.ensures.spot c.requires.comparable
    c.args.starts.now c.args.ends.now
    c.requires.starts c.requires.ends c.in_ok-next.next c.in_ok-next.ensures.some

pub returns-then-goes_on_at-clause-some : goal.returns-then-goes_on_at-clause-some
returns-then-goes_on_at-clause-some c =
    goes_next c.args.pieces.now c.args.place c.end_at-end.result c.end_at-end.ensures.spot c.requires.comparable
    c.args.starts.now c.args.ends.now
    c.requires.starts c.requires.ends c.in_ok-next.next c.in_ok-next.ensures.some
    (c.goes_on_at.ensures.0 c.if-goes_on_at.true)

pub returns-then-goes_on_at-clause-passed : goal.returns-then-goes_on_at-clause-passed
returns-then-goes_on_at-clause-passed c =
    once_passed c.args.pieces.now c.args.place c.end_at-end.result c.end_at-end.ensures.spot c.requires.comparable
    c.args.starts.now c.args.ends.now
    c.requires.starts c.requires.ends c.in_ok-next.next c.in_ok-next.ensures.some c.in_ok-alone.ensures.some.one

pub returns-else-goes_on_at-clause-none : goal.returns-else-goes_on_at-clause-none
returns-else-goes_on_at-clause-none c =
    goes_nowhere c.args.pieces.now c.args.place c.end_at-end.result c.end_at-end.ensures.spot c.requires.comparable
    c.args.starts.now c.args.ends.now
    c.requires.starts c.requires.ends c.in_ok-next.next c.in_ok-next.ensures.some
    (λ on. true≢false (sym (c.goes_on_at.ensures.1 on) ∙ c.if-goes_on_at.false))

pub returns-in_err-alone-clause-none : goal.returns-in_err-alone-clause-none
returns-in_err-alone-clause-none c =
    if_none c.from_residual.result
    (no_end c.args.pieces.now c.args.place c.end_at-end.result c.end_at-end.ensures.spot c.requires.comparable
    c.args.starts.now c.args.ends.now
    c.requires.starts c.requires.ends c.in_err-alone.ensures.none)

pub returns-in_err-next-clause-none : goal.returns-in_err-next-clause-none
returns-in_err-next-clause-none c =
    if_none c.from_residual-in_err-next.result
    (no_start c.args.pieces.now c.args.place c.end_at-end.result c.end_at-end.ensures.spot c.requires.comparable
    c.args.starts.now c.args.ends.now
    c.requires.starts c.requires.ends c.in_err-next.ensures.none)
