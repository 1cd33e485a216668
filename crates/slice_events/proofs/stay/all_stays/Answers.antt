-- Each edge gives its stays.
use Rattle.std.proofs.Common.{refl, ◌++◌, ◌+◌, drop, ap, ◌∙◌, List}
use Rattle.slice_events.specs.declared.stay.Stay.{Stay}
use Rattle.slice_events.specs.Lines.{edges_in}
use Rattle.slice_events.specs.Stays.{stays_of, all_stays}
use Rattle.slice_events.proofs.Loops.{put_step, last_step}
use Rattle.slice_events.proofs.Stays.{next_stays}
use Rattle.slice_events.proofs.stay.all_stays.Goals as goal

pub lines-preserved : goal.lines-preserved
lines-preserved c =
    let ls = c.args.lines.now in
    let i = c.lines.i in
    let l = c.index-lines-i.result in
    ap (λ (ss : List Stay). ss ++ all_stays c.args.tall (i + 1) (edges_in (drop (i + 1) ls))) c.in_ok-push_stays.ensures
    ∙ put_step c.lines.stays.items (stays_of c.args.tall i l.edge) _ _ _
    (next_stays c.args.tall ls i l c.lines-test.true c.index-lines-i.is) c.lines.invariant

pub returns : goal.returns
returns c = last_step (λ ls. all_stays c.args.tall c.lines.i (edges_in ls)) _ _ c.args.lines.now c.lines.i refl
    c.lines-test.false c.lines.invariant
