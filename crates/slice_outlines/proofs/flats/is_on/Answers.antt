-- The comparison of heights tells, past the end there is none.
use Rattle.std.proofs.Common.{sym, ◌∙◌, subst, true≢false}
use lib.IntN.{◌*ℤ◌}
use Rattle.std.specs.Cmp.{signed_Decides}
use Rattle.std.proofs.lemmas.List.{get_or_read}
use Rattle.slice_outlines.specs.declared.flat.Flat.{Flat}
use Rattle.slice_outlines.specs.Flats.{LiesOn}
use Rattle.slice_outlines.proofs.Joining.{off_none, off_at}
use Rattle.slice_outlines.proofs.flats.is_on.Goals as goal

pub returns-then-i-flats-clause-on : goal.returns-then-i-flats-clause-on
returns-then-i-flats-clause-on c = λ t f.
    let e : Flat = c.index-flats-i.result in
    let at = c.args.at.now in
    subst (LiesOn at) (get_or_read c.args.flats.now c.args.i e c.if-i-flats.true c.index-flats-i.is f)
    ((signed_Decides (e.y *ℤ at.d) at.n).0 (sym c.lies_on.ensures ∙ t))

pub returns-then-i-flats-clause-off : goal.returns-then-i-flats-clause-off
returns-then-i-flats-clause-off c = λ t.
    let e : Flat = c.index-flats-i.result in
    let at = c.args.at.now in
    off_at at c.args.flats.now c.args.i e c.if-i-flats.true
    (λ on. true≢false (sym ((signed_Decides (e.y *ℤ at.d) at.n).1 (subst (LiesOn at) (sym c.index-flats-i.is) on))
    ∙ sym c.lies_on.ensures ∙ t))

pub returns-else-i-flats-clause-off : goal.returns-else-i-flats-clause-off
returns-else-i-flats-clause-off c = λ t. off_none c.args.at.now c.args.flats.now c.args.i c.if-i-flats.false
