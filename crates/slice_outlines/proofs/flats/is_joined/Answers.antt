-- The comparison of ends tells, past the end there is none.
use Rattle.std.proofs.Common.{get_or, sym, ap₂, ◌∙◌, subst}
use lib.Signed.{◌≤ℤ◌, le_z}
use mir.Syntax.{w32}
use Rattle.std.proofs.lemmas.Int.{to_z-of_z}
use Rattle.std.proofs.lemmas.List.{get_or_default}
use Rattle.slice_outlines.specs.declared.flat.Flat.{Flat}
use Rattle.slice_outlines.proofs.Joining.{behind_none, behind_at, whole_cast, le_true, le_false}
use Rattle.slice_outlines.proofs.flats.is_joined.Goals as goal

pub returns-then-i-flats-clause-by : goal.returns-then-i-flats-clause-by
returns-then-i-flats-clause-by c = λ t g.
    let fs = c.args.flats.now in
    let e : Flat = c.index-flats-i.result in
    let f : Flat = get_or fs c.args.i e in
    let same = ap₂ le_z (whole_cast f.left f.left_size) (to_z-of_z w32 c.args.right c.ranges.right) in
    subst (λ (h : Flat). h.left ≤ℤ c.args.right) (get_or_default fs c.args.i e g c.if-i-flats.true)
    (le_true f.left c.args.right (sym same ∙ t))

pub returns-then-i-flats-clause-behind : goal.returns-then-i-flats-clause-behind
returns-then-i-flats-clause-behind c = λ t.
    let fs = c.args.flats.now in
    let e : Flat = c.index-flats-i.result in
    let f : Flat = get_or fs c.args.i e in
    let same = ap₂ le_z (whole_cast f.left f.left_size) (to_z-of_z w32 c.args.right c.ranges.right) in
    behind_at c.args.right fs c.args.i e c.if-i-flats.true (le_false f.left c.args.right (sym same ∙ t))

pub returns-else-i-flats-clause-behind : goal.returns-else-i-flats-clause-behind
returns-else-i-flats-clause-behind c = λ t. behind_none c.args.right c.args.flats.now c.args.i c.if-i-flats.false
