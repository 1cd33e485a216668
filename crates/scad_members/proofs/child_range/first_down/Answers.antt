-- The number that steps reach from a start is in range, and those before it name no child.
use Rattle.std.proofs.Common.{arith}
use Rattle.std.proofs.lemmas.Int.{ints}
use Rattle.std.proofs.lemmas.Nat.{div-add-mod'}
use Rattle.scad_members.proofs.ChildBounds.{reached-down}
use Rattle.scad_members.proofs.child_range.first_down.Goals as goal

pub returns : goal.returns
returns c =
    let parts = div-add-mod' c.unsigned_abs-gap.result c.unsigned_abs.result in
    λ scope behind. reached-down scope c.args.high c.args.start c.args.step c.within.result c.unsigned_abs-gap.result
    c.unsigned_abs.result behind
    (omega (arith, ints)) (omega (arith, ints)) (omega (arith, ints)) (omega (arith, ints, parts))

pub within-requires : goal.within-requires
within-requires c =
    let parts = div-add-mod' c.unsigned_abs-gap.result c.unsigned_abs.result in
    omega (arith, ints, parts)
