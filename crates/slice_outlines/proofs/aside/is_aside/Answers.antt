-- One that is found to lie to a side of the spot does.
use Rattle.std.proofs.Common.{◌∙◌, ℤ, inl, inr, ap, subst}
use Rattle.slice_pieces.specs.declared.piece.Spot.{Spot}
use Rattle.slice_border.specs.Pieces.{whole_spot, IsLeft}
use Rattle.slice_outlines.proofs.Bits.{coordinate}
use Rattle.slice_outlines.proofs.aside.is_aside.Goals as goal

pub whole_spot-requires-clause-x : goal.whole_spot-requires-clause-x
whole_spot-requires-clause-x c =
    rw (coordinate c.args.e.now.left c.args.e.now.left_size) c.args.e.now.left_size

pub whole_spot-requires-clause-at : goal.whole_spot-requires-clause-at
whole_spot-requires-clause-at c = c.args.s.now.level

pub whole_spot-requires-else-is_left-clause-x : goal.whole_spot-requires-else-is_left-clause-x
whole_spot-requires-else-is_left-clause-x c =
    rw (coordinate c.args.e.now.right c.args.e.now.right_size) c.args.e.now.right_size

pub whole_spot-requires-else-is_left-clause-at : goal.whole_spot-requires-else-is_left-clause-at
whole_spot-requires-else-is_left-clause-at c = c.args.s.now.level

pub returns-then-is_left : goal.returns-then-is_left
returns-then-is_left c = λ h.
    let e = c.args.e.now in
    let s = c.args.s.now.spot in
    let same = c.whole_spot.ensures
    ∙ ap (λ (x : ℤ). whole_spot x s.at) (coordinate e.left e.left_size) in
    inl (subst (λ (t : Spot). IsLeft s t) same (c.is_left.ensures h))

pub returns-else-is_left : goal.returns-else-is_left
returns-else-is_left c = λ h.
    let e = c.args.e.now in
    let s = c.args.s.now.spot in
    let same = c.whole_spot-else-is_left.ensures
    ∙ ap (λ (x : ℤ). whole_spot x s.at) (coordinate e.right e.right_size) in
    inr (subst (λ (t : Spot). IsLeft t s) same (c.is_left-else-is_left.ensures h))
