-- Where the chains of all pieces go on as far as they can, their wholes are the merged pieces.
use Rattle.std.proofs.Common.{◌≡◌, ℕ, true, false, List, All, sym, subst}
use Rattle.std.proofs.lemmas.Result.{IfOk-weaker}
use Rattle.scad_geom.specs.Limits.{coordinate_limit}
use Rattle.slice_pieces.specs.declared.piece.Piece.{Piece}
use Rattle.slice_pieces.specs.Pieces.{IsPieceWithin, ArePiecesBalanced}
use Rattle.slice_pieces.specs.Merging.{AreMerged}
use Rattle.slice_snap.specs.Chains.{HaveLengths, wholes_of}
use Rattle.slice_snap.specs.EndOrder.{AreInOrder}
use Rattle.slice_pieces.proofs.Balance.{merging_keeps_balance}
use Rattle.slice_snap.proofs.ChainLinks.{alone, all_merged}
use Rattle.slice_snap.proofs.merging.merge.Goals as goal

pub pieces-init : goal.pieces-init
pieces-init c = alone c.args.pieces.now c.in_ok-chains.chains c.requires.within c.in_ok-chains.ensures

pub returns-clause-merged : goal.returns-clause-merged
returns-clause-merged c =
    let left : List Piece = wholes_of c.pieces.chains in
    let merged : AreMerged c.args.pieces.now left = all_merged c.args.pieces.now c.pieces.chains c.pieces.place c.pieces.invariant c.pieces-test.false in
    IfOk-weaker c.wholes.result (λ v. v.items ≡ left) (λ v. AreMerged c.args.pieces.now v.items)
    (λ v h. subst (AreMerged c.args.pieces.now) (sym h) merged) c.wholes.ensures

pub returns-clause-within : goal.returns-clause-within
returns-clause-within c =
    let left : List Piece = wholes_of c.pieces.chains in
    IfOk-weaker c.wholes.result (λ v. v.items ≡ left) (λ v. All (IsPieceWithin coordinate_limit) v.items)
    (λ v h. subst (All (IsPieceWithin coordinate_limit)) (sym h) c.pieces.invariant.joined.within) c.wholes.ensures

pub returns-clause-balanced : goal.returns-clause-balanced
returns-clause-balanced c =
    IfOk-weaker c.wholes.result (λ v. AreMerged c.args.pieces.now v.items)
    (λ v. ArePiecesBalanced c.args.pieces.now → ArePiecesBalanced v.items)
    (λ v h. merging_keeps_balance coordinate_limit c.args.pieces.now v.items c.requires.within h)
    (returns-clause-merged c)

pub go_on-requires-clause-within : goal.go_on-requires-clause-within
go_on-requires-clause-within c = c.requires.within

pub go_on-requires-clause-levels : goal.go_on-requires-clause-levels
go_on-requires-clause-levels c = c.requires.levels

pub go_on-requires-clause-starts : goal.go_on-requires-clause-starts
go_on-requires-clause-starts c =
    subst (AreInOrder true c.args.pieces.now) (sym c.deref.ensures.value) c.in_ok-starts.ensures

pub go_on-requires-clause-ends : goal.go_on-requires-clause-ends
go_on-requires-clause-ends c =
    subst (AreInOrder false c.args.pieces.now) (sym c.deref-in-pieces.ensures.value) c.in_ok-ends.ensures

pub wholes-requires : goal.wholes-requires
wholes-requires c =
    let lengths = c.pieces.invariant.lengths in
    subst (λ (n : ℕ). HaveLengths n c.pieces.chains) (sym lengths.wholes) lengths
