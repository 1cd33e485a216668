-- The outlines were made of the pieces, which the call of `joined` saw as a slice.
use Rattle.std.proofs.Common.{All, sym, subst}
use Rattle.scad_geom.specs.Limits.{coordinate_limit}
use Rattle.slice_pieces.specs.Pieces.{HaveOneLevel, IsPieceWithin, ArePiecesBalanced}
use Rattle.slice_border.specs.Outlines.{AreMadeOf, AreOutlinesOf}
use Rattle.slice_border.proofs.Membership.{outlines_hold_centres}
use Rattle.slice_border.proofs.NearBorder.{outlines_are_near_border}
use Rattle.slice_bool.proofs.outlining.outlines.Goals as goal
use Rattle.slice_bool.proofs.outlining.outlines.Goals.{After-drop-pieces}

abbrev made : (c : After-drop-pieces) → AreOutlinesOf c.args.edges.now c.args.shape.now c.in-Ok-joined.outlines.items
made c = record {
  pieces = c.in-Ok.pieces.items;
  are_pieces = c.in-Ok.ensures.pieces;
  are_made = subst (λ ps. AreMadeOf ps c.in-Ok-joined.outlines.items) c.deref.ensures.value c.in-Ok-joined.ensures;
}

pub joined-requires-clause-within : goal.joined-requires-clause-within
joined-requires-clause-within c =
    subst (All (IsPieceWithin coordinate_limit)) (sym c.deref.ensures.value) c.in-Ok.ensures.within

pub joined-requires-clause-levels : goal.joined-requires-clause-levels
joined-requires-clause-levels c = subst HaveOneLevel (sym c.deref.ensures.value) c.in-Ok.ensures.levels

pub joined-requires-clause-balanced : goal.joined-requires-clause-balanced
joined-requires-clause-balanced c =
    subst ArePiecesBalanced (sym c.deref.ensures.value) (c.in-Ok.ensures.balanced c.requires.balanced)

pub returns-in-Ok-joined-clause-outlines : goal.returns-in-Ok-joined-clause-outlines
returns-in-Ok-joined-clause-outlines c = made c

pub returns-in-Ok-joined-clause-centres : goal.returns-in-Ok-joined-clause-centres
returns-in-Ok-joined-clause-centres c =
    outlines_hold_centres c.args.edges.now c.args.shape.now c.in-Ok-joined.outlines.items c.requires.balanced (made c)

pub returns-in-Ok-joined-clause-near : goal.returns-in-Ok-joined-clause-near
returns-in-Ok-joined-clause-near c =
    outlines_are_near_border c.args.edges.now c.args.shape.now c.in-Ok-joined.outlines.items (made c)
