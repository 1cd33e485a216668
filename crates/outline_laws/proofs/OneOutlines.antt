-- A shape has one list of outlines, and so have two that hold alike.
use Rattle.std.proofs.Common.{length, refl}
use Rattle.std.proofs.lemmas.List.Elements.{All-from_recursion}
use Rattle.slice_bundles.specs.Bundles.{edge_at}
use Rattle.slice_pieces.specs.Pieces.{IsPieceWithin}
use Rattle.slice_border.proofs.PieceNames.{pieces_are_named}
use Rattle.slice_border.proofs.OneOutlines.{made_are_one}
use Rattle.outline_laws.specs.Sameness.{ArePiecesSame}
use Rattle.outline_laws.specs.Outlines.{OutlinesAreOne, AlikeHaveOneOutlines}
use Rattle.outline_laws.proofs.Same.{pieces_chain}
use Rattle.outline_laws.proofs.LikePieces.{made_too}
use Rattle.outline_laws.proofs.Pieces.{pieces_are_same}
use Rattle.outline_laws.proofs.LikeNames.{named_same}
use Rattle.outline_laws.proofs.Within.{pieces_written}

pub alike_have_one_outlines : AlikeHaveOneOutlines
alike_have_one_outlines es w s t alike outlines more a b =
    let same : ArePiecesSame a.pieces b.pieces = pieces_are_same es s t alike a.pieces b.pieces a.are_pieces
    b.are_pieces in
    let over = pieces_written es w t b.pieces b.are_pieces in
    made_are_one over.limit (length es) (edge_at es) over.pieces outlines more
    (All-from_recursion (IsPieceWithin over.limit) over.pieces over.within)
    (named_same (length es) (edge_at es) b.pieces over.pieces over.same (pieces_are_named es t b.pieces b.are_pieces))
    (made_too a.pieces over.pieces (pieces_chain a.pieces b.pieces over.pieces same over.same) outlines a.are_made)
    (made_too b.pieces over.pieces over.same more b.are_made)

pub outlines_are_one : OutlinesAreOne
outlines_are_one es w shape outlines more a b = alike_have_one_outlines es w shape shape (λ above right p d. refl)
    outlines more a b
