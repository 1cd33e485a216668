-- Levels over one divisor are the same where their heights are.
use Rattle.std.proofs.Common.{List, sym, subst}
use Rattle.slice_pieces.specs.declared.piece.Piece.{Piece}
use Rattle.slice_pieces.specs.Pieces.{HaveOneLevel}
use Rattle.outline_samples.proofs.WholeLevels.{whole_levels}
use Rattle.outline_samples.proofs.pieces.are_merged.Goals as goal

pub merge-requires-clause-levels : goal.merge-requires-clause-levels
merge-requires-clause-levels c =
    subst (λ (qs : List Piece). HaveOneLevel qs) (sym c.deref.ensures.value)
    (whole_levels c.in_ok-pieces_of_text.pieces_of_text.items c.in_ok-pieces_of_text.ensures.starts c.in_ok-pieces_of_text.ensures.ends)
