use Rattle.scad_lex.proofs.LongestPiece.{pieces_are_longest, no_piece_is_missed}
use Rattle.scad_lex.proofs.laws.pieces_are_longest.Goals as goal

pub returns : goal.returns
returns c = record { longest = pieces_are_longest; none_missed = no_piece_is_missed }
