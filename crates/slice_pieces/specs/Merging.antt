-- Pieces merged: two of one name become one, where they alone meet.
use Rattle.std.specs.Prelude.{◌≡◌, true, List, ◌∷◌}
use Rattle.std.specs.List.Sorted.{IsPermutation}
use Rattle.scad_geom.specs.Balance.{starts_at, ends_at}
use Rattle.slice_pieces.specs.declared.piece.Piece.{Piece}
use Rattle.slice_pieces.specs.Spots.{point_of, is_same_spot}
use Rattle.slice_pieces.specs.Pieces.{ways_of}

-- two pieces of a list, besides the others: they have one name, the first ends where the second starts, and at that
-- point no
-- other piece ends and no other starts
pub record MeetAlone (pieces : List Piece) (first second : Piece) (others : List Piece) : Type 0 where
  pub two : IsPermutation pieces (first ∷ (second ∷ others))
  pub name : first.edge ≡ second.edge
  pub meet : is_same_spot first.to second.from ≡ true
  pub one_ends : ends_at (point_of first.to) (ways_of pieces) ≡ 1
  pub one_starts : starts_at (point_of first.to) (ways_of pieces) ≡ 1

-- the piece that two become: from the start of the first to the end of the second
abbrev pub joined : Piece → Piece → Piece
joined first second = record { from = first.from; to = second.to; edge = first.edge }

-- no two pieces meet alone
abbrev pub NoneMeetAlone : List Piece → Type 0
NoneMeetAlone pieces = (first second : Piece) (others : List Piece) → MeetAlone pieces first second others → ⊥

-- merged pieces, in any order: two that meet alone become one, as long as there are any
pub data AreMerged : List Piece → List Piece → Type 0 where
  all_joined : {pieces merged : List Piece} → NoneMeetAlone pieces → IsPermutation pieces merged
      → AreMerged pieces merged
  two_join : {pieces merged : List Piece} (first second : Piece) (others : List Piece)
      → MeetAlone pieces first second others
      → AreMerged (joined first second ∷ others) merged → AreMerged pieces merged
