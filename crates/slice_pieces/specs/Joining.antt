-- What joins pieces one after another: pieces that go on from others, and those that go on nowhere.
use Rattle.std.specs.Prelude.{◌≡◌, true, false, List, All}
use Rattle.scad_geom.specs.Balance.{starts_at, ends_at}
use Rattle.slice_pieces.specs.declared.piece.Spot.{Spot}
use Rattle.slice_pieces.specs.declared.piece.Piece.{Piece}
use Rattle.slice_pieces.specs.Spots.{point_of, is_same_spot}
use Rattle.slice_pieces.specs.Pieces.{ways_of}

-- r goes on from q: it has the same name, starts where q ends and doesn't end there
pub record GoesOn (q r : Piece) : Type 0 where
  pub name : q.edge ≡ r.edge
  pub meet : is_same_spot q.to r.from ≡ true
  pub away : is_same_spot q.to r.to ≡ false

-- one piece of a list ends at a spot and one starts there
pub record IsPassedOnce (pieces : List Piece) (s : Spot) : Type 0 where
  pub one_ends : ends_at (point_of s) (ways_of pieces) ≡ 1
  pub one_starts : starts_at (point_of s) (ways_of pieces) ≡ 1

-- a piece isn't joined to one of the list: none goes on from it, or others start or end there
abbrev pub IsStuck : List Piece → Piece → Type 0
IsStuck pieces q = IsPassedOnce pieces q.to → All (λ r. GoesOn q r → ⊥) pieces
