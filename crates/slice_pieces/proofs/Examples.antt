-- Worked examples of the definitions: spots over several divisors, ends that meet, a piece along an edge.
use Rattle.std.proofs.Common.{◌≡◌, true, false, List, [], ◌∷◌, ℤ, pos, refl}
use Rattle.scad_geom.specs.declared.point.Edge.{Edge}
use Rattle.scad_geom.specs.declared.level.Level.{Level}
use Rattle.scad_geom.specs.Line.{low, high, rise, run, offset, x_at, left_of}
use Rattle.scad_geom.specs.Balance.{starts_at, ends_at}
use Rattle.slice_pieces.specs.declared.piece.Spot.{Spot}
use Rattle.slice_pieces.specs.declared.piece.Piece.{Piece}
use Rattle.slice_pieces.specs.Spots.{point_of, is_same_spot}
use Rattle.slice_pieces.specs.Pieces.{ways_of}
use Rattle.slice_pieces.specs.Naming.{IsOnLine, LiesAlong}

abbrev level : ℤ → ℤ → Level
level n d = record { n = n; d = d }

abbrev spot : ℤ → ℤ → Spot
spot x y = record { at = level y (pos 1); x = x; run = 1 }

-- an upright way of length 2, once as a whole and once from half its height
abbrev two_pieces : List Piece
two_pieces =
    record { from = spot (pos 2) (pos 0); to = record { at = level (pos 2) (pos 2); x = pos 8; run = 2 }; edge = 1 }
    ∷ record { from = record { at = level (pos 3) (pos 3); x = pos 6; run = 1 }; to = spot (pos 2) (pos 2); edge = 1 }
    ∷ []

-- the first ends at (2, 1), the second starts there, over other divisors
ends_once : ends_at (record { x = pos 2; y = pos 1; d = pos 1 }) (ways_of two_pieces) ≡ 1
ends_once = refl

starts_once : starts_at (record { x = pos 2; y = pos 1; d = pos 1 }) (ways_of two_pieces) ≡ 1
starts_once = refl

starts_below : starts_at (record { x = pos 2; y = pos 0; d = pos 1 }) (ways_of two_pieces) ≡ 1
starts_below = refl

ends_nowhere_else : ends_at (record { x = pos 2; y = pos 0; d = pos 1 }) (ways_of two_pieces) ≡ 0
ends_nowhere_else = refl

-- the middle of the way, over two divisors and two runs
abbrev middle_once : Spot
middle_once = record { at = level (pos 2) (pos 2); x = pos 8; run = 2 }

middles_are_same : is_same_spot middle_once (record { at = level (pos 3) (pos 3); x = pos 6; run = 1 }) ≡ true
middles_are_same = refl

ends_differ : is_same_spot (spot (pos 2) (pos 0)) middle_once ≡ false
ends_differ = refl

-- an edge that rises by two for each one to the right, and a piece along it
abbrev slope : Edge
slope = record { a = record { x = pos 0; y = pos 0 }; b = record { x = pos 2; y = pos 4 } }

on_slope : IsOnLine slope (point_of (record { at = level (pos 3) (pos 1); x = pos 3; run = 2 }))
unfolding low high rise run offset x_at left_of
on_slope = refl

from_start : IsOnLine slope (point_of (spot (pos 0) (pos 0)))
unfolding low high rise run offset x_at left_of
from_start = refl

along_slope : LiesAlong slope (record {
  from = spot (pos 0) (pos 0);
  to
      = record { at = level (pos 3) (pos 1); x = pos 3; run = 2 };
  edge = 0;
})
along_slope = record { length = refl; from = from_start; to = on_slope }
