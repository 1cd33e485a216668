-- The winding number of two lists of pieces is the sum of theirs.
use Rattle.std.proofs.Common.{◌≡◌, Bool, List, [], ◌∷◌, ◌++◌, sym, ap, ◌∙◌}
use lib.IntN.{ℤ, ◌+ℤ◌, +ℤ_idl, +ℤ_assoc}
use Rattle.scad_geom.specs.Point.{Point}
use Rattle.scad_geom.specs.Winding.{turn}
use Rattle.slice_pieces.specs.declared.piece.Piece.{Piece}
use Rattle.slice_pieces.specs.Spots.{point_of}
use Rattle.slice_pieces.specs.Pieces.{wind_pieces}

pub wind_pieces-append : (above right : Bool) (p : Point) (qs rs : List Piece)
    → wind_pieces above right p (qs ++ rs) ≡ wind_pieces above right p qs +ℤ wind_pieces above right p rs
wind_pieces-append above right p [] rs = sym (+ℤ_idl (wind_pieces above right p rs))
wind_pieces-append above right p (q ∷ qs) rs
    = ap (λ (z : ℤ). turn above right p (point_of q.from) (point_of q.to) +ℤ z)
    (wind_pieces-append above right p qs rs)
    ∙ sym (+ℤ_assoc (turn above right p (point_of q.from) (point_of q.to)) (wind_pieces above right p qs)
    (wind_pieces above right p rs))
