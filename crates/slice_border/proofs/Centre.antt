-- At the centres of cells, by plain winding numbers.
use Rattle.std.proofs.Common.{◌≡◌, true, List, refl, ap, ◌∙◌, arith}
use lib.IntN.{ℤ, pos}
use lib.Signed.{◌<ℤ◌}
use Rattle.std.proofs.lemmas.Int.{ints}
use Rattle.scad_geom.specs.declared.level.LeafEdge.{LeafEdge}
use Rattle.scad_geom.specs.declared.shape.Shape.{Shape}
use Rattle.scad_geom.specs.Winding.{counted}
use Rattle.scad_geom.specs.Shape.{is_in_by, is_in}
use Rattle.slice_pieces.specs.declared.piece.Piece.{Piece}
use Rattle.slice_pieces.specs.Pieces.{wind_pieces}
use Rattle.slice_border.specs.Pieces.{ArePieces}
use Rattle.scad_geom.specs.Half.{centre}
use Rattle.slice_border.specs.Centre.{holds_centre}
use Rattle.slice_border.proofs.Walk.{pieces_wind}

pub centres_are_held : (es : List LeafEdge) (shape : Shape) (i j : ℤ)
    → is_in es shape (centre i j) ≡ holds_centre es
    shape i j
unfolding is_in is_in_by
centres_are_held es shape i j = refl

held_above : (es : List LeafEdge) (shape : Shape) (i j : ℤ)
    → is_in_by true true es shape (centre i j) ≡ holds_centre es
    shape i j
unfolding is_in_by
held_above es shape i j = refl

pub centres_are_wound_once : (es : List LeafEdge) (shape : Shape) (pieces : List Piece) → ArePieces es shape pieces
    → (i j : ℤ)
    → wind_pieces true true (centre i j) pieces ≡ counted (holds_centre es shape i j)
centres_are_wound_once es shape pieces h i j =
    let two : pos 0 <ℤ pos 2 = omega (arith, ints) in
    pieces_wind es shape pieces h true true (centre i j) two ∙ ap counted (held_above es shape i j)
