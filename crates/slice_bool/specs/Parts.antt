-- The parts of a border's list of pieces: those on a level, and those between two levels.
use Rattle.std.specs.Prelude.{List, [], ◌∷◌, ◌++◌, ℕ, ◌≡◌}
use Rattle.scad_geom.specs.declared.level.Level.{Level}
use Rattle.scad_geom.specs.declared.level.LeafEdge.{LeafEdge}
use Rattle.scad_geom.specs.declared.shape.Shape.{Shape}
use Rattle.slice_bundles.specs.Bundles.{AreBundles}
use Rattle.slice_pieces.specs.declared.piece.Spot.{Spot}
use Rattle.slice_pieces.specs.declared.piece.Piece.{Piece}
use Rattle.slice_border.specs.Pieces.{AreStops, flat_pieces, slab_pieces}

-- the pieces on a level
abbrev pub AreOnLevel : List LeafEdge → Shape → Level → List Piece → Type 0
AreOnLevel edges shape at pieces = (stops : List Spot) × AreStops edges at stops
    × (pieces ≡ flat_pieces edges shape stops)

-- the pieces between two levels
abbrev pub AreBetweenLevels : List LeafEdge → Shape → Level → Level → List Piece → Type 0
AreBetweenLevels edges shape l u pieces = (bundles : List (List ℕ)) × AreBundles edges l u bundles
    × (pieces ≡ slab_pieces edges shape l u bundles)

-- the pieces on the first of these levels, and between it and the next
abbrev pub AreUpToNext : List LeafEdge → Shape → List Level → List Piece → Type 0
AreUpToNext edges shape [] pieces = ⊥
AreUpToNext edges shape (l ∷ []) pieces = AreOnLevel edges shape l pieces
AreUpToNext edges shape (l ∷ (u ∷ ls)) pieces =
    (flats : List Piece) × (slabs : List Piece) × AreOnLevel edges shape l flats
    × AreBetweenLevels edges shape l u slabs × (pieces ≡ flats ++ slabs)

-- a list with such pieces behind it
abbrev pub Extends : (List Piece → Type 0) → List Piece → List Piece → Type 0
Extends P old new = (more : List Piece) × P more × (new ≡ old ++ more)
