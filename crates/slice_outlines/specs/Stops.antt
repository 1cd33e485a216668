-- The places of a stretch.
use Rattle.std.specs.Prelude.{◌≡◌, List, [], ◌∷◌, map, true, All}
use Rattle.scad_geom.specs.declared.level.Level.{Level}
use Rattle.scad_geom.specs.declared.level.LeafEdge.{LeafEdge}
use Rattle.slice_bundles.specs.Bundles.{edge_at}
use Rattle.slice_pieces.specs.declared.piece.Spot.{Spot}
use Rattle.slice_border.specs.Pieces.{whole_spot, passes_at}
use Rattle.slice_outlines.specs.declared.mark.Mark.{Mark}
use Rattle.slice_outlines.specs.declared.flat.Flat.{Flat}
use Rattle.slice_outlines.specs.Marks.{spot_at}

-- those of strands, and of the ends of flat edges
abbrev pub mark_spots : List LeafEdge → Level → List Mark → List Spot
mark_spots es l ms = map (spot_at es l) ms

abbrev pub flat_spots : Level → List Flat → List Spot
flat_spots l [] = []
flat_spots l (f ∷ fs) = whole_spot f.left l ∷ (whole_spot f.right l ∷ flat_spots l fs)

-- the edges of the names meet a height
abbrev pub AllPass : List LeafEdge → Level → List Mark → Type 0
AllPass es l ms = All (λ m. passes_at (edge_at es m.name) l ≡ true) ms
