-- The flat edges that lie on a level.
use Rattle.std.specs.Prelude.{if◌then◌else◌, List, [], ◌∷◌, ℕ, ◌+◌, slice_index_or, Option, None, Some}
use Rattle.scad_geom.specs.declared.level.Level.{Level}
use Rattle.scad_geom.specs.declared.level.LeafEdge.{LeafEdge}
use Rattle.slice_bundles.specs.Bundles.{no_edge}
use Rattle.slice_pieces.specs.declared.piece.Spot.{Spot}
use Rattle.slice_border.specs.Pieces.{is_flat_at, covers}

-- the numbers of the flat edges that lie on a level, counted from the first number on
abbrev pub flats_from : ℕ → List LeafEdge → Level → List ℕ
flats_from k [] at = []
flats_from k (e ∷ es) at = if is_flat_at e.edge at then k ∷ flats_from (k + 1) es at else flats_from (k + 1) es at

-- the first of these numbers whose edge covers the stretch between two spots
abbrev pub first_cover : List LeafEdge → Spot → Spot → List ℕ → Option ℕ
first_cover edges s t [] = None
first_cover edges s t (k ∷ ks) = if covers s t (slice_index_or edges k no_edge) then Some k else first_cover edges s t
    ks
