-- The edges that meet a height.
use Rattle.std.specs.Prelude.{Bool, ◌&&◌, if◌then◌else◌, List, [], ◌∷◌, ℕ, ◌+◌, ◌*ℤ◌, int_le}
use Rattle.scad_geom.specs.declared.point.Edge.{Edge}
use Rattle.scad_geom.specs.declared.level.Level.{Level}
use Rattle.scad_geom.specs.declared.level.LeafEdge.{LeafEdge}
use Rattle.scad_geom.specs.Line.{low, high}

-- whether an edge, flat or not, meets a height
unfoldable pub touches : Edge → Level → Bool
touches e at = int_le ((low e).y *ℤ at.d) at.n && int_le at.n ((high e).y *ℤ at.d)

-- the numbers of the edges that meet a height, counted from the first number on
abbrev pub touching : ℕ → List LeafEdge → Level → List ℕ
touching k [] at = []
touching k (e ∷ es) at = if touches e.edge at then k ∷ touching (k + 1) es at else touching (k + 1) es at
