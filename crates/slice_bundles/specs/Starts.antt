-- The starts of edges, from low to high, and how far they have begun at a height.
use Rattle.std.specs.Prelude.{Bool, if◌then◌else◌, List, [], ◌∷◌, map, ℕ, ◌+◌, ◌<◌, ◌≡◌, length, ⊤, ◌*ℤ◌, ◌≤ℤ◌, int_le, All}
use Rattle.scad_geom.specs.declared.level.Level.{Level}
use Rattle.scad_geom.specs.declared.level.LeafEdge.{LeafEdge}
use Rattle.scad_geom.specs.Line.{low}
use Rattle.slice_bundles.specs.declared.start.Start.{Start}
use Rattle.slice_bundles.specs.Bundles.{edge_at}

abbrev pub numbers_of : List Start → List ℕ
numbers_of ss = map (λ s. s.number) ss

-- the numbers of all edges, counted from the first number on
abbrev pub numbers_from : ℕ → List LeafEdge → List ℕ
numbers_from k [] = []
numbers_from k (e ∷ es) = k ∷ numbers_from (k + 1) es

abbrev pub all_numbers : List LeafEdge → List ℕ
all_numbers edges = numbers_from 0 edges

-- the start of an edge of the list
pub record IsStartOf (edges : List LeafEdge) (s : Start) : Type 0 where
  pub there : s.number < length edges
  pub y : s.y ≡ (low (edge_at edges s.number)).y

abbrev pub AreStarts : List LeafEdge → List Start → Type 0
AreStarts edges ss = All (IsStartOf edges) ss

-- none lies higher than the next
abbrev pub AreRising : List Start → Type 0
AreRising [] = ⊤
AreRising (s ∷ []) = ⊤
AreRising (s ∷ (t ∷ ss)) = (s.y ≤ℤ t.y) × AreRising (t ∷ ss)

-- whether an edge begins at or below a height
abbrev pub is_begun : Level → Start → Bool
is_begun at s = int_le (s.y *ℤ at.d) at.n

-- the first starts, up to one that hasn't begun; that and those behind it
abbrev pub begun_at : Level → List Start → List Start
begun_at at [] = []
begun_at at (s ∷ ss) = if is_begun at s then s ∷ begun_at at ss else []

abbrev pub pending_at : Level → List Start → List Start
pending_at at [] = []
pending_at at (s ∷ ss) = if is_begun at s then pending_at at ss else s ∷ ss
