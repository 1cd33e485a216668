-- The edges between two neighbouring heights, from left to right, with those that coincide in one bundle.
use Rattle.std.specs.Prelude.{Bool, ◌&&◌, if◌then◌else◌, List, [], ◌∷◌, ℕ, ◌+◌, ◌≤◌, ⊤, pos, ◌*ℤ◌, int_lt, int_le, slice_index_or}
use Rattle.std.specs.List.{AllByRecursion, concat}
use Rattle.std.specs.List.Sorted.{IsPermutation}
use Rattle.scad_geom.specs.declared.point.Edge.{Edge}
use Rattle.scad_geom.specs.declared.level.Level.{Level}
use Rattle.scad_geom.specs.declared.level.LeafEdge.{LeafEdge}
use Rattle.scad_geom.specs.Line.{low, high, rise}
use Rattle.scad_geom.specs.EdgeOrder.{IsBefore, AreAligned}

-- what stands for an edge past the end of a list
abbrev pub no_edge : LeafEdge
no_edge = record {
  leaf = 0;
  edge = record { a = record { x = pos 0; y = pos 0 }; b = record { x = pos 0; y = pos 0 } };
}

-- the edge of a number
abbrev pub edge_at : List LeafEdge → ℕ → Edge
edge_at edges k = (slice_index_or edges k no_edge).edge

-- whether an edge isn't flat and reaches both heights
unfoldable pub reaches : Edge → Level → Level → Bool
reaches e lower upper = int_lt (pos 0) (rise e)
    && (int_le ((low e).y *ℤ lower.d) lower.n && int_le upper.n ((high e).y *ℤ upper.d))

-- the numbers of the edges that reach both heights, counted from the first number on
abbrev pub reaching : ℕ → List LeafEdge → Level → Level → List ℕ
reaching k [] lower upper = []
reaching k (e ∷ es) lower upper = if reaches e.edge lower upper then k
    ∷ reaching (k + 1) es lower upper else reaching (k + 1) es lower upper

-- numbers none of which is greater than a later one
abbrev pub Ascends : List ℕ → Type 0
Ascends [] = ⊤
Ascends (k ∷ ks) = AllByRecursion (λ j. k ≤ j) ks × Ascends ks

-- the numbers, ascending, of edges that coincide above a height
abbrev pub IsBundle : List LeafEdge → Level → List ℕ → Type 0
IsBundle edges at [] = ⊥
IsBundle edges at (k ∷ ks) = Ascends (k ∷ ks)
    × AllByRecursion (λ j. AreAligned at (edge_at edges k) (edge_at edges j)) ks

-- the edges of one bundle lie before those of another, by the first of each
abbrev pub Precedes : List LeafEdge → Level → List ℕ → List ℕ → Type 0
Precedes edges at [] c = ⊥
Precedes edges at (k ∷ ks) [] = ⊥
Precedes edges at (k ∷ ks) (j ∷ js) = IsBefore at (edge_at edges k) (edge_at edges j)

-- bundles from left to right
abbrev pub AreRanked : List LeafEdge → Level → List (List ℕ) → Type 0
AreRanked edges at [] = ⊤
AreRanked edges at (b ∷ bs) = IsBundle edges at b × AllByRecursion (Precedes edges at b) bs × AreRanked edges at bs

-- the edges that reach two heights, each once: in the order of their x at the lower one and then of their slope, those
-- that are equal in both in one bundle
pub record AreBundles (edges : List LeafEdge) (lower upper : Level) (bundles : List (List ℕ)) : Type 0 where
  pub members : IsPermutation (reaching 0 edges lower upper) (concat bundles)
  pub ranked : AreRanked edges lower bundles
