-- Opposite edges cancel, one for one.
use Rattle.std.specs.Prelude.{◌≡◌, List, [], ◌∷◌, ◌++◌, map, ⊤, ℕ, ◌<◌, length, slice_index_or, All}
use Rattle.std.specs.List.Sorted.{IsPermutation}
use Rattle.scad_geom.specs.declared.point.Edge.{Edge}
use Rattle.winding_laws.specs.Edges.{turned}

-- no edge of a list is another one's turned
abbrev pub NoneOpposite : List Edge → Type 0
NoneOpposite [] = ⊤
NoneOpposite (e ∷ es) = All (λ f. f ≡ turned e → ⊥) es × NoneOpposite es

-- what is left of edges, in any order, where pairs of opposite ones are taken out until none are opposite
pub record AreCancelled (edges left : List Edge) : Type 0 where
  pub pairs : List Edge
  pub taken : IsPermutation edges (left ++ (pairs ++ map turned pairs))
  pub none : NoneOpposite left

-- at this place of a list stands the edge that runs the other way
pub record IsOppositeAt (e : Edge) (edges : List Edge) (i : ℕ) : Type 0 where
  pub there : i < length edges
  pub opposite : (d : Edge) → slice_index_or edges i d ≡ turned e
