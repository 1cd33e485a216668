-- The sides in an index, and what its rectangles are.
use Rattle.std.specs.Prelude.{ℕ, ◌≤◌, List, [], ◌∷◌, ◌++◌, length, All}
use Rattle.std.specs.List.{AllByRecursion}
use Rattle.scad_geom.specs.declared.point.Edge.{Edge}
use Rattle.plan_verify.specs.declared.extent.Extent.{Extent}
use Rattle.plan_verify.specs.declared.index.Tree.{Tree, Few, Many'}
use Rattle.plan_verify.specs.Extent.{IsIn}

-- the sides, in their order
abbrev pub sides_in : Tree → List Edge
sides_in (Few extent list) = list.items
sides_in (Many' extent box first box' second) = sides_in first ++ sides_in second

abbrev pub extent_in : Tree → Extent
extent_in (Few extent list) = extent
extent_in (Many' extent box first box' second) = extent

-- a rectangle with the sides below it, and how many of them aren't in trees
pub record Node : Type 0 where
  pub extent : Extent
  pub sides : List Edge
  pub few : ℕ

abbrev pub nodes_in : Tree → List Node
nodes_in (Few extent list) = record { extent = extent; sides = list.items; few = length list.items } ∷ []
nodes_in (Many' extent box first box' second) =
    record { extent = extent; sides = sides_in first ++ sides_in second; few = 0 } ∷ (nodes_in first ++ nodes_in second)

-- the rectangle holds the sides, of which few aren't in trees
pub record IsNode (n : Node) : Type 0 where
  pub holds : All (IsIn n.extent) n.sides
  pub few : n.few ≤ 8

-- so it is throughout an index
abbrev pub IsBoxed : Tree → Type 0
IsBoxed t = AllByRecursion IsNode (nodes_in t)
