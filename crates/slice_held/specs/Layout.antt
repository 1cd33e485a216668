-- The cells of a shape, each operation before its members and these in their order.
use Rattle.std.specs.Prelude.{Bool, true, false, not, List, [], ◌∷◌, ◌++◌, ℕ, ◌+◌, length}
use Rattle.scad_geom.specs.declared.shape.Shape.{Shape, Empty, Leaf, Union', Inter', Diff', Row_of-Shape, end_of-Shape, more_of-Shape}
use Rattle.scad_geom.specs.Shape.{has_member}
use Rattle.slice_held.specs.declared.cell.Cell.{Cell}

-- the cell of a leaf, by its number and one, or of an operation, which counts nothing yet
abbrev pub blank : ℕ → Bool → Bool → ℕ → Cell
blank parent raises any leaf = record { parent = parent; leaf = leaf; raises = raises; any = any; count = 0 }

-- the cells of a shape from a number on, under the operation of a number less one. A union holds where the count of its
-- members that hold isn't 0; an intersection and a difference where that of what stands against them is. An empty
-- intersection is as a union without members
abbrev mutual
  pub cells_of : ℕ → Bool → ℕ → Shape → List Cell
  cells_of parent raises at Empty = blank parent raises true 0 ∷ []
  cells_of parent raises at (Leaf leaf) = blank parent raises true (leaf + 1) ∷ []
  cells_of parent raises at (Union' list members) = blank parent raises true 0 ∷ cells_of_row (at + 1) true
      (at + 1) members
  cells_of parent raises at (Inter' list members) = blank parent raises (not (has_member members)) 0
      ∷ cells_of_row (at + 1) false (at + 1) members
  cells_of parent raises at (Diff' box first list rest) = blank parent raises false 0
      ∷ (cells_of (at + 1) false (at + 1) first
      ++ cells_of_row (at + 1) true (at + 1 + length (cells_of (at + 1) false (at + 1) first)) rest)

  pub cells_of_row : {m : _} → ℕ → Bool → ℕ → Row_of-Shape m → List Cell
  cells_of_row parent raises at end_of-Shape = []
  cells_of_row parent raises at (more_of-Shape member rest) = cells_of parent raises at member
      ++ cells_of_row parent raises (at + length (cells_of parent raises at member)) rest

-- the same of a list of members
abbrev pub cells_of_all : ℕ → Bool → ℕ → List Shape → List Cell
cells_of_all parent raises at [] = []
cells_of_all parent raises at (member ∷ rest) = cells_of parent raises at member
    ++ cells_of_all parent raises (at + length (cells_of parent raises at member)) rest
