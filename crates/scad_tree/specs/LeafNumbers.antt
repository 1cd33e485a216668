-- Trees over numbered leaves, and the one that numbers the leaves of a tree from 0 in tree order.
use Rattle.std.specs.Prelude.{ℕ, ◌+◌, List, [], ◌∷◌, ◌++◌, slice_index_or}
use Rattle.scad_geom.specs.declared.shape.Shape.{Shape, Empty, Leaf, Union', Inter', Diff', Row_of-Shape, end_of-Shape, more_of-Shape}
use Rattle.scad_solid.specs.declared.triangle.Triangle.{Triangle}
use Rattle.scad_tree.specs.Solid.{Solid, Solids, nothing, surface, union, intersection, difference, none, member}
use Rattle.scad_tree.specs.Order.{leaves}

-- a tree over numbers: nothing, a leaf, a union, an intersection, the first without the rest
mutual
  pub data Numbered : Type 0 where
    blank : Numbered
    leaf : ℕ → Numbered
    join : Numbereds → Numbered
    meet : Numbereds → Numbered
    minus : Numbered → Numbereds → Numbered

  pub data Numbereds : Type 0 where
    end : Numbereds
    next : Numbered → Numbereds → Numbereds

abbrev mutual
  -- that of a tree whose first leaf has this number, the others counted on in tree order
  pub numbered_from : ℕ → Solid → Numbered
  numbered_from n nothing = blank
  numbered_from n (surface ts) = leaf n
  numbered_from n (union ms) = join (all_numbered n ms)
  numbered_from n (intersection ms) = meet (all_numbered n ms)
  numbered_from n (difference first rest) = minus (numbered_from n first) (all_numbered (n + leaves first) rest)

  pub all_numbered : ℕ → Solids → Numbereds
  all_numbered n none = end
  all_numbered n (member s rest) = next (numbered_from n s) (all_numbered (n + leaves s) rest)

abbrev mutual
  -- that of a shape
  pub numbered_of : Shape → Numbered
  numbered_of Empty = blank
  numbered_of (Leaf n) = leaf n
  numbered_of (Union' list members) = join (row_of members)
  numbered_of (Inter' list members) = meet (row_of members)
  numbered_of (Diff' box first list rest) = minus (numbered_of first) (row_of rest)

  pub row_of : {m : _} → Row_of-Shape m → Numbereds
  row_of end_of-Shape = end
  row_of (more_of-Shape s rest) = next (numbered_of s) (row_of rest)

-- those of a list of shapes, before more of them
abbrev pub shapes_onto : List Shape → Numbereds → Numbereds
shapes_onto [] more = more
shapes_onto (s ∷ all) more = next (numbered_of s) (shapes_onto all more)

abbrev mutual
  -- the numbers of the leaves, in tree order
  pub numbers : Numbered → List ℕ
  numbers blank = []
  numbers (leaf n) = n ∷ []
  numbers (join all) = all_numbers all
  numbers (meet all) = all_numbers all
  numbers (minus first rest) = numbers first ++ all_numbers rest

  pub all_numbers : Numbereds → List ℕ
  all_numbers end = []
  all_numbers (next t rest) = numbers t ++ all_numbers rest

-- the surface with a number; one that isn't there has no triangles
abbrev pub surface_at : List (List Triangle) → ℕ → List Triangle
surface_at all n = slice_index_or all n []
