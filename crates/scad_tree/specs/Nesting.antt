-- How deep the parts of a tree lie in one another.
use Rattle.std.specs.Prelude.{ℕ, ◌+◌, max}
use Rattle.scad_tree.specs.Solid.{Solid, Solids, nothing, surface, union, intersection, difference, none, member}

abbrev mutual
  -- 1 at a surface, and one more at each operation than at its deepest part; the empty tree has none
  pub nesting : Solid → ℕ
  nesting nothing = 0
  nesting (surface ts) = 1
  nesting (union ms) = 1 + deepest ms
  nesting (intersection ms) = 1 + deepest ms
  nesting (difference first rest) = 1 + max (nesting first) (deepest rest)

  pub deepest : Solids → ℕ
  deepest none = 0
  deepest (member s rest) = max (nesting s) (deepest rest)
