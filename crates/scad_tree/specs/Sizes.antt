-- How many triangles the leaves of a tree have together; how many leaves it has is said in `Order`.
use Rattle.std.specs.Prelude.{ℕ, ◌+◌, length}
use Rattle.scad_tree.specs.Solid.{Solid, Solids, nothing, surface, union, intersection, difference, none, member}

abbrev mutual
  -- each surface has its own
  pub triangle_count : Solid → ℕ
  triangle_count nothing = 0
  triangle_count (surface ts) = length ts
  triangle_count (union ms) = triangle_counts ms
  triangle_count (intersection ms) = triangle_counts ms
  triangle_count (difference first rest) = triangle_count first + triangle_counts rest

  pub triangle_counts : Solids → ℕ
  triangle_counts none = 0
  triangle_counts (member s rest) = triangle_count s + triangle_counts rest
