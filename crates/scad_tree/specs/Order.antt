-- The surfaces of a tree in tree order, in which its leaves are numbered from 0.
use Rattle.std.specs.Prelude.{ℕ, List, [], ◌∷◌, ◌++◌, length}
use Rattle.scad_solid.specs.declared.triangle.Triangle.{Triangle}
use Rattle.scad_tree.specs.Solid.{Solid, Solids, nothing, surface, union, intersection, difference, none, member}

abbrev mutual
  -- of an operation those of its parts, one part after another
  pub surfaces : Solid → List (List Triangle)
  surfaces nothing = []
  surfaces (surface ts) = ts ∷ []
  surfaces (union ms) = all_surfaces ms
  surfaces (intersection ms) = all_surfaces ms
  surfaces (difference first rest) = surfaces first ++ all_surfaces rest

  pub all_surfaces : Solids → List (List Triangle)
  all_surfaces none = []
  all_surfaces (member s rest) = surfaces s ++ all_surfaces rest

-- how many leaves a tree has
abbrev pub leaves : Solid → ℕ
leaves s = length (surfaces s)

abbrev pub all_leaves : Solids → ℕ
all_leaves ms = length (all_surfaces ms)
