-- The text of a tree: a line for each node, two spaces further in than the operation that it is a part of.
use Rattle.std.specs.Prelude.{ℕ, zero, suc, ◌+◌, List, [], ◌++◌, length, codes}
use Rattle.std.specs.Fmt.{decimal}
use Rattle.scad_solid.specs.declared.triangle.Triangle.{Triangle}
use Rattle.scad_tree.specs.Solid.{Solid, Solids, nothing, surface, union, intersection, difference, none, member}
use Rattle.scad_tree.specs.Order.{leaves}

-- two spaces a level
abbrev pub indent : ℕ → List ℕ
indent zero = []
indent (suc level) = codes "  " ++ indent level

-- a line at a level
abbrev pub line : ℕ → List ℕ → List ℕ
line level text = indent level ++ text ++ codes "\n"

unfoldable pub empty_name : List ℕ
empty_name = codes "empty"

unfoldable pub union_name : List ℕ
union_name = codes "union"

unfoldable pub intersection_name : List ℕ
intersection_name = codes "intersection"

unfoldable pub difference_name : List ℕ
difference_name = codes "difference"

unfoldable pub triangles_end : List ℕ
triangles_end = codes " triangles"

-- `leaf i: t triangles`
abbrev pub leaf_text : ℕ → List Triangle → List ℕ
leaf_text leaf ts = codes "leaf " ++ decimal leaf ++ codes ": " ++ decimal (length ts) ++ triangles_end

abbrev mutual
  -- the lines of a tree at a level whose first leaf has this number; an operation's parts stand below it, one level on
  pub lines : ℕ → ℕ → Solid → List ℕ
  lines level leaf nothing = line level empty_name
  lines level leaf (surface ts) = line level (leaf_text leaf ts)
  lines level leaf (union ms) = line level union_name ++ all_lines (level + 1) leaf ms
  lines level leaf (intersection ms) = line level intersection_name ++ all_lines (level + 1) leaf ms
  lines level leaf (difference first rest) =
      line level difference_name ++ lines (level + 1) leaf first ++ all_lines (level + 1) (leaf + leaves first) rest

  pub all_lines : ℕ → ℕ → Solids → List ℕ
  all_lines level leaf none = []
  all_lines level leaf (member s rest) = lines level leaf s ++ all_lines level (leaf + leaves s) rest

-- the text of a tree
abbrev pub text_of : Solid → List ℕ
text_of s = lines 0 0 s
