-- The height that a tree reaches, and how many layers lie below it.
use Rattle.std.specs.Prelude.{ℕ, Bool, Option, Some, None, ℤ, unsigned_abs, count_by}
use Rattle.std.specs.Int.{int_min}
use Rattle.std.specs.List.{range_with_len}
use Rattle.scad_solid.specs.Height.{highest_of, higher_of}
use Rattle.scad_solid.specs.Cut.{plane_of, is_above}
use Rattle.scad_tree.specs.Solid.{Solid, Solids, nothing, surface, union, intersection, difference, none, member}

-- the lower of two heights, either of which may be missing
abbrev pub lower_of : Option ℤ → Option ℤ → Option ℤ
lower_of None h = h
lower_of (Some z) None = Some z
lower_of (Some z) (Some w) = Some (int_min z w)

abbrev mutual
  -- a height that no point of a tree passes: a surface's highest corner, the greatest height of a union's members, the
  -- least of an intersection's, and that of what a difference takes from
  pub top_of : Solid → Option ℤ
  top_of nothing = None
  top_of (surface ts) = highest_of ts
  top_of (union ms) = greatest ms
  top_of (intersection ms) = least ms
  top_of (difference first rest) = top_of first

  pub greatest : Solids → Option ℤ
  greatest none = None
  greatest (member s rest) = higher_of (top_of s) (greatest rest)

  pub least : Solids → Option ℤ
  least none = None
  least (member s rest) = lower_of (top_of s) (least rest)

-- the plane of a layer lies below a height
abbrev pub is_below_top : ℤ → ℕ → ℕ → Bool
is_below_top z h layer = is_above (plane_of layer h) z

-- how many layers of the height h, which is at least 1, have their plane below a height; a layer's plane lies above as many
-- micrometres as there are layers below it
unfoldable pub layers_below : ℤ → ℕ → ℕ
layers_below z h = count_by (is_below_top z h) (range_with_len 0 (unsigned_abs z))

abbrev pub layers_to : Option ℤ → ℕ → ℕ
layers_to None h = 0
layers_to (Some z) h = layers_below z h

-- how many layers of the height h a tree has
abbrev pub layers : Solid → ℕ → ℕ
layers s h = layers_to (top_of s) h
