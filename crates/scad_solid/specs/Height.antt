-- The greatest height of a surface's corners.
use Rattle.std.specs.Prelude.{List, [], ◌∷◌, Option, Some, None, ℤ}
use Rattle.std.specs.Int.{int_max}
use Rattle.scad_solid.specs.declared.triangle.Triangle.{Triangle}

-- the greatest height of a triangle's corners
abbrev pub top_of : Triangle → ℤ
top_of t = int_max (int_max t.a.z t.b.z) t.c.z

-- the higher of two heights, either of which may be missing
abbrev pub higher_of : Option ℤ → Option ℤ → Option ℤ
higher_of None h = h
higher_of (Some z) None = Some z
higher_of (Some z) (Some w) = Some (int_max z w)

-- the greatest height of all corners, where there is a triangle
abbrev pub highest_of : List Triangle → Option ℤ
highest_of [] = None
highest_of (t ∷ ts) = higher_of (Some (top_of t)) (highest_of ts)
