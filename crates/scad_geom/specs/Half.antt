-- Which point a whole point stands for: itself, or the centre of the cell to its upper right.
use Rattle.std.specs.Prelude.{ℤ, pos, ◌+ℤ◌, ◌*ℤ◌}
use Rattle.scad_geom.specs.declared.point.Pt.{Pt}
use Rattle.scad_geom.specs.declared.half.Half.{Half}
use Rattle.scad_geom.specs.declared.half.Half.TheVariants.{Whole, Cell}
use Rattle.scad_geom.specs.Point.{Point, halves}

-- twice a coordinate of the point that is meant
abbrev pub doubled : Half → ℤ → ℤ
doubled Whole z = pos 2 *ℤ z
doubled Cell z = pos 2 *ℤ z +ℤ pos 1

-- the point that is meant
abbrev pub meant : Half → Pt → Point
meant half p = halves (doubled half p.x) (doubled half p.y)

-- the centre (i + 1/2, j + 1/2) of the cell at (i, j)
abbrev pub centre : ℤ → ℤ → Point
centre i j = halves (doubled Cell i) (doubled Cell j)
