-- Trees whose surfaces bound solids.
use Rattle.std.specs.Prelude.{IsTrue, All}
use Rattle.scad_solid.specs.Surface.{is_closed}
use Rattle.scad_solid.specs.Solid.{IsSolid}
use Rattle.scad_tree.specs.Solid.{Solid}
use Rattle.scad_tree.specs.Order.{surfaces}

-- each surface of a tree is closed
abbrev pub AreClosed : Solid → Type 0
AreClosed s = All (λ ts. IsTrue (is_closed ts)) (surfaces s)

-- it is closed and in range
abbrev pub AreSolids : Solid → Type 0
AreSolids s = All IsSolid (surfaces s)
