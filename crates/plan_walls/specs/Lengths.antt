-- The sides of walls.
use Rattle.std.specs.Prelude.{ℕ, List, flat_map, All}
use Rattle.scad_geom.specs.declared.point.Pt.{Pt}
use Rattle.scad_geom.specs.Loop.{sides}
use Rattle.slice_loops.specs.Lengths.{HasLength}
use Rattle.plan_walls.specs.Walls.{AreWalls}

-- ---- the law
-- Each side of the loops of walls has a length.
abbrev pub WallsHaveLengths : Type 0
WallsHaveLengths =
    (c : ℕ) (outlines loops : List (List Pt)) → AreWalls c outlines loops → All HasLength (flat_map sides loops)
