-- Laws of the clearance that walls keep.
use Rattle.std.specs.Prelude.{ℕ, ◌≤◌, List}
use Rattle.scad_geom.specs.declared.point.Pt.{Pt}
use Rattle.plan_walls.specs.Walls.{AreWalls}
use Rattle.plan_walls.specs.Clearance.{StayApart, KeepClear}

-- Each point of the walls at a distance c, from 1 micrometre on, keeps the clearance of c from each side of the outlines
-- (that of 1 micrometre has no point).
abbrev pub WallsStayApart : Type 0
WallsStayApart = (c : ℕ) (outlines loops : List (List Pt)) → 1 ≤ c → AreWalls c outlines loops
    → StayApart outlines c loops

-- From 2 micrometres on each point of them also lies inside the outlines.
abbrev pub WallsKeepClear : Type 0
WallsKeepClear = (c : ℕ) (outlines loops : List (List Pt)) → 2 ≤ c → AreWalls c outlines loops
    → KeepClear outlines c loops
