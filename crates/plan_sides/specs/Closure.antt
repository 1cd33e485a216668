-- The sides of outlines are closed.
use Rattle.std.specs.Prelude.{List, flat_map}
use Rattle.scad_geom.specs.declared.point.Pt.{Pt}
use Rattle.scad_geom.specs.Segment.{segments}
use Rattle.scad_geom.specs.Loop.{sides}
use Rattle.scad_geom.specs.Balance.{IsBalanced}

-- ---- the law
-- At each point as many sides of outlines start as end.
abbrev pub SidesAreBalanced : Type 0
SidesAreBalanced = (outlines : List (List Pt)) → IsBalanced (segments (flat_map sides outlines))
