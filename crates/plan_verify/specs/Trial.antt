-- Sides near to a move, and apart from it.
use Rattle.std.specs.Prelude.{pos}
use Rattle.scad_geom.specs.declared.point.Edge.{Edge}
use Rattle.scad_geom.specs.Limits.{coordinate_limit}
use Rattle.scad_geom.specs.Within.{IsEdgeWithin}
use Rattle.scad_geom.specs.Point.{whole}
use Rattle.scad_ring.specs.Octagon.{octagon}
use Rattle.scad_ring.specs.Nearness.{Closed}
use Rattle.scad_near.specs.Edges.{ComeNear, AreApart}
use Rattle.plan_verify.specs.declared.trial.Trial.{Trial}
use Rattle.plan_verify.specs.Extent.{Reaches}

-- its rectangle holds whatever can be near to it
pub record IsTrial (t : Trial) : Type 0 where
  pub line : IsEdgeWithin coordinate_limit t.line
  pub reach : Reaches (pos t.s) t.reach t.line

-- a point of the side is near to a point of the move
abbrev pub ComesNear : Trial → Edge → Type 0
ComesNear t e = ComeNear Closed (octagon (pos t.s) (pos t.u)) (whole t.line.a) (whole t.line.b) (whole e.a) (whole e.b)

-- no point of the side is near to any point of the move
abbrev pub IsApart : Trial → Edge → Type 0
IsApart t e = AreApart Closed (octagon (pos t.s) (pos t.u)) (whole t.line.a) (whole t.line.b) (whole e.a) (whole e.b)
