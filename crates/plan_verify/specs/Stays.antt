-- Moves that stay inside the outlines of their layer by the clearance.
use Rattle.std.specs.Prelude.{◌≡◌, ◌≢◌, ℕ, ◌/◌, List, flat_map, pos, ◌-ℤ◌, ◌<ℤ◌, All}
use Rattle.std.specs.List.{Any, AllByRecursion}
use Rattle.scad_geom.specs.declared.point.Edge.{Edge}
use Rattle.scad_geom.specs.Limits.{coordinate_limit}
use Rattle.scad_geom.specs.Within.{IsWithin}
use Rattle.scad_geom.specs.Point.{Point, whole}
use Rattle.scad_geom.specs.Segment.{segments}
use Rattle.scad_geom.specs.Loop.{sides}
use Rattle.scad_geom.specs.Winding.{wind}
use Rattle.winding_laws.specs.Region.{HalfPlane}
use Rattle.winding_laws.specs.Points.{IsOn}
use Rattle.scad_ring.specs.Octagon.{reach, octagon}
use Rattle.scad_ring.specs.Nearness.{Closed, IsClear}
use Rattle.cli_text.specs.Cli.{Layer}
use Rattle.gcode_text.specs.declared.machine.Move.{Move}

-- the clearance of a distance c: the octagon of c, less one micrometre along each axis and two along the sum of both. It
-- holds the differences (dx, dy) with |dx| and |dy| at most c - 1 and |dx| + |dy| at most reach c - 2
abbrev pub clearance : ℕ → List HalfPlane
clearance c = octagon (pos c -ℤ pos 1) (pos (reach c) -ℤ pos 2)

-- no point of a side differs from q by a point of the clearance of c, and the sides wind round q
pub record KeepsWithin (edges : List Edge) (c : ℕ) (q : Point) : Type 0 where
  pub clear : All (λ e. IsClear Closed (clearance c) q (whole e.a) (whole e.b)) edges
  pub inside : wind q (segments edges) ≢ pos 0

-- each point of an edge keeps the clearance of c from each side, and the sides wind round it
abbrev pub KeepsClear : List Edge → ℕ → Edge → Type 0
KeepsClear edges c e = (q : Point) → pos 0 <ℤ q.d → IsOn (whole e.a) (whole e.b) q → KeepsWithin edges c q

-- a move as it is seen from above
abbrev pub from_above : Move → Edge
from_above m = record { a = record { x = m.from.x; y = m.from.y }; b = record { x = m.to.x; y = m.to.y } }

-- the layer lies at the height where the move starts, and each point of the move keeps the clearance of half the width of a
-- line from each side of the layer's outlines, which wind round it
pub record IsInLayer (width : ℕ) (m : Move) (layer : Layer) : Type 0 where
  pub height : pos layer.z ≡ m.from.z
  pub clear : KeepsClear (flat_map sides layer.loops) (width / 2) (from_above m)

-- a move is level, and stays inside the outlines of a layer at its height
pub record Stays (layers : List Layer) (width : ℕ) (m : Move) : Type 0 where
  pub level : m.from.z ≡ m.to.z
  pub layer : Any (IsInLayer width m) layers

-- all points of the outlines are within the limit of coordinates, as in each file that is read
abbrev pub AreWithin : List Layer → Type 0
AreWithin layers = AllByRecursion (λ layer. AllByRecursion (λ points. AllByRecursion (IsWithin coordinate_limit) points) layer.loops) layers
