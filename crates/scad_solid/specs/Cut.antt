-- How the plane of a layer cuts a surface, exactly.
use Rattle.std.specs.Prelude.{ℕ, ◌+◌, ◌*◌, ◌/◌, List, Bool, ◌&&◌, not, Option, Some, None, find, ℤ, pos, ◌+ℤ◌, ◌-ℤ◌, ◌*ℤ◌, int_lt}
use Rattle.std.specs.List.{filter_map}
use Rattle.scad_geom.specs.declared.point3.Pt3.{Pt3}
use Rattle.scad_geom.specs.Point.{Point}
use Rattle.scad_geom.specs.Segment.{Segment}
use Rattle.scad_geom.specs.Sign.{is_zero}
use Rattle.scad_geom.specs.Winding.{wind}
use Rattle.scad_solid.specs.declared.side.Side.{Side}
use Rattle.scad_solid.specs.declared.triangle.Triangle.{Triangle}
use Rattle.scad_solid.specs.Surface.{sides_of}

-- twice the height of the plane of a layer: it stands half a micrometre above the layer's whole middle height, so
-- that no corner lies in it
abbrev pub plane_of : ℕ → ℕ → ℤ
plane_of layer h = pos (2 * (layer * h + h / 2) + 1)

-- a height lies above a plane, or below it
abbrev pub is_above : ℤ → ℤ → Bool
is_above plane z = int_lt plane (pos 2 *ℤ z)

abbrev pub is_below : ℤ → ℤ → Bool
is_below plane z = int_lt (pos 2 *ℤ z) plane

-- a side falls through a plane, or rises through it
abbrev pub falls : ℤ → Side → Bool
falls plane s = is_above plane s.from.z && is_below plane s.to.z

abbrev pub rises : ℤ → Side → Bool
rises plane s = is_below plane s.from.z && is_above plane s.to.z

-- the mean of a coordinate at a lower and one at an upper height, weighted so that it is the coordinate at the plane
-- once it is divided by twice the difference of the heights
abbrev pub weighted : ℤ → ℤ → ℤ → ℤ → ℤ → ℤ
weighted lower upper low high plane = lower *ℤ (pos 2 *ℤ high -ℤ plane) +ℤ upper *ℤ (plane -ℤ pos 2 *ℤ low)

-- where the segment from a lower to an upper point meets a plane
abbrev pub point_between : Pt3 → Pt3 → ℤ → Point
point_between lower upper plane = record {
  x = weighted lower.x upper.x lower.z upper.z plane;
  y = weighted lower.y upper.y lower.z upper.z plane;
  d = pos 2 *ℤ upper.z -ℤ pos 2 *ℤ lower.z;
}

-- the segment from the point on a falling side to that on a rising side
abbrev pub cut_between : ℤ → Option Side → Option Side → Option Segment
cut_between plane (Some f) (Some r) = Some (record { from = point_between f.to f.from plane; to = point_between r.from r.to plane })
cut_between plane (Some f) None = None
cut_between plane None r = None

-- the cut of a triangle that a plane divides: such a triangle has one falling and one rising side
abbrev pub cut_of : ℤ → Triangle → Option Segment
cut_of plane t = cut_between plane (find (falls plane) (sides_of t)) (find (rises plane) (sides_of t))

-- the cuts of a surface, in the order of its triangles
abbrev pub cuts_of : ℤ → List Triangle → List Segment
cuts_of plane ts = filter_map (cut_of plane) ts

-- a surface contains a point at a plane where its cuts wind round the point; whether they do so one way or the other
-- doesn't matter
abbrev pub contains : ℤ → List Triangle → Point → Bool
contains plane ts p = not (is_zero (wind p (cuts_of plane ts)))
