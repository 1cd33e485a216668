-- The pieces that come to a place and those that go out from it, as the code has them.
use Rattle.std.specs.Prelude.{Bool, true, false, cond, not, ◌&&◌, ◌==◌, if◌then◌else◌, ◌≡◌, List, [], ◌∷◌, ◌++◌, Option, None, Some}
use Rattle.scad_geom.specs.declared.point.Pt.{Pt}
use Rattle.scad_geom.specs.declared.point.Edge.{Edge}
use Rattle.winding_laws.specs.Edges.{rounded}
use Rattle.slice_pieces.specs.Spots.{point_of}
use Rattle.sweep_laws.specs.Ways.{Way}
use Rattle.sweep_laws.specs.Edges.{edges_between}
use Rattle.slice_outlines.specs.declared.course.Course.{Course}
use Rattle.slice_outlines.specs.declared.course.Alone.TheVariants.{Nothing, One, More}
use Rattle.slice_outlines.specs.declared.course.Alone.{Alone}
use Rattle.slice_outlines.specs.declared.mark.Mark.{Mark}
use Rattle.slice_outlines.specs.Marks.{left_of_first}

-- the piece between a value on its left and one on its right
abbrev pub course_between : Bool → Bool → Mark → List Course
course_between true true m = []
course_between true false m = record { name = m.name; forward = true; from = m.from } ∷ []
course_between false true m = record { name = m.name; forward = false; from = m.from } ∷ []
course_between false false m = []

-- those of strands, with the value to the right of the last
abbrev pub courses : Bool → List Mark → List Course
courses right [] = []
courses right (m ∷ ms) = course_between m.left (left_of_first ms right) m ++ courses right ms

abbrev pub or_none : Option Course → List Course
or_none None = []
or_none (Some c) = c ∷ []

-- what is told of a list of pieces
abbrev pub alone : List Course → Alone
alone [] = Nothing
alone (c ∷ []) = One c
alone (c ∷ (d ∷ cs)) = More

-- the edges that pieces give where they end at a point
abbrev pub edges_to : Pt → List Course → List Edge
edges_to at [] = []
edges_to at (c ∷ cs) = edges_between c.forward c.from at ++ edges_to at cs

-- a piece as the code has it: its way's name and direction, and its near end, rounded
pub record IsCourseOf (w : Way) (c : Course) : Type 0 where
  pub name : c.name ≡ w.edge
  pub forward : c.forward ≡ w.forward
  pub from : c.from ≡ rounded (point_of w.near)

-- where the only one that comes in came from, if it goes on as the only one that goes out
abbrev pub going_on : List Course → List Course → Option Pt
going_on [] ws = None
going_on (v ∷ []) [] = None
going_on (v ∷ []) (w ∷ []) = if (v.name == w.name) && cond v.forward w.forward
    (not w.forward) then Some v.from else None
going_on (v ∷ []) (w ∷ (x ∷ ws)) = None
going_on (u ∷ (v ∷ vs)) ws = None

-- where those that go out begin, and the edges of those that end
abbrev pub or_at : Pt → Option Pt → Pt
or_at at None = at
or_at at (Some from) = from

abbrev pub start_of : Pt → List Course → List Course → Pt
start_of at ins outs = or_at at (going_on ins outs)

abbrev pub unless_on : Option Pt → List Edge → List Edge
unless_on None edges = edges
unless_on (Some from) edges = []

abbrev pub ended_at : Pt → List Course → List Course → List Edge
ended_at at ins outs = unless_on (going_on ins outs) (edges_to at ins)
