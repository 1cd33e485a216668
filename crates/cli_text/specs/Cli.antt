-- The text of a list of layers in the ASCII form of the Common Layer Interface 2.0, in units of a
-- micrometre. One command a line, each ended by LF. Numbers are decimal, `-` before negative ones.
use Rattle.std.specs.Prelude.{ℕ, ◌+◌, List, [], ◌∷◌, ◌++◌, length, if◌then◌else◌, pos, int_lt, codes}
use Rattle.std.specs.List.{flat_map}
use Rattle.std.specs.Fmt.{decimal, signed_decimal}
use Rattle.scad_geom.specs.declared.point.Pt.{Pt}
use Rattle.scad_geom.specs.declared.point.Edge.{Edge}
use Rattle.scad_geom.specs.Area.{twice_area}

-- a layer: the height of its upper surface, its outlines, each a list of vertices, and its hatches,
-- each from its first point to its last
pub record Layer : Type 0 where
  pub z : ℕ
  pub loops : List (List Pt)
  pub hatches : List Edge

-- a layer without hatches
abbrev pub outlined : ℕ → List (List Pt) → Layer
outlined z loops = record { z = z; loops = loops; hatches = [] }

unfoldable pub head_start : List ℕ
head_start =
    codes "$$HEADERSTART\n"
    ++ codes "$$ASCII\n"
    ++ codes "$$UNITS/0.001\n"
    ++ codes "$$VERSION/200\n"
    ++ codes "$$LAYERS/"

unfoldable pub head_end : List ℕ
head_end =
    codes "\n"
    ++ codes "$$HEADEREND\n"
    ++ codes "$$GEOMETRYSTART\n"

-- the head of a file of this many layers
abbrev pub head : ℕ → List ℕ
head count = head_start ++ decimal count ++ head_end

-- a polyline's direction: 1 where it runs counter-clockwise, by twice its signed area, else 0
abbrev pub direction : List Pt → ℕ
direction points = if int_lt (pos 0) (twice_area points) then 1 else 0

-- a point's coordinates, each after a comma
abbrev pub point_text : Pt → List ℕ
point_text p = codes "," ++ signed_decimal p.x ++ codes "," ++ signed_decimal p.y

-- the vertices of a closed outline, the first repeated at the end
abbrev pub closed : List Pt → List Pt
closed [] = []
closed (p ∷ ps) = (p ∷ ps) ++ p ∷ []

unfoldable pub polyline_start : List ℕ
polyline_start = codes "$$POLYLINE/1,"

-- the line of an outline: part 1, its direction, the number of its points with the first repeated,
-- and these points
abbrev pub polyline_text : List Pt → List ℕ
polyline_text points =
    polyline_start ++ decimal (direction points) ++ codes "," ++ decimal (length points + 1)
    ++ flat_map point_text (closed points)
    ++ codes "\n"

unfoldable pub hatches_start : List ℕ
hatches_start = codes "$$HATCHES/1,"

-- a hatch: its first and its last point
abbrev pub hatch_text : Edge → List ℕ
hatch_text hatch = point_text hatch.a ++ point_text hatch.b

-- part 1, the number of the hatches, and these
abbrev pub hatches_line : List Edge → List ℕ
hatches_line hatches = hatches_start ++ decimal (length hatches) ++ flat_map hatch_text hatches

-- one line for all hatches of a layer, where it has any
abbrev pub hatches_text : List Edge → List ℕ
hatches_text [] = []
hatches_text (hatch ∷ more) = hatches_line (hatch ∷ more) ++ codes "\n"

unfoldable pub layer_start : List ℕ
layer_start = codes "$$LAYER/"

-- the lines of a layer: its height, then its outlines, then its hatches
abbrev pub layer_text : Layer → List ℕ
layer_text layer =
    layer_start ++ decimal layer.z ++ codes "\n"
    ++ flat_map polyline_text layer.loops
    ++ hatches_text layer.hatches

unfoldable pub geometry_end : List ℕ
geometry_end = codes "$$GEOMETRYEND\n"

-- the text of a whole file
abbrev pub cli : List Layer → List ℕ
cli layers = head (length layers) ++ flat_map layer_text layers ++ geometry_end
