-- What a text in the ASCII form of the Common Layer Interface 2.0 says, in units of a micrometre: which lines are those
-- of a list of layers. Numbers are decimal, without leading zeros, with `-` before negative ones.
use Rattle.std.specs.Prelude.{◌≡◌, ℕ, ◌+◌, ◌^◌, ◌<◌, ◌≤◌, List, [], ◌∷◌, ◌++◌, length, Option, Some, None, IfSome, codes}
use Rattle.std.specs.List.{flat_map, AllByRecursion, AllZip}
use Rattle.std.specs.Fmt.{decimal}
use Rattle.std.specs.Str.Lines.{lines}
use Rattle.scad_geom.specs.declared.point.Pt.{Pt}
use Rattle.scad_geom.specs.declared.point.Edge.{Edge}
use Rattle.scad_geom.specs.Limits.{coordinate_limit}
use Rattle.scad_geom.specs.Within.{IsWithin, IsEdgeWithin}
use Rattle.cli_text.specs.Cli.{Layer, polyline_start, layer_start, point_text, closed, hatches_line}

-- ---- lines

-- the line of an outline: part 1, the direction that it says, the number of its points with the first repeated, and
-- these points
abbrev pub outline_line : ℕ → List Pt → List ℕ
outline_line direction points =
    polyline_start ++ decimal direction ++ codes "," ++ decimal (length points + 1) ++ flat_map point_text (closed points)

abbrev pub height_line : ℕ → List ℕ
height_line z = layer_start ++ decimal z

unfoldable pub count_start : List ℕ
count_start = codes "$$LAYERS/"

-- the lines in front of the layers, of which there are so many
abbrev pub head_lines : ℕ → List (List ℕ)
head_lines count =
    codes "$$HEADERSTART"
    ∷ codes "$$ASCII"
    ∷ codes "$$UNITS/0.001"
    ∷ codes "$$VERSION/200"
    ∷ (count_start ++ decimal count)
    ∷ codes "$$HEADEREND"
    ∷ codes "$$GEOMETRYSTART"
    ∷ []

unfoldable pub end_line : List ℕ
end_line = codes "$$GEOMETRYEND"

-- ---- layers

-- an outline has three vertices at least, all within the limit
pub record IsShape (points : List Pt) : Type 0 where
  pub several : 3 ≤ length points
  pub count : length points + 1 < 2 ^ 32
  pub near : AllByRecursion (IsWithin coordinate_limit) points

-- the line is that of the outline, whichever direction it says
pub record IsOutline (line : List ℕ) (points : List Pt) : Type 0 where
  pub direction : ℕ
  pub either : direction ≤ 1
  pub is : line ≡ outline_line direction points
  pub shape : IsShape points

-- hatches of one line, both ends of each within the limit
pub record AreHatches (hatches : List Edge) : Type 0 where
  pub count : length hatches < 2 ^ 32
  pub near : AllByRecursion (IsEdgeWithin coordinate_limit) hatches

-- the line is that of the hatches, of which there is one at least
pub record IsHatchesLine (line : List ℕ) (hatches : List Edge) : Type 0 where
  pub some : 1 ≤ length hatches
  pub is : line ≡ hatches_line hatches
  pub kind : AreHatches hatches

-- what one line of a layer says behind its height
pub data Drawn : Type 0 where
  Polyline : List Pt → Drawn
  Hatching : List Edge → Drawn

abbrev pub IsDrawn : List ℕ → Drawn → Type 0
IsDrawn line (Polyline points) = IsOutline line points
IsDrawn line (Hatching some) = IsHatchesLine line some

-- the outlines among lines, in their order
abbrev pub outlines_among : List Drawn → List (List Pt)
outlines_among [] = []
outlines_among (Polyline points ∷ rest) = points ∷ outlines_among rest
outlines_among (Hatching some ∷ rest) = outlines_among rest

-- the hatches of all lines, joined in the order of the lines
abbrev pub hatches_among : List Drawn → List Edge
hatches_among [] = []
hatches_among (Polyline points ∷ rest) = hatches_among rest
hatches_among (Hatching some ∷ rest) = some ++ hatches_among rest

-- the lines are those of the layer: its height, then its outlines and lines of its hatches, in any order and number
pub record SaysLayer (ls : List (List ℕ)) (layer : Layer) : Type 0 where
  pub behind : List (List ℕ)
  pub drawn : List Drawn
  pub are : ls ≡ height_line layer.z ∷ behind
  pub each : AllZip IsDrawn behind drawn
  pub outlines : outlines_among drawn ≡ layer.loops
  pub hatches : hatches_among drawn ≡ layer.hatches
  pub height : layer.z < 2 ^ 32

-- each layer is above the one before it, and above this height where there is one
abbrev pub AreAbove : Option ℕ → List Layer → Type 0
AreAbove last [] = Unit {0}
AreAbove last (layer ∷ layers) = IfSome last (λ z. z < layer.z) × AreAbove (Some layer.z) layers

-- the text says these layers: its lines, each ended by LF or CRLF, the last perhaps by neither, are the head, those of
-- each layer, and the end
pub record Reads (bytes : List ℕ) (layers : List Layer) : Type 0 where
  pub parts : List (List (List ℕ))
  pub are : lines bytes ≡ head_lines (length layers) ++ flat_map (λ ls. ls) parts ++ end_line ∷ []
  pub each : AllZip SaysLayer parts layers
  pub above : AreAbove None layers
  pub count : length layers < 2 ^ 32
