-- The text of a printing program, in commands of the RepRap G-code reference: lengths in millimetres,
-- absolute coordinates and absolute amounts of filament (`G21`, `G90`, `M82`).
use Rattle.std.specs.Prelude.{ℕ, ◌+◌, ◌*◌, List, [], ◌∷◌, ◌++◌, codes}
use Rattle.std.specs.Fmt.{decimal}
use Rattle.scad_geom.specs.declared.point.Pt.{Pt}
use Rattle.gcode_text.specs.declared.rates.Rates.{Rates}
use Rattle.gcode_text.specs.Numeral.{fixed, millimetres}
use Rattle.gcode_text.specs.Amount.{move_volume, path_volume, paths_volume, filament}

-- ---- lines, each ended by LF

-- ` Ff`: a feed in millimetres per minute, at the end of a line
unfoldable pub feed_end : ℕ → List ℕ
feed_end feed = codes " F" ++ decimal feed ++ codes "\n"

-- `G1 Xx Yy`: to a point
unfoldable pub target : Pt → List ℕ
target to = codes "G1 X" ++ millimetres to.x ++ codes " Y" ++ millimetres to.y

-- ` Ee`: up to this amount of filament, in hundred-thousandths of a millimetre
unfoldable pub amount : ℕ → List ℕ
amount e = codes " E" ++ fixed 5 e

-- to a point, without filament
unfoldable pub travel_line : Rates → Pt → List ℕ
travel_line rates to = target to ++ feed_end rates.travel_feed

-- to a point, with filament
unfoldable pub print_line : Rates → Pt → ℕ → List ℕ
print_line rates to e = target to ++ amount e ++ feed_end rates.print_feed

-- to a height in micrometres
unfoldable pub height_line : Rates → ℕ → List ℕ
height_line rates z = codes "G1 Z" ++ fixed 3 z ++ feed_end rates.travel_feed

-- the comment in front of a layer
unfoldable pub number_line : ℕ → List ℕ
number_line layer = codes "; layer " ++ decimal layer ++ codes "\n"

-- a command that takes a temperature in degrees Celsius
unfoldable pub heat_line : List ℕ → ℕ → List ℕ
heat_line command degrees = command ++ codes " S" ++ decimal degrees ++ codes "\n"

-- ---- the text

-- the moves from a point through further ones, behind moves of this volume
unfoldable pub moves_text : Rates → ℕ → Pt → List Pt → List ℕ
moves_text rates volume from [] = []
moves_text rates volume from (to ∷ ps) =
    print_line rates to (filament rates (volume + move_volume rates from to))
    ++ moves_text rates (volume + move_volume rates from to) to ps

-- a path: a travel to its first point, and a move to each further one
unfoldable pub path_text : Rates → ℕ → List Pt → List ℕ
path_text rates volume [] = []
path_text rates volume (p ∷ ps) = travel_line rates p ++ moves_text rates volume p ps

unfoldable pub paths_text : Rates → ℕ → List (List Pt) → List ℕ
paths_text rates volume [] = []
paths_text rates volume (path ∷ paths) =
    path_text rates volume path ++ paths_text rates (volume + path_volume rates path) paths

-- a layer's number, the height of its upper surface, and its paths
abbrev pub layer_text : Rates → ℕ → ℕ → List (List Pt) → List ℕ
layer_text rates volume layer paths =
    number_line layer
    ++ height_line rates ((layer + 1) * rates.layer_height)
    ++ paths_text rates volume paths

-- what is printed of a layer: its walls and its infill, and then its supports
pub record Printed : Type 0 where
  pub paths : List (List Pt)
  pub supports : List (List Pt)

-- all paths of a layer, in order
abbrev pub printed_paths : Printed → List (List Pt)
printed_paths layer = layer.paths ++ layer.supports

-- the comment in front of supports
unfoldable pub supports_line : List ℕ
supports_line = codes "; supports\n"

-- supports, behind moves of this volume; nothing where there are none
abbrev pub supports_text : Rates → ℕ → List (List Pt) → List ℕ
supports_text rates volume [] = []
supports_text rates volume (path ∷ paths) = supports_line ++ paths_text rates volume (path ∷ paths)

-- a layer with its supports
abbrev pub printed_text : Rates → ℕ → ℕ → Printed → List ℕ
printed_text rates volume layer printed =
    layer_text rates volume layer printed.paths
    ++ supports_text rates (volume + paths_volume rates printed.paths) printed.supports

-- layers from this number on
unfoldable pub layers_text : Rates → ℕ → ℕ → List Printed → List ℕ
layers_text rates volume layer [] = []
layers_text rates volume layer (printed ∷ layers) =
    printed_text rates volume layer printed
    ++ layers_text rates (volume + paths_volume rates (printed_paths printed)) (layer + 1) layers

-- lengths in millimetres, absolute coordinates and amounts, the fan off
unfoldable pub setup : List ℕ
setup = codes "; scadslice\n" ++ codes "G21\n" ++ codes "G90\n" ++ codes "M82\n" ++ codes "M107\n"

-- all axes to their start, no filament so far
unfoldable pub home : List ℕ
home = codes "G28\n" ++ codes "G92 E0\n"

-- the head: both heaters are set, and then waited for
abbrev pub head : ℕ → ℕ → List ℕ
head hot_end bed =
    setup
    ++ heat_line (codes "M140") bed
    ++ heat_line (codes "M104") hot_end
    ++ heat_line (codes "M190") bed
    ++ heat_line (codes "M109") hot_end
    ++ home

-- the end: the heaters and the motors off
unfoldable pub end : List ℕ
end = codes "M104 S0\n" ++ codes "M140 S0\n" ++ codes "M84\n"

-- the text of a whole program
abbrev pub gcode : Rates → ℕ → ℕ → List Printed → List ℕ
gcode rates hot_end bed layers = head hot_end bed ++ layers_text rates 0 0 layers ++ end
