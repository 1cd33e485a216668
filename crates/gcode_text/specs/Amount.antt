-- How much filament the moves take.
use Rattle.std.specs.Prelude.{ℕ, ◌+◌, ◌*◌, ◌/◌, List, [], ◌∷◌, ℤ, ◌-ℤ◌, unsigned_abs}
use Rattle.scad_geom.specs.declared.point.Pt.{Pt}
use Rattle.scad_num.specs.Root.{root}
use Rattle.gcode_text.specs.declared.rates.Rates.{Rates}

abbrev pub square : ℤ → ℕ
square z = unsigned_abs z * unsigned_abs z

-- the length of a straight move in whole micrometres
unfoldable pub length_of : Pt → Pt → ℕ
length_of a b = root (square (b.x -ℤ a.x) + square (b.y -ℤ a.y))

-- the volume of a straight move in cubic micrometres: length times width times height
unfoldable pub move_volume : Rates → Pt → Pt → ℕ
move_volume rates a b = length_of a b * rates.line_width * rates.layer_height

-- the volume of the moves from a point through further ones
unfoldable pub moves_volume : Rates → Pt → List Pt → ℕ
moves_volume rates from [] = 0
moves_volume rates from (p ∷ ps) = move_volume rates from p + moves_volume rates p ps

-- the volume of a path
unfoldable pub path_volume : Rates → List Pt → ℕ
path_volume rates [] = 0
path_volume rates (p ∷ ps) = moves_volume rates p ps

-- the volume of paths
unfoldable pub paths_volume : Rates → List (List Pt) → ℕ
paths_volume rates [] = 0
paths_volume rates (path ∷ paths) = path_volume rates path + paths_volume rates paths

-- the volume of layers
unfoldable pub layers_volume : Rates → List (List (List Pt)) → ℕ
layers_volume rates [] = 0
layers_volume rates (paths ∷ layers) = paths_volume rates paths + layers_volume rates layers

-- the filament that a volume takes, in whole hundred-thousandths of a millimetre
unfoldable pub filament : Rates → ℕ → ℕ
filament rates volume = 100 * volume / rates.filament_area
