-- The moves that the paths of layers are printed by.
use Rattle.std.specs.Prelude.{ℕ, ◌+◌, ◌*◌, ◌^◌, ◌<◌, ◌≤◌, false, not, List, [], ◌∷◌, ◌++◌, length, pos, unsigned_abs}
use Rattle.std.specs.List.{AllByRecursion}
use Rattle.scad_geom.specs.declared.point.Pt.{Pt}
use Rattle.scad_geom.specs.declared.point3.Pt3.{Pt3}
use Rattle.gcode_text.specs.declared.machine.Move.{Move}
use Rattle.gcode_text.specs.declared.rates.Rates.{Rates}
use Rattle.gcode_text.specs.Amount.{move_volume, path_volume, paths_volume, layers_volume, filament}
use Rattle.gcode_text.specs.Machine.{stays, origin}

-- a point at a height
abbrev pub at_height : Pt → ℕ → Pt3
at_height p z = record { x = p.x; y = p.y; z = pos z }

-- without filament, of which so much was extruded before
abbrev pub travel : Pt3 → Pt3 → ℕ → Move
travel from to e = record { from = from; to = to; from_e = pos e; to_e = pos e; extruding = false }

-- with filament, behind moves of this volume; it extrudes where its ends differ
abbrev pub printing : Rates → ℕ → ℕ → Pt → Pt → Move
printing rates z volume from to = record {
  from = at_height from z;
  to = at_height to z;
  from_e = pos (filament rates volume);
  to_e = pos (filament rates (volume + move_volume rates from to));
  extruding = not (stays (at_height from z) (at_height to z));
}

-- from a point through further ones
unfoldable pub printing_moves : Rates → ℕ → ℕ → Pt → List Pt → List Move
printing_moves rates z volume from [] = []
printing_moves rates z volume from (to ∷ ps) =
    printing rates z volume from to ∷ printing_moves rates z (volume + move_volume rates from to) to ps

-- where the moves through further points end
unfoldable pub end_of : Pt → List Pt → Pt
end_of from [] = from
end_of from (to ∷ ps) = end_of to ps

-- a path: a travel to its first point, and a printing move to each further one
unfoldable pub path_moves : Rates → ℕ → ℕ → Pt3 → List Pt → List Move
path_moves rates z volume here [] = []
path_moves rates z volume here (p ∷ ps) = travel here (at_height p z) (filament rates volume) ∷ printing_moves rates z volume p ps

-- where a path ends
unfoldable pub behind_path : ℕ → Pt3 → List Pt → Pt3
behind_path z here [] = here
behind_path z here (p ∷ ps) = at_height (end_of p ps) z

unfoldable pub paths_moves : Rates → ℕ → ℕ → Pt3 → List (List Pt) → List Move
paths_moves rates z volume here [] = []
paths_moves rates z volume here (path ∷ paths) =
    path_moves rates z volume here path
    ++ paths_moves rates z (volume + path_volume rates path) (behind_path z here path) paths

unfoldable pub behind_paths : ℕ → Pt3 → List (List Pt) → Pt3
behind_paths z here [] = here
behind_paths z here (path ∷ paths) = behind_paths z (behind_path z here path) paths

-- straight up to a height
abbrev pub raised : Pt3 → ℕ → Pt3
raised here z = record { x = here.x; y = here.y; z = pos z }

-- a layer's upper surface
abbrev pub surface : Rates → ℕ → ℕ
surface rates layer = (layer + 1) * rates.layer_height

-- a layer: up to its upper surface, and its paths
unfoldable pub layer_moves : Rates → ℕ → ℕ → Pt3 → List (List Pt) → List Move
layer_moves rates volume layer here paths =
    travel here (raised here (surface rates layer)) (filament rates volume)
    ∷ paths_moves rates (surface rates layer) volume (raised here (surface rates layer)) paths

-- layers from this number on
unfoldable pub layers_moves : Rates → ℕ → ℕ → Pt3 → List (List (List Pt)) → List Move
layers_moves rates volume layer here [] = []
layers_moves rates volume layer here (paths ∷ layers) =
    layer_moves rates volume layer here paths
    ++ layers_moves rates (volume + paths_volume rates paths) (layer + 1)
    (behind_paths (surface rates layer) (raised here (surface rates layer)) paths) layers

-- a whole program
abbrev pub program_moves : Rates → List (List (List Pt)) → List Move
program_moves rates layers = layers_moves rates 0 0 origin layers

-- ---- numbers that can be written

-- below 10 ^ 64, as many digits as the library writes
abbrev pub IsShort : ℕ → Type 0
IsShort n = n < 10 ^ 64

abbrev pub IsShortPoint : Pt → Type 0
IsShortPoint p = IsShort (unsigned_abs p.x) × IsShort (unsigned_abs p.y)

abbrev pub AreShortPaths : List (List Pt) → Type 0
AreShortPaths paths = AllByRecursion (λ path. AllByRecursion IsShortPoint path) paths

-- the numbers of a program can be written
pub record IsWritable (rates : Rates) (hot_end bed : ℕ) (layers : List (List (List Pt))) : Type 0 where
  pub area : 1 ≤ rates.filament_area
  pub print_feed : IsShort rates.print_feed
  pub travel_feed : IsShort rates.travel_feed
  pub temperatures : IsShort hot_end × IsShort bed
  pub points : AllByRecursion AreShortPaths layers
  pub count : IsShort (length layers)
  pub height : IsShort (length layers * rates.layer_height)
  pub volume : IsShort (100 * layers_volume rates layers)
