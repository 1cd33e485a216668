-- What a print of a tree by settings is: one list of layers, each the plan of its layer of the tree, and two files that
-- say these layers to whoever reads them.
use Rattle.std.specs.Prelude.{◌≡◌, ◌<◌, ◌≤◌, ◌+◌, ◌*◌, ◌/◌, ℕ, Bool, true, false, List, [], ◌∷◌, ◌++◌, length, map, filter}
use Rattle.std.specs.Prelude.{slice_get}
use Rattle.std.specs.Prelude.{All, IsSomeAnd, Ok, pos}
use Rattle.std.specs.List.{AllZip}
use Rattle.scad_geom.specs.declared.point.Pt.{Pt}
use Rattle.scad_geom.specs.declared.point.Edge.{Edge}
use Rattle.scad_words.specs.declared.settings.Settings.{Settings}
use Rattle.scad_tree.specs.Solid.{Solid}
use Rattle.plan_walls.specs.Clearance.{KeepsClear}
use Rattle.plan_layer.specs.Moves.{all_moves}
use Rattle.support_laws.specs.Apart.{KeepsApart}
use Rattle.cli_text.specs.Cli.{Layer, cli as text_of_layers}
use Rattle.cli_read.specs.Form.{Reads}
use Rattle.gcode_text.specs.declared.machine.Move.{Move}
use Rattle.gcode_text.specs.declared.rates.Rates.{Rates}
use Rattle.gcode_text.specs.Amount.{move_volume, filament}
use Rattle.gcode_text.specs.Gcode.{Printed, printed_paths, gcode}
use Rattle.gcode_text.specs.Machine.{machine}
use Rattle.gcode_text.specs.Moves.{at_height, program_moves}
use Rattle.slice_work.specs.declared.want.Want.TheVariants.{Plan as WithPlan}
use Rattle.slice_work.specs.Part.{Layout, hatches_of, printed_of, layer_limit}
use Rattle.slice_work.specs.Rates.{rates_of}
use Rattle.scad_slice.specs.Budgets.{layer_count}
use Rattle.scad_slice.specs.Layer.{IsLayer}
use Rattle.scad_slice.specs.Membership.{HoldTree}

-- ---- the layers
-- There are as many as the tree has, and not too many; layer i has the outlines of the tree's layer i, the plan over
-- them and its supports, and passes no limit.
pub record AreLayersOf (s : Settings) (tree : Solid) (layers : List Layout) : Type 0 where
  pub number : length layers ≡ layer_count s.layer_height tree
  pub few : length layers ≤ layer_limit
  pub each : (i : ℕ) → i < length layers → IsSomeAnd (slice_get layers i) (λ l. IsLayer WithPlan s tree i (Ok l))

-- the outlines of layers, and what is printed of them, layer by layer
abbrev pub all_outlines : List Layout → List (List (List Pt))
all_outlines layers = map (λ l. l.outlines) layers

abbrev pub all_printed : List Layout → List Printed
all_printed layers = map (λ l. printed_of WithPlan (Ok l)) layers

-- all paths of layers, in each those of its supports behind the others
abbrev pub all_paths : List Layout → List (List (List Pt))
all_paths layers = map printed_paths (all_printed layers)

-- ---- the outlines' file
-- layers of the height h as they are written, each with the height of its upper surface and its infill as hatches; the
-- first has the number i
abbrev pub written_from : ℕ → ℕ → List Layout → List Layer
written_from h i [] = []
written_from h i (l ∷ ls) =
    record { z = h * (i + 1); loops = l.outlines; hatches = hatches_of (Ok l) } ∷ written_from h (i + 1) ls

abbrev pub written : ℕ → List Layout → List Layer
written h layers = written_from h 0 layers

-- The bytes are the text of the layers, and whoever reads them finds these layers.
pub record SayLayers (bytes : List ℕ) (layers : List Layer) : Type 0 where
  pub text : bytes ≡ text_of_layers layers
  pub read : Reads bytes layers

-- ---- the printing program
-- its text
abbrev pub program_of : Settings → List Layout → List ℕ
program_of s layers = gcode (rates_of s) s.hot_end s.bed (all_printed layers)

-- the moves along the paths, travels among them
abbrev pub moves_of : Settings → List Layout → List Move
moves_of s layers = program_moves (rates_of s) (all_paths layers)

-- the moves that extrude
abbrev pub extruding : List Move → List Move
extruding moves = filter (λ m. m.extruding) moves

-- a side of a path, at the height of its layer's upper surface; the path is a support or is none
pub record PathSide : Type 0 where
  pub z : ℕ
  pub edge : Edge
  pub support : Bool

-- the sides of paths at a height
abbrev pub sides_at : Bool → ℕ → List (List Pt) → List PathSide
sides_at support z paths = map (λ e. record { z = z; edge = e; support = support }) (all_moves paths)

-- the sides of the paths of layers of the height h in order, in each those of its supports behind the others; the first
-- layer has the number i
abbrev pub sides_from : ℕ → ℕ → List Printed → List PathSide
sides_from h i [] = []
sides_from h i (layer ∷ layers) =
    sides_at false ((i + 1) * h) layer.paths
    ++ sides_at true ((i + 1) * h) layer.supports
    ++ sides_from h (i + 1) layers

-- the move along a side, behind moves of this volume, with the filament that its own volume takes
abbrev pub move_along : Rates → ℕ → PathSide → Move
move_along rates volume side = record {
  from = at_height side.edge.a side.z;
  to = at_height side.edge.b side.z;
  from_e = pos (filament rates volume);
  to_e = pos (filament rates (volume + move_volume rates side.edge.a side.edge.b));
  extruding = true;
}

-- the moves along sides one after another, behind moves of this volume
abbrev pub moves_along : Rates → ℕ → List PathSide → List Move
moves_along rates volume [] = []
moves_along rates volume (side ∷ sides) =
    move_along rates volume side
    ∷ moves_along rates (volume + move_volume rates side.edge.a side.edge.b) sides

-- a move as it is seen from above
abbrev pub from_above : Move → Edge
from_above m = record { a = record { x = m.from.x; y = m.from.y }; b = record { x = m.to.x; y = m.to.y } }

-- a move lies at the upper surface of a layer, and each point of it keeps the clearance of half the width of a line from
-- each side of that layer's outlines, and they wind round it; the outlines are those of all layers, from the lowest
-- upwards
pub record StaysInside (s : Settings) (outlines : List (List (List Pt))) (m : Move) : Type 0 where
  pub layer : ℕ
  pub from : m.from.z ≡ pos ((layer + 1) * s.layer_height)
  pub to : m.to.z ≡ pos ((layer + 1) * s.layer_height)
  pub clear : IsSomeAnd (slice_get outlines layer) (λ o. KeepsClear o (s.line_width / 2) (from_above m))

-- so does each of the moves that extrudes
abbrev pub StayInside : Settings → List (List (List Pt)) → List Move → Type 0
StayInside s outlines moves = All (λ m. m.extruding ≡ true → StaysInside s outlines m) moves

-- a move lies at the upper surface of a layer and keeps apart from that layer's outlines: they wind round no whole point
-- of it, and no side of them comes within the gap of supports; with a gap this holds of each exact point of it, by a
-- gap of one micrometre less
pub record StandsOutside (s : Settings) (outlines : List (List (List Pt))) (m : Move) : Type 0 where
  pub layer : ℕ
  pub from : m.from.z ≡ pos ((layer + 1) * s.layer_height)
  pub to : m.to.z ≡ pos ((layer + 1) * s.layer_height)
  pub apart : IsSomeAnd (slice_get outlines layer) (λ o. KeepsApart o s.support_gap (from_above m))

-- a move along a support stands outside, and any other stays inside
abbrev pub KeepsPlace : Bool → Settings → List (List (List Pt)) → Move → Type 0
KeepsPlace true s outlines m = StandsOutside s outlines m
KeepsPlace false s outlines m = StaysInside s outlines m

-- so do moves that go along these sides, one along each
abbrev pub KeepPlaces : Settings → List (List (List Pt)) → List PathSide → List Move → Type 0
KeepPlaces s outlines sides moves = AllZip (λ side m. KeepsPlace side.support s outlines m) sides moves

-- The bytes are the text of the layers' plans and supports. Along them the machine makes their moves, with travels
-- between; those that extrude are exactly the moves of layer 0, of layer 1 and so on, in each layer those of its supports
-- behind the plan's, in order, each at the upper surface of its layer and with its filament. Each move of a plan stays
-- inside the outlines of its layer by the clearance, and each move of a support stands outside of them. So without
-- support lines each move that extrudes stays inside.
pub record PrintLayers (bytes : List ℕ) (s : Settings) (layers : List Layout) : Type 0 where
  pub text : bytes ≡ program_of s layers
  pub moves : List Move
  pub made : machine bytes ≡ Ok moves
  pub all : moves ≡ moves_of s layers
  pub extruded : extruding moves ≡ moves_along (rates_of s) 0 (sides_from s.layer_height 0 (all_printed layers))
  pub kept : KeepPlaces s (all_outlines layers) (sides_from s.layer_height 0 (all_printed layers)) (extruding moves)
  pub inside : s.support_spacing ≡ 0 → StayInside s (all_outlines layers) moves

-- ---- the print
-- The outlines hold what the tree contains, at each cell centre more than one micrometre from each section edge; each
-- point of them lies less than one micrometre from the border of the tree's section.
pub record IsPrintOf (s : Settings) (tree : Solid) (cli gcode : List ℕ) : Type 0 where
  pub layers : List Layout
  pub planned : AreLayersOf s tree layers
  pub outlines : SayLayers cli (written s.layer_height layers)
  pub holds : HoldTree s.layer_height tree (written s.layer_height layers)
  pub program : PrintLayers gcode s layers
