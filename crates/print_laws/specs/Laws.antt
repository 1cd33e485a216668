-- Laws of printing programs and of prints.
use Rattle.std.specs.Prelude.{◌≡◌, ℕ, List, map, All}
use Rattle.scad_words.specs.declared.settings.Settings.{Settings}
use Rattle.scad_words.specs.Settings.{AreInRange}
use Rattle.scad_tree.specs.Solid.{Solid}
use Rattle.scad_tree.specs.Solids.{AreSolids}
use Rattle.slice_loops.specs.Lengths.{HasLength}
use Rattle.plan_layer.specs.Moves.{all_moves}
use Rattle.cli_text.specs.Cli.{cli as text_of_layers}
use Rattle.gcode_text.specs.declared.rates.Rates.{Rates}
use Rattle.gcode_text.specs.Gcode.{Printed, printed_paths}
use Rattle.gcode_text.specs.Moves.{program_moves, IsWritable}
use Rattle.slice_work.specs.Part.{Layout}
use Rattle.slice_work.specs.Rates.{rates_of}
use Rattle.print_laws.specs.LayerPlans.{ArePlanned}
use Rattle.print_laws.specs.Print.{all_outlines, all_printed, all_paths, program_of, moves_of}
use Rattle.print_laws.specs.Print.{extruding, sides_from, moves_along}
use Rattle.print_laws.specs.Print.{StayInside, KeepPlaces, AreLayersOf, written, PrintLayers, IsPrintOf}

-- ---- of programs
-- The numbers of the program of planned layers can be written.
abbrev pub PlansArePrintable : Type 0
PlansArePrintable =
    (s : Settings) (layers : List Layout) → AreInRange s → ArePlanned s layers
    → IsWritable (rates_of s) s.hot_end s.bed (all_paths layers)

-- The moves that extrude go along the sides of the paths of layer 0, of layer 1 and so on, in order and with their
-- filament, where each side has a length.
abbrev pub SidesAreExtruded : Type 0
SidesAreExtruded =
    (rates : Rates) (layers : List Printed) → All (λ layer. All HasLength (all_moves (printed_paths layer))) layers
    → extruding (program_moves rates (map printed_paths layers))
    ≡ moves_along rates 0 (sides_from rates.layer_height 0 layers)

-- The extruding moves along planned paths stay inside, and those along supports stand outside.
abbrev pub MovesKeepPlaces : Type 0
MovesKeepPlaces =
    (s : Settings) (layers : List Layout) → AreInRange s → ArePlanned s layers
    → KeepPlaces s (all_outlines layers) (sides_from s.layer_height 0 (all_printed layers))
    (extruding (moves_of s layers))

-- Without support lines all extruding moves stay inside.
abbrev pub MovesStayInside : Type 0
MovesStayInside =
    (s : Settings) (layers : List Layout) → AreInRange s → ArePlanned s layers → s.support_spacing ≡ 0
    → StayInside s (all_outlines layers) (moves_of s layers)

-- The program of planned layers prints them.
abbrev pub PlansArePrinted : Type 0
PlansArePrinted =
    (s : Settings) (layers : List Layout) → AreInRange s → ArePlanned s layers
    → PrintLayers (program_of s layers) s layers

-- ---- of prints
-- The layers of a tree of solids by settings in range, where none passes a limit, have a print.
abbrev pub LayersArePrinted : Type 0
LayersArePrinted =
    (s : Settings) (tree : Solid) (layers : List Layout) → AreSolids tree → AreInRange s → AreLayersOf s tree layers
    → IsPrintOf s tree (text_of_layers (written s.layer_height layers)) (program_of s layers)

-- No other bytes are a print of the same tree by the same settings.
abbrev pub PrintsAreOne : Type 0
PrintsAreOne =
    (s : Settings) (tree : Solid) (cli gcode other_cli other_gcode : List ℕ) → AreSolids tree → AreInRange s
    → IsPrintOf s tree cli gcode → IsPrintOf s tree other_cli other_gcode → (other_cli ≡ cli) × (other_gcode ≡ gcode)
