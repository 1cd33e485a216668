-- What is written of a part.
use Rattle.std.specs.Prelude.{◌≡◌, ℕ, ◌+◌, ◌*◌, ◌≤◌, true, List, [], ◌∷◌, map, sum_by, Result, Ok, Err}
use Rattle.std.specs.List.{range_with_len}
use Rattle.scad_fault.specs.declared.budget.Budget.{Budget}
use Rattle.scad_io.specs.Desk.{View}
use Rattle.scad_io.specs.declared.desk.Out.TheVariants.{Cli, Gcode}
use Rattle.scad_script.specs.Steps.{Step, Sends}
use Rattle.scad_script.specs.declared.stop.Stop.{Stop}
use Rattle.scad_script.specs.declared.refusal.Refusal.TheVariants.{Over}
use Rattle.cli_text.specs.Cli as cli
use Rattle.gcode_text.specs.declared.rates.Rates.{Rates}
use Rattle.gcode_text.specs.Amount.{paths_volume}
use Rattle.gcode_text.specs.Limits.{width_limit, height_limit}
use Rattle.gcode_text.specs.Gcode as gcode
use Rattle.gcode_text.specs.Gcode.{printed_paths}
use Rattle.slice_work.specs.declared.want.Want.{Want}
use Rattle.slice_work.specs.declared.want.Want.TheVariants.{Outlines, Plan}
use Rattle.slice_work.specs.declared.laid_layer.LaidLayer.{LaidLayer}
use Rattle.slice_work.specs.declared.fault.WorkFault.{WorkFault}
use Rattle.slice_work.specs.Part.{Layout, Part, printed_of, hatches_of}

-- the volume of all moves of the first n layers
abbrev pub volume_below : Want → Rates → Part → ℕ → ℕ
volume_below want rates part n = sum_by (λ layer. paths_volume rates (printed_paths (printed_of want layer)))
    (map part (range_with_len 0 n))

-- these lines can be written
pub record AreRates (rates : Rates) : Type 0 where
  pub width : rates.line_width ≤ width_limit
  pub height : rates.layer_height ≤ height_limit
  pub area : 1 ≤ rates.filament_area

-- the outputs that are written to were created
abbrev pub AreThere : Want → View → Type 0
AreThere Outlines v = v.cli.created ≡ true
AreThere Plan v = (v.cli.created ≡ true) × (v.gcode.created ≡ true)

-- the lines of a layer's moves and of those of its supports, behind moves of this volume
abbrev pub move_lines : Rates → ℕ → ℕ → Layout → List ℕ
move_lines rates volume i layout = gcode.printed_text rates volume i (printed_of Plan (Ok layout))

-- how a layer is laid out that is written so
abbrev pub laid_out : LaidLayer → Layout
laid_out layer = record {
  outlines = layer.loops.now;
  paths = layer.paths.now;
  runs = layer.runs;
  supports = layer.supports.now;
}

-- the lines of the outlines and hatches of a layer that is laid out so, under the height of its upper surface
abbrev pub layout_lines : Rates → ℕ → Layout → List ℕ
layout_lines rates i layout = cli.layer_text
    (record { z = rates.layer_height * (i + 1); loops = layout.outlines; hatches = hatches_of (Ok layout) })

-- the steps that write a layer which is laid out so, behind moves of this volume: its outlines and hatches, and then
-- its moves and those of its supports, where they are wanted
abbrev pub written : Want → Rates → ℕ → ℕ → Layout → List Step
written Outlines rates volume i layout = Sends Cli (layout_lines rates i layout) ∷ []
written Plan rates volume i layout =
    Sends Cli (layout_lines rates i layout) ∷ Sends Gcode (move_lines rates volume i layout) ∷ []

abbrev pub written_unless : Want → Rates → ℕ → ℕ → Result Layout Budget → Result (List Step) Budget
written_unless want rates volume i (Ok layout) = Ok (written want rates volume i layout)
written_unless want rates volume i (Err budget) = Err budget

-- layer i of a part
abbrev pub layer_steps : Want → Rates → Part → ℕ → Result (List Step) Budget
layer_steps want rates part i = written_unless want rates (volume_below want rates part i) i (part i)

-- why a script stops where the work does
abbrev pub stop_of : WorkFault → Stop
stop_of WorkFault.Memory = Stop.Memory
stop_of WorkFault.Write = Stop.Write
stop_of (WorkFault.Over budget) = Stop.Ends (Over budget)

abbrev pub stopped : {T : Type 0} → Result T WorkFault → Result T Stop
stopped (Ok t) = Ok t
stopped (Err fault) = Err (stop_of fault)
