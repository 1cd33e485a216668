-- What is counted of the layers that were written.
use Rattle.std.specs.Prelude.{◌≡◌, ℕ, ◌+◌, List, length, map, sum_by, Result, Ok, Err}
use Rattle.std.specs.List.{range_with_len}
use Rattle.scad_fault.specs.declared.budget.Budget.{Budget}
use Rattle.scad_io.specs.declared.desk.Out.{Out}
use Rattle.scad_io.specs.declared.desk.Out.TheVariants.{Cli, Gcode}
use Rattle.scad_script.specs.Steps.{Step, text_of}
use Rattle.gcode_text.specs.declared.rates.Rates.{Rates}
use Rattle.gcode_text.specs.Amount.{paths_volume, filament}
use Rattle.gcode_text.specs.Gcode.{printed_paths}
use Rattle.slice_work.specs.declared.want.Want.{Want}
use Rattle.slice_work.specs.declared.sums.Sums.{Sums}
use Rattle.slice_work.specs.declared.summary.Summary.{Summary}
use Rattle.slice_work.specs.Part.{Layout, Part, outlines_of, printed_of, move_count}
use Rattle.slice_work.specs.Script.{written, layer_steps, volume_below}

-- the outlines of the first n layers
abbrev pub loop_count : Part → ℕ → ℕ
loop_count part n = sum_by (λ layer. length (outlines_of layer)) (map part (range_with_len 0 n))

-- the moves of the first n layers, those of supports counted
abbrev pub moves_below : Want → Part → ℕ → ℕ
moves_below want part n = sum_by (λ layer. move_count (printed_paths (printed_of want layer)))
    (map part (range_with_len 0 n))

-- how many bytes a layer's steps write to an output
abbrev pub step_size : Out → Result (List Step) Budget → ℕ
step_size out (Ok steps) = length (text_of out steps)
step_size out (Err budget) = 0

-- how many bytes the first n layers write to an output
abbrev pub size_below : Out → Want → Rates → Part → ℕ → ℕ
size_below out want rates part n = sum_by (step_size out) (map (layer_steps want rates part) (range_with_len 0 n))

-- what is counted with one layer more, which is laid out so
abbrev pub with_layer : Want → Rates → ℕ → Layout → Sums → Sums
with_layer want rates i layout s =
    let paths = printed_paths (printed_of want (Ok layout)) in
    record {
      loops = s.loops + length layout.outlines;
      moves = s.moves + move_count paths;
      volume = s.volume + paths_volume rates paths;
      cli = s.cli + length (text_of Cli (written want rates s.volume i layout));
      gcode = s.gcode + length (text_of Gcode (written want rates s.volume i layout));
    }

-- what is counted of the first n layers
pub record AreSums (want : Want) (rates : Rates) (part : Part) (n : ℕ) (s : Sums) : Type 0 where
  pub loops : s.loops ≡ loop_count part n
  pub moves : s.moves ≡ moves_below want part n
  pub volume : s.volume ≡ volume_below want rates part n
  pub cli : s.cli ≡ size_below Cli want rates part n
  pub gcode : s.gcode ≡ size_below Gcode want rates part n

-- what is told of a part of so many layers
pub record IsSummary (want : Want) (rates : Rates) (part : Part) (n : ℕ) (s : Summary) : Type 0 where
  pub layers : s.layers ≡ n
  pub loops : s.loops ≡ loop_count part n
  pub moves : s.moves ≡ moves_below want part n
  pub e : s.e ≡ filament rates (volume_below want rates part n)
  pub cli : s.cli ≡ size_below Cli want rates part n
  pub gcode : s.gcode ≡ size_below Gcode want rates part n
