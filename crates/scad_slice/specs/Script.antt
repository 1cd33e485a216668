-- The scripts that write a tree's files.
use Rattle.std.specs.Prelude.{◌≡◌, ◌++◌, List, [], ◌∷◌, ℕ, codes, decimal, length, nat_lt, if◌then◌else◌}
use Rattle.scad_io.specs.declared.desk.Out.{Out}
use Rattle.scad_io.specs.declared.desk.Out.TheVariants.{Cli, Gcode}
use Rattle.scad_script.specs.declared.refusal.Refusal.TheVariants.{Over}
use Rattle.scad_script.specs.Steps.{Step, Makes, Sends, text_of}
use Rattle.scad_script.specs.Script.{Script, Finishes, Refuses, first, ends, layers}
use Rattle.scad_words.specs.declared.settings.Settings.{Settings}
use Rattle.cli_text.specs.Cli as outline
use Rattle.gcode_text.specs.Gcode as program
use Rattle.gcode_text.specs.Amount.{filament}
use Rattle.gcode_text.specs.Numeral.{fixed}
use Rattle.scad_tree.specs.Solid.{Solid}
use Rattle.slice_work.specs.declared.want.Want.{Want}
use Rattle.slice_work.specs.declared.want.Want.TheVariants.{Outlines, Plan}
use Rattle.slice_work.specs.Part.{Part, layer_limit}
use Rattle.slice_work.specs.Script.{layer_steps, volume_below}
use Rattle.slice_work.specs.Rates.{rates_of}
use Rattle.slice_work.specs.Sums.{loop_count, moves_below, IsSummary}
use Rattle.scad_slice.specs.declared.summary.Sizes.{Sizes}
use Rattle.scad_slice.specs.declared.summary.Written.{Written}
use Rattle.scad_slice.specs.Budgets.{layer_count, layers_passed}

-- ---- the files

-- the head of each file, that of the outlines first; it tells how many layers the tree has
abbrev pub heads : Want → Settings → ℕ → List Step
heads Outlines s count = Sends Cli (outline.head count) ∷ []
heads Plan s count = Sends Cli (outline.head count) ∷ Sends Gcode (program.head s.hot_end s.bed) ∷ []

-- the end of each file
abbrev pub tails : Want → List Step
tails Outlines = Sends Cli outline.geometry_end ∷ []
tails Plan = Sends Cli outline.geometry_end ∷ Sends Gcode program.end ∷ []

-- Heads, so many layers from the lowest upwards and ends, and then a script; the first layer that passes a budget
-- ends both files before its bytes.
abbrev pub files : Want → Settings → Part → ℕ → Script → Script
files want s part count rest =
    first (heads want s count) (layers (layer_steps want (rates_of s) part) 0 count (first (tails want) rest))

-- how many bytes an output gets of them
abbrev pub file_size : Out → Want → Settings → Part → ℕ → ℕ
file_size out want s part count = length (text_of out (files want s part count (ends (Finishes []))).steps)

-- how many bytes steps write to each output
pub record HaveSizes (steps : List Step) (sizes : Sizes) : Type 0 where
  pub cli : sizes.cli ≡ length (text_of Cli steps)
  pub gcode : sizes.gcode ≡ length (text_of Gcode steps)

-- what is told of the files of so many layers
pub record IsWritten (want : Want) (s : Settings) (part : Part) (count : ℕ) (w : Written) : Type 0 where
  pub summary : IsSummary want (rates_of s) part count w.summary
  pub cli : w.cli ≡ file_size Cli want s part count
  pub gcode : w.gcode ≡ file_size Gcode want s part count

-- ---- the commands

-- too many layers are refused
abbrev pub unless_many : ℕ → Script → Script
unless_many count script = if nat_lt layer_limit count then ends (Refuses (Over (layers_passed count))) else script

-- `done: N layers, K loops`
unfoldable pub done_line : ℕ → ℕ → List ℕ
done_line count loops = codes "done: " ++ decimal count ++ codes " layers, " ++ decimal loops ++ codes " loops\n"

-- `done: N layers, K loops, M moves, E e`, the amount of filament in millimetres
unfoldable pub plan_line : ℕ → ℕ → ℕ → ℕ → List ℕ
plan_line count loops moves e =
    codes "done: " ++ decimal count ++ codes " layers, " ++ decimal loops ++ codes " loops, " ++ decimal moves
    ++ codes " moves, E "
    ++ fixed 5 e ++ codes "\n"

-- the amount of filament behind the first n layers, in hundred-thousandths of a millimetre
abbrev pub amount_below : Settings → Part → ℕ → ℕ
amount_below s part n = filament (rates_of s) (volume_below Plan (rates_of s) part n)

-- what is told of so many layers
abbrev pub slice_end : Part → ℕ → Script
slice_end part count = ends (Finishes (done_line count (loop_count part count)))

abbrev pub plan_end : Settings → Part → ℕ → Script
plan_end s part count =
    ends (Finishes (plan_line count (loop_count part count) (moves_below Plan part count) (amount_below s part count)))

-- what follows the tree in `slice`: the file is created by its name and written
abbrev pub slice_script : Settings → List ℕ → Part → Solid → Script
slice_script s cli part tree =
    let count = layer_count s.layer_height tree in
    unless_many count (first (Makes Cli cli ∷ []) (files Outlines s part count (slice_end part count)))

-- what follows the tree in `plan`: both files are created by their names and written
abbrev pub plan_script : Settings → List ℕ → List ℕ → Part → Solid → Script
plan_script s cli gcode part tree =
    let count = layer_count s.layer_height tree in
    unless_many count
    (first (Makes Cli cli ∷ []) (first (Makes Gcode gcode ∷ []) (files Plan s part count (plan_end s part count))))
