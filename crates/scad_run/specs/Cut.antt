-- What both files are where a layer passes a budget.
use Rattle.std.specs.Prelude.{◌≡◌, ◌⊎◌, ◌++◌, ◌<◌, ◌≤◌, List, [], ℕ, Some, Ok, Err, IsSomeAnd, length, slice_get, flat_map}
use Rattle.scad_fault.specs.declared.budget.Budget.{Budget}
use Rattle.scad_fault.specs.declared.status.Status.{Status}
use Rattle.scad_fault.specs.declared.status.Status.TheVariants.{Over}
use Rattle.scad_io.specs.Desk.{Files, View}
use Rattle.scad_words.specs.declared.job.Command.{Command}
use Rattle.scad_words.specs.declared.job.Command.TheVariants.{Check, Tree, Slice, Plan, Sample, Verify}
use Rattle.scad_words.specs.declared.job.Job.{Job}
use Rattle.scad_words.specs.declared.settings.Settings.{Settings}
use Rattle.scad_words.specs.Job.{job_of}
use Rattle.scad_script.specs.declared.loading.Input.TheVariants.{Whole}
use Rattle.scad_script.specs.Promises.{Adds}
use Rattle.scad_tree.specs.Solid.{Solid}
use Rattle.cli_text.specs.Cli.{head, layer_text}
use Rattle.gcode_text.specs.Gcode.{head as program_head, layers_text}
use Rattle.slice_work.specs.declared.want.Want.{Want}
use Rattle.slice_work.specs.declared.want.Want.TheVariants.{Outlines as OutlinesAlone, Plan as WithPlan}
use Rattle.slice_work.specs.Part.{Layout, layer_limit}
use Rattle.slice_work.specs.Rates.{rates_of}
use Rattle.scad_slice.specs.Budgets.{layer_count}
use Rattle.scad_slice.specs.Layer.{IsLayer}
use Rattle.scad_slice.specs.Supports.{PassesOfAll}
use Rattle.print_laws.specs.Print.{all_printed, written}
use Rattle.scad_run.specs.Inputs.{Inputs, source_in, settings_found, IsRead}
use Rattle.scad_run.specs.Meaning.{MeansTree}

-- the printing program of the first layers without its end, where it is wanted
abbrev pub program_front : Want → Settings → List Layout → List ℕ
program_front OutlinesAlone s layers = []
program_front WithPlan s layers = program_head s.hot_end s.bed ++ layers_text (rates_of s) 0 0 (all_printed layers)

-- The files end before this layer: that of the budget; or, where supports are printed and the budget is one that all
-- layers are judged by before the first is written, the first.
abbrev pub EndsAt : Want → Settings → Solid → Budget → ℕ → Type 0
EndsAt OutlinesAlone s tree budget layer = layer ≡ budget.layer
EndsAt WithPlan s tree budget layer =
    (layer ≡ budget.layer) ⊎ ((layer ≡ 0) × PassesOfAll s tree layer (Some budget))

-- A layer of the tree passes the budget. Both files have their heads and the layers below it, each laid out as it is
-- wanted, and no end.
pub record AreCut (want : Want) (s : Settings) (tree : Solid) (budget : Budget) (old new : View) : Type 0 where
  pub few : layer_count s.layer_height tree ≤ layer_limit
  pub layer : ℕ
  pub ends : EndsAt want s tree budget layer
  pub inside : layer < layer_count s.layer_height tree
  pub passes : IsLayer want s tree layer (Err budget)
  pub layers : List Layout
  pub number : length layers ≡ layer
  pub each : (i : ℕ) → i < length layers → IsSomeAnd (slice_get layers i) (λ l. IsLayer want s tree i (Ok l))
  pub outlines : Adds (head (layer_count s.layer_height tree) ++ flat_map layer_text (written s.layer_height layers))
      old.cli new.cli
  pub program : Adds (program_front want s layers) old.gcode new.gcode

-- `slice` and `plan` write their files layer by layer
abbrev pub IsCutBy : Command → Settings → Solid → Budget → View → View → Type 0
IsCutBy (Check model) s tree budget old new = ⊥
IsCutBy (Tree model) s tree budget old new = ⊥
IsCutBy (Slice model cli) s tree budget old new = AreCut OutlinesAlone s tree budget old new
IsCutBy (Plan model cli gcode) s tree budget old new = AreCut WithPlan s tree budget old new
IsCutBy (Sample n) s tree budget old new = ⊥
IsCutBy (Verify outlines program) s tree budget old new = ⊥

-- the files of the job's tree, by its settings, are cut so
pub record CutsFiles (job : Job) (inputs : Inputs) (budget : Budget) (old new : View) : Type 0 where
  pub settings : Settings
  pub found : settings_found job.settings inputs.settings ≡ Some settings
  pub source : List ℕ
  pub whole : source_in (Some job) inputs ≡ Some (Whole source)
  pub tree : Solid
  pub means : MeansTree tree source
  pub cut : IsCutBy job.command settings tree budget old new

-- both files stand
abbrev pub FilesStand : View → View → Type 0
FilesStand old new = (new.cli ≡ old.cli) × (new.gcode ≡ old.gcode)

-- Where a budget is passed both files stand as they were, or they are cut short before the layer that passes it.
abbrev pub CutsShort : List (List ℕ) → Files → Status → View → View → Type 0
CutsShort words files (Over budget) old new =
    (inputs : Inputs) × IsRead words files inputs
    × (FilesStand old new ⊎ ((job : Job) × (job_of words ≡ Some job) × CutsFiles job inputs budget old new))
CutsShort words files status old new = Unit {0}
