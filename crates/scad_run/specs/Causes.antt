-- Every refusal has its named cause. What a source means is a parameter, as in the headline.
use Rattle.std.specs.Prelude.{◌≡◌, ◌⊎◌, ◌<◌, ◌≤◌, true, List, ℕ, Option, Some, None, Ok, Err}
use Rattle.scad_fault.specs.declared.budget.Budget.{Budget}
use Rattle.scad_fault.specs.declared.fault.Fault.{Fault}
use Rattle.scad_fault.specs.declared.settings.SetFault.{SetFault}
use Rattle.scad_fault.specs.declared.verdict.BadKind.{BadKind}
use Rattle.scad_fault.specs.declared.verdict.BadKind.TheVariants.{CliLine, CliCount, CliOpen, GWord, GNumber}
use Rattle.scad_fault.specs.declared.status.Status.{Status}
use Rattle.scad_fault.specs.declared.status.Status.TheVariants.{Source, Usage, Settings, Read, Write, Over, Outside, BadFile}
use Rattle.scad_io.specs.Desk.{Files, View}
use Rattle.scad_words.specs.declared.job.Command.{Command}
use Rattle.scad_words.specs.declared.job.Command.TheVariants.{Check, Tree, Slice, Plan, Sample, Verify}
use Rattle.scad_words.specs.declared.job.Job.{Job}
use Rattle.scad_words.specs.declared.settings.Settings.{Settings as SettingsOfRun}
use Rattle.scad_words.specs.Job.{job_of}
use Rattle.scad_words.specs.Settings.{settings_of}
use Rattle.scad_script.specs.declared.loading.Input.TheVariants.{Whole, Long}
use Rattle.scad_script.specs.Promises.{IsReadFault, HasFailed}
use Rattle.cli_text.specs.Cli.{Layer}
use Rattle.cli_read.specs.declared.fault.CliFault.TheVariants.{BadLine, CountDiffers, OpenLoop}
use Rattle.cli_read.specs.Reading.{reading}
use Rattle.gcode_text.specs.declared.fault.GFault.{GFault}
use Rattle.gcode_text.specs.declared.fault.GFault.TheVariants.{UnknownWord, BadNumber}
use Rattle.plan_verify.specs.declared.verdict.Verdict.{Verdict}
use Rattle.plan_verify.specs.declared.verdict.Verdict.TheVariants.{Outside as GoesOutside}
use Rattle.plan_verify.specs.Verdict.{program_moves, IsVerdict}
use Rattle.scad_tree.specs.Solid.{Solid}
use Rattle.slice_work.specs.declared.want.Want.{Want}
use Rattle.slice_work.specs.declared.want.Want.TheVariants.{Outlines as OutlinesAlone, Plan as WithPlan}
use Rattle.slice_work.specs.Part.{layer_limit}
use Rattle.scad_slice.specs.Budgets.{layer_count, layers_passed}
use Rattle.scad_slice.specs.Layer.{IsLayer, IsWithinLimits}
use Rattle.scad_run.specs.Words.{Case, case_of, given_by}
use Rattle.scad_run.specs.SourceMeaning.{Meant, meant_tree, meant_fault, meant_budget}
use Rattle.scad_run.specs.Inputs.{Inputs, source_long, file_long, source_in, settings_found, IsRead}

-- a tree has more layers than the limit, and the budget says how many
abbrev pub HasManyLayers : SettingsOfRun → Solid → Budget → Type 0
HasManyLayers settings tree budget =
    (layer_limit < layer_count settings.layer_height tree)
    × (budget ≡ layers_passed (layer_count settings.layer_height tree))

-- There are not too many layers, and the least one that passes a budget passes this one. With supports that is the first,
-- where the outlines of any layer pass one or the stretches below higher layers, those of all counted, pass their limit:
-- so `IsLayer` says of each layer.
pub record PassesAtLayer (want : Want) (settings : SettingsOfRun) (tree : Solid) (budget : Budget) : Type 0 where
  pub few : layer_count settings.layer_height tree ≤ layer_limit
  pub layer : ℕ
  pub there : layer < layer_count settings.layer_height tree
  pub below : (i : ℕ) → i < layer → IsWithinLimits want settings tree i
  pub passes : IsLayer want settings tree layer (Err budget)

-- what a command does with a tree passes this budget
abbrev pub PassesDrawing : Command → SettingsOfRun → Solid → Budget → Type 0
PassesDrawing (Check model) settings tree budget = HasManyLayers settings tree budget
PassesDrawing (Tree model) settings tree budget = ⊥
PassesDrawing (Slice model cli) settings tree budget =
    HasManyLayers settings tree budget ⊎ PassesAtLayer OutlinesAlone settings tree budget
PassesDrawing (Plan model cli gcode) settings tree budget =
    HasManyLayers settings tree budget ⊎ PassesAtLayer WithPlan settings tree budget
PassesDrawing (Sample n) settings tree budget =
    HasManyLayers settings tree budget ⊎ PassesAtLayer WithPlan settings tree budget
PassesDrawing (Verify outlines program) settings tree budget = ⊥

-- the evaluation of a source that was read whole passes this budget
pub record EvaluationPasses (Means : List ℕ → Meant → Type 0) (job : Job) (inputs : Inputs) (budget : Budget)
    : Type 0 where
  pub source : List ℕ
  pub whole : source_in (Some job) inputs ≡ Some (Whole source)
  pub settings : SettingsOfRun
  pub found : settings_found job.settings inputs.settings ≡ Some settings
  pub means : Means source (meant_budget budget)

-- what the command does with its tree passes this budget
pub record DrawingPasses (Means : List ℕ → Meant → Type 0) (job : Job) (inputs : Inputs) (budget : Budget) : Type 0 where
  pub source : List ℕ
  pub whole : source_in (Some job) inputs ≡ Some (Whole source)
  pub settings : SettingsOfRun
  pub found : settings_found job.settings inputs.settings ≡ Some settings
  pub tree : Solid
  pub means : Means source (meant_tree tree)
  pub passes : PassesDrawing job.command settings tree budget

-- a source that was read whole means this fault
pub record MeansFault (Means : List ℕ → Meant → Type 0) (job : Job) (inputs : Inputs) (fault : Fault) : Type 0 where
  pub source : List ℕ
  pub whole : source_in (Some job) inputs ≡ Some (Whole source)
  pub settings : SettingsOfRun
  pub found : settings_found job.settings inputs.settings ≡ Some settings
  pub means : Means source (meant_fault fault)

-- there is no source, or, where files are judged, not both of them
abbrev pub IsUnread : Option Case → Job → Inputs → Type 0
IsUnread None job inputs = source_in (Some job) inputs ≡ None
IsUnread (Some case) job inputs = (inputs.outlines ≡ None) ⊎ (inputs.program ≡ None)

-- a file that is to be read is missing: that of the settings, or, where settings are found, that of the model or one of
-- those that are judged
abbrev pub IsMissing : Job → Inputs → Type 0
IsMissing job inputs =
    ((name : List ℕ) × (job.settings ≡ Some name) × (inputs.settings ≡ None))
    ⊎ ((settings : SettingsOfRun) × (settings_found job.settings inputs.settings ≡ Some settings)
    × IsUnread (case_of job.command) job inputs)

-- the text of the settings has this fault
pub record SettingsHaveFault (job : Job) (inputs : Inputs) (fault : SetFault) : Type 0 where
  pub name : List ℕ
  pub named : job.settings ≡ Some name
  pub text : List ℕ
  pub read : inputs.settings ≡ Some text
  pub judged : settings_of text ≡ Err fault

-- the settings are accepted, and the source is too long
pub record SourceIsLong (job : Job) (inputs : Inputs) (budget : Budget) : Type 0 where
  pub long : source_in (Some job) inputs ≡ Some Long
  pub settings : SettingsOfRun
  pub found : settings_found job.settings inputs.settings ≡ Some settings
  pub is : budget ≡ source_long

-- the settings are accepted, and one of the files that are judged is too long: the outlines, or the program where they
-- aren't
pub record FileIsLong (job : Job) (inputs : Inputs) (budget : Budget) : Type 0 where
  pub case : Case
  pub named : case_of job.command ≡ Some case
  pub settings : SettingsOfRun
  pub found : settings_found job.settings inputs.settings ≡ Some settings
  pub long : (inputs.outlines ≡ Some Long)
      ⊎ ((outlines : List ℕ) × (inputs.outlines ≡ Some (Whole outlines)) × (inputs.program ≡ Some Long))
  pub is : budget ≡ file_long

-- the settings are accepted, and both files that are judged were read whole
pub record AreJudged (job : Job) (inputs : Inputs) : Type 0 where
  pub case : Case
  pub named : case_of job.command ≡ Some case
  pub settings : SettingsOfRun
  pub found : settings_found job.settings inputs.settings ≡ Some settings
  pub outlines : List ℕ
  pub outlines_whole : inputs.outlines ≡ Some (Whole outlines)
  pub program : List ℕ
  pub program_whole : inputs.program ≡ Some (Whole program)

-- both have this verdict: the outlines say layers, and by these the program's moves are judged
pub record HaveVerdict (job : Job) (inputs : Inputs) (verdict : Verdict) : Type 0 where
  pub judged : AreJudged job inputs
  pub layers : List Layer
  pub said : reading judged.outlines ≡ Ok layers
  pub is : IsVerdict layers judged.settings.line_width judged.program (Ok verdict)

-- the outlines say layers, and the program has this refusal
abbrev pub ProgramRefused : List ℕ → List ℕ → GFault → Type 0
ProgramRefused outlines program fault =
    ((layers : List Layer) × (reading outlines ≡ Ok layers)) × (program_moves program ≡ Err fault)

-- why one of two files isn't of the form: the outlines, or the program where they are
abbrev pub IsBad : BadKind → ℕ → ℕ → List ℕ → List ℕ → Type 0
IsBad CliLine first second outlines program = (reading outlines ≡ Err (BadLine first)) × (second ≡ 0)
IsBad CliCount first second outlines program = reading outlines ≡ Err (CountDiffers first second)
IsBad CliOpen first second outlines program = (reading outlines ≡ Err (OpenLoop first)) × (second ≡ 0)
IsBad GWord first second outlines program = ProgramRefused outlines program (UnknownWord first) × (second ≡ 0)
IsBad GNumber first second outlines program = ProgramRefused outlines program (BadNumber first) × (second ≡ 0)

abbrev pub HaveBadFile : Job → Inputs → BadKind → ℕ → ℕ → Type 0
HaveBadFile job inputs kind first second =
    (judged : AreJudged job inputs) × IsBad kind first second judged.outlines judged.program

-- the source is too long, or a file that is judged, or a budget is passed
abbrev pub IsTooMuch : (List ℕ → Meant → Type 0) → Job → Inputs → Budget → Type 0
IsTooMuch Means job inputs budget =
    SourceIsLong job inputs budget ⊎ (FileIsLong job inputs budget
    ⊎ (EvaluationPasses Means job inputs budget ⊎ DrawingPasses Means job inputs budget))

-- the cause in the words and in what was read of the files
abbrev pub IsCause : (List ℕ → Meant → Type 0) → Option Job → Inputs → Status → Type 0
IsCause Means job inputs Usage = job ≡ None
IsCause Means job inputs (Settings fault) = (given : Job) × (job ≡ Some given) × SettingsHaveFault given inputs fault
IsCause Means job inputs (Source fault) = (given : Job) × (job ≡ Some given) × MeansFault Means given inputs fault
IsCause Means job inputs (Over budget) = (given : Job) × (job ≡ Some given) × IsTooMuch Means given inputs budget
IsCause Means job inputs (Outside number line) =
    (given : Job) × (job ≡ Some given) × HaveVerdict given inputs (GoesOutside number line)
IsCause Means job inputs (BadFile kind first second) =
    (given : Job) × (job ≡ Some given) × HaveBadFile given inputs kind first second
IsCause Means job inputs status = Unit {0}

-- The cause that each status names: of Usage, Settings, Source, Over, Outside and BadFile one in the words and in what was
-- read of the files; of Read the input, by a name of the words, and of Write a file, by its name in the words, or the report: it
-- failed while the count of faults rose. Want of memory has no further cause.
abbrev pub HasNamedCause : (List ℕ → Meant → Type 0) → List (List ℕ) → Files → Status → View → View → ℕ → ℕ → Type 0
HasNamedCause Means words files Read old new before now = (before < now) × IsReadFault (given_by words) old new
HasNamedCause Means words files Write old new before now =
    (before < now) × (HasFailed (given_by words) new ⊎ (new.report.failed ≡ true))
HasNamedCause Means words files status old new before now =
    (inputs : Inputs) × IsRead words files inputs × IsCause Means (job_of words) inputs status
