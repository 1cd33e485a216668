-- What a run promises, one sentence each, where it isn't said of every script.
use Rattle.std.specs.Prelude.{◌≡◌, ◌⊎◌, ◌++◌, ◌<◌, ◌≤◌, List, [], ℕ, Option, Some, None, IfSome, IsSomeAnd, length}
use Rattle.std.specs.List.{flat_map}
use Rattle.scad_fault.specs.declared.budget.Budget.{Budget}
use Rattle.scad_fault.specs.declared.budget.BudgetKind.{BudgetKind}
use Rattle.scad_fault.specs.declared.budget.BudgetKind.TheVariants.{LayerEdges, LayerCrossings, LayerMoves, SupportRuns}
use Rattle.scad_fault.specs.declared.status.Status.{Status}
use Rattle.scad_fault.specs.declared.status.Status.TheVariants.{Done, Source, Usage, Settings, Read, Write, Over, Memory, Outside, BadFile}
use Rattle.scad_fault.specs.Line.{line_of}
use Rattle.scad_io.specs.Desk.{Files, View}
use Rattle.scad_words.specs.declared.job.Command.{Command}
use Rattle.scad_words.specs.declared.job.Command.TheVariants.{Check, Tree, Slice, Plan, Sample, Verify}
use Rattle.scad_words.specs.declared.job.Job.{Job}
use Rattle.scad_words.specs.declared.settings.Settings.{Settings as SettingsOfRun}
use Rattle.scad_words.specs.Job.{job_of}
use Rattle.scad_script.specs.declared.loading.Input.TheVariants.{Whole}
use Rattle.scad_script.specs.Script.{Script, expected_echoes}
use Rattle.scad_script.specs.Promises.{Adds}
use Rattle.cli_text.specs.Cli.{Layer, head, layer_text, cli as text_of_layers}
use Rattle.scad_tree.specs.Solid.{Solid}
use Rattle.gcode_text.specs.Gcode.{Printed, head as program_head, layers_text}
use Rattle.slice_work.specs.declared.want.Want.{Want}
use Rattle.slice_work.specs.declared.want.Want.TheVariants.{Outlines as OutlinesAlone, Plan as WithPlan}
use Rattle.slice_work.specs.Part.{layer_limit}
use Rattle.slice_work.specs.Rates.{rates_of}
use Rattle.scad_slice.specs.Budgets.{layer_count}
use Rattle.scad_slice.specs.Layer.{IsWithinLimits}
use Rattle.scad_slice.specs.Membership.{HoldTree}
use Rattle.scad_run.specs.Words.{model_of, cli_of}
use Rattle.scad_run.specs.Answer.{Findings, AreFound, answer}
use Rattle.scad_run.specs.Inputs.{source_limit, source_of, text_read, read_of, GoBy}
use Rattle.scad_run.specs.Meaning.{MeansTree}

-- what a name contains has this property, where the contents are told
abbrev pub Contains : Files → List ℕ → (List ℕ → Type 0) → Type 0
Contains files name P = IfSome files (λ contents. IsSomeAnd (contents name) P)

-- the source is there and is within its limit, and means this tree
abbrev pub IsTreeOf : Files → List ℕ → Solid → Type 0
IsTreeOf files model tree = Contains files model (λ source. (length source ≤ source_limit) × MeansTree tree source)

-- Every status but Read, Write and Memory: the status and the bytes of all outputs are the answer for the words and the
-- files, with all parts of the source's tree and all right opinions.
abbrev pub IsWholeAnswer : List (List ℕ) → Files → Status → View → View → Type 0
IsWholeAnswer words files status old new =
    IfSome files (λ contents. (found : Findings) → AreFound words (read_of words contents) found
    → IsSomeAnd (answer words contents found) (λ whole.
    (whole.status ≡ status) × Adds (whole.echoes ++ whole.line) old.report new.report
    × Adds whole.cli old.cli new.cli × Adds whole.gcode old.gcode new.gcode))

abbrev pub Answers : List (List ℕ) → Files → Status → View → View → Type 0
Answers words files Read old new = Unit {0}
Answers words files Write old new = Unit {0}
Answers words files Memory old new = Unit {0}
Answers words files status old new = IsWholeAnswer words files status old new

-- Status 0 of `slice` and `plan`: the outlines that were written are the text of layers, of the height that the
-- settings give, that hold what the tree of the source contains.
abbrev pub OutlinesHoldTree : List (List ℕ) → Files → View → View → Type 0
OutlinesHoldTree words files old new =
    (job : Job) (model cli : List ℕ) → job_of words ≡ Some job → model_of job.command ≡ Some model → cli_of job.command
    ≡ Some cli
    → (settings : SettingsOfRun) × (tree : Solid) × (layers : List Layer)
    × IfSome files (λ contents. GoBy contents job.settings settings)
    × IsTreeOf files model tree × Adds (text_of_layers layers) old.cli new.cli × HoldTree settings.layer_height tree
    layers

-- the report is the lines of `echo` and the status's line
abbrev pub IsReported : Script → Status → View → View → Type 0
IsReported whole status old new = Adds (expected_echoes whole ++ line_of status) old.report new.report

-- no output is created
abbrev pub IsRefused : Script → Status → View → View → Type 0
IsRefused whole status old new = IsReported whole status old new × (new.cli ≡ old.cli) × (new.gcode ≡ old.gcode)

-- the head of a printing program and the layers before this one: that of the budget, or, where supports are printed, it
-- may be the first
pub record IsProgramFront (layer : ℕ) (budget : Budget) (text : List ℕ) : Type 0 where
  pub settings : SettingsOfRun
  pub ends : (layer ≡ budget.layer) ⊎ ((layer ≡ 0) × (0 < settings.support_spacing))
  pub printed : List Printed
  pub count : length printed ≡ layer
  pub is : text ≡ program_head settings.hot_end settings.bed ++ layers_text (rates_of settings) 0 0 printed

-- a budget of a layer's outlines or its plan, or of the stretches below higher layers
abbrev pub IsOfLayers : BudgetKind → Type 0
IsOfLayers kind = (kind ≡ LayerEdges) ⊎ ((kind ≡ LayerCrossings) ⊎ ((kind ≡ LayerMoves) ⊎ (kind ≡ SupportRuns)))

-- a layer passed the budget: the outlines are the head and the layers before it, without an end; so is the printing
-- program, where there is one
pub record IsCutShort (whole : Script) (budget : Budget) (old new : View) : Type 0 where
  pub kind : IsOfLayers budget.kind
  pub reported : IsReported whole (Over budget) old new
  pub count : ℕ
  pub layer : ℕ
  pub before : List Layer
  pub number : length before ≡ layer
  pub inside : layer < count
  pub outlines : Adds (head count ++ flat_map layer_text before) old.cli new.cli
  pub program : (text : List ℕ) × (((text ≡ []) × (layer ≡ budget.layer)) ⊎ IsProgramFront layer budget text)
      × Adds text old.gcode new.gcode

-- Each refusal: the report is the lines of `echo` and the status's line, and no output is created, unless a layer passed a
-- budget.
abbrev pub Refuses : Script → Status → View → View → Type 0
Refuses whole (Source fault) old new = IsRefused whole (Source fault) old new
Refuses whole Usage old new = IsRefused whole Usage old new
Refuses whole (Settings fault) old new = IsRefused whole (Settings fault) old new
Refuses whole (Over budget) old new = IsRefused whole (Over budget) old new ⊎ IsCutShort whole budget old new
Refuses whole (Outside number line) old new = IsRefused whole (Outside number line) old new
Refuses whole (BadFile kind first second) old new = IsRefused whole (BadFile kind first second) old new
Refuses whole status old new = Unit {0}

-- `check`, `tree`, `sample` and `verify` leave the outputs but the report as they were, at every status
abbrev pub LeavesBoth : Command → View → View → Type 0
LeavesBoth (Slice model cli) old new = Unit {0}
LeavesBoth (Plan model cli gcode) old new = Unit {0}
LeavesBoth command old new = (new.cli ≡ old.cli) × (new.gcode ≡ old.gcode)

abbrev pub LeavesOutputs : Option Job → View → View → Type 0
LeavesOutputs None old new = Unit {0}
LeavesOutputs (Some job) old new = LeavesBoth job.command old new

-- but for Write and Memory: the words are of no form where the usage is answered, and of the form else
abbrev pub JudgesJob : Option Job → Status → Type 0
JudgesJob job Usage = job ≡ None
JudgesJob job Write = Unit {0}
JudgesJob job Memory = Unit {0}
JudgesJob job status = (given : Job) × (job ≡ Some given)

abbrev pub JudgesWords : List (List ℕ) → Status → Type 0
JudgesWords words status = JudgesJob (job_of words) status

-- a tree has no more layers than the limit, and each can be laid out
abbrev pub CanBeDrawn : Want → SettingsOfRun → Solid → Type 0
CanBeDrawn want settings tree =
    (layer_count settings.layer_height tree ≤ layer_limit)
    × ((i : ℕ) → i < layer_count settings.layer_height tree → IsWithinLimits want settings tree i)

-- what a command asks of its source: that it means a tree; `check` and those that draw, that this has no more layers
-- than the limit; those that draw, that none of them passes a budget; `verify` has no source
abbrev pub Accepts : Command → SettingsOfRun → Solid → Type 0
Accepts (Check model) settings tree = layer_count settings.layer_height tree ≤ layer_limit
Accepts (Tree model) settings tree = Unit {0}
Accepts (Slice model cli) settings tree = CanBeDrawn OutlinesAlone settings tree
Accepts (Plan model cli gcode) settings tree = CanBeDrawn WithPlan settings tree
Accepts (Sample n) settings tree = CanBeDrawn WithPlan settings tree
Accepts (Verify outlines program) settings tree = ⊥

abbrev pub IsAccepted : Command → SettingsOfRun → List ℕ → Type 0
IsAccepted command settings source = (tree : Solid) × MeansTree tree source × Accepts command settings tree

-- Where the words are of the form, the settings are accepted, the source is within its limit and accepted, and the
-- count of faults doesn't rise, all is done, or memory is wanting.
abbrev pub IsComplete : List (List ℕ) → Files → Status → ℕ → ℕ → Type 0
IsComplete words files status before now =
    IfSome files (λ contents. (job : Job) (settings : SettingsOfRun) (source : List ℕ) → job_of words ≡ Some job
    → GoBy contents job.settings settings → source_of job.command (text_read (model_of job.command) contents)
    ≡ Some (Whole source)
    → IsAccepted job.command settings source → now ≡ before → (status ≡ Done) ⊎ (status ≡ Memory))
