-- Laws of what sources mean, of opinions, that the answer is there and is one, and that prints are confirmed.
use Rattle.std.specs.Prelude.{◌≡◌, ◌≢◌, List, ℕ, Option, Some, None}
use Rattle.scad_words.specs.declared.job.Job.{Job}
use Rattle.scad_words.specs.declared.settings.Settings.{Settings}
use Rattle.scad_words.specs.Job.{job_of}
use Rattle.scad_words.specs.Settings.{AreInRange}
use Rattle.scad_fault.specs.declared.status.Status.{Status}
use Rattle.scad_io.specs.Desk.{Files, View}
use Rattle.scad_script.specs.declared.loading.Input.{Input}
use Rattle.scad_script.specs.Script.{answer_of}
use Rattle.scad_machine.specs.declared.fault.EvalFault.TheVariants.{Memory}
use Rattle.scad_expr.specs.State.{State, gives, refuses}
use Rattle.scad_tree.specs.Solid.{Solid}
use Rattle.scad_tree.specs.Solids.{AreSolids}
use Rattle.scad_run.specs.SourceMeaning.{EachMeansOne}
use Rattle.scad_run.specs.Meaning.{source_means, Means}
use Rattle.scad_run.specs.Answer.{Findings, script_of, AreFoundBy, AreFound}
use Rattle.scad_run.specs.Inputs.{Inputs, settings_found}
use Rattle.scad_run.specs.Causes.{IsMissing}
use Rattle.scad_run.specs.Approval.{Confirms, ConfirmsPrints}

-- the tree that a source means is of solids
abbrev pub SourcesMeanSolids : Type 0
SourcesMeanSolids = (source : List ℕ) (tree : Solid) (s : State) → source_means source ≡ gives tree s → AreSolids tree

-- no source means that memory is wanting: it means a tree, or a fault or a budget of its own
abbrev pub SourcesWantNoMemory : Type 0
SourcesWantNoMemory = (source : List ℕ) (s : State) → source_means source ≢ refuses Memory s

-- so it means a tree, a fault or a budget, and one of them alone
abbrev pub SourcesMeanOne : Type 0
SourcesMeanOne = EachMeansOne Means

-- the settings of a run are in their ranges, those that were read and the defaults
abbrev pub SettingsAreInRange : Type 0
SettingsAreInRange =
    (name read : Option (List ℕ)) (settings : Settings) → settings_found name read ≡ Some settings → AreInRange settings

-- there are parts of the tree that a source means, and right opinions
abbrev pub AnswersAreThere : Type 0
AnswersAreThere = (input : Option Input) → (found : Findings) × AreFoundBy input found

-- all parts and all right opinions give one script, and so one answer
abbrev pub AnswersAreOne : Type 0
AnswersAreOne =
    (words : List (List ℕ)) (inputs : Inputs) (a b : Findings) → AreFound words inputs a → AreFound words inputs b
    → script_of words a inputs ≡ script_of words b inputs

-- there is no answer only where a file that is to be read is missing: a source that is there and within its limit has
-- one, and so have two files that are judged
abbrev pub AnswersLackFiles : Type 0
AnswersLackFiles =
    (words : List (List ℕ)) (inputs : Inputs) (found : Findings) → answer_of (script_of words found inputs) ≡ None
    → (job : Job) × (job_of words ≡ Some job) × IsMissing job inputs

-- a run that confirms all verdicts confirms prints: what `plan` writes is answered `inside` by the same settings
abbrev pub PrintsAreConfirmed : Type 0
PrintsAreConfirmed =
    (words : List (List ℕ)) (files : Files) (status : Status) (old new : View) (before now : ℕ)
    → Confirms words files status old new before now → ConfirmsPrints words files status old new before now
