-- What a run answers: a script of the words, of what was read of the named files, of what is drawn, and of verdicts.
use Rattle.std.specs.Prelude.{List, [], ◌∷◌, ℕ, Option, Some, None, Result, Ok, Err}
use Rattle.scad_fault.specs.declared.settings.SetFault.{SetFault}
use Rattle.scad_io.specs.Desk.{Files}
use Rattle.scad_words.specs.declared.job.Command.{Command}
use Rattle.scad_words.specs.declared.job.Command.TheVariants.{Check, Tree, Slice, Plan, Sample, Verify}
use Rattle.scad_words.specs.declared.job.Job.{Job}
use Rattle.scad_words.specs.declared.settings.Settings.{Settings}
use Rattle.scad_words.specs.Job.{job_of}
use Rattle.scad_words.specs.Settings.{settings_of, default_settings, AreInRange}
use Rattle.scad_script.specs.declared.loading.Input.{Input}
use Rattle.scad_script.specs.declared.loading.Input.TheVariants.{Whole, Long}
use Rattle.scad_script.specs.declared.refusal.Refusal.TheVariants.{Usage, Settings as IsSettings, Over}
use Rattle.scad_script.specs.Steps.{Reads}
use Rattle.scad_script.specs.Script.{Script, Finishes, Refuses, Lacks, Answer, first, ends, answer_of}
use Rattle.scad_expr.specs.State.{Outcome, gives, refuses}
use Rattle.scad_tree.specs.Solid.{Solid}
use Rattle.slice_work.specs.declared.want.Want.{Want}
use Rattle.slice_work.specs.declared.want.Want.TheVariants.{Outlines as OutlinesAlone, Plan as WithPlan}
use Rattle.slice_work.specs.Part.{Part}
use Rattle.scad_slice.specs.Layer.{IsLayer}
use Rattle.scad_slice.specs.Script.{slice_script, plan_script}
use Rattle.scad_run.specs.Words.{Case, model_of, case_of}
use Rattle.scad_run.specs.Meaning.{source_means}
use Rattle.scad_run.specs.SourceReport.{check_script, tree_script, sample_script, told}
use Rattle.verdict_laws.specs.Opinion.{Opinions, AreRight}
use Rattle.scad_run.specs.Judging.{judgement, case_script}
use Rattle.scad_run.specs.Inputs.{source_long, Inputs, source_of, read_of, IsRead, source_in}

-- what is drawn of a tree, for each want and settings
abbrev pub Parts : Type 0
Parts = Want → Settings → Part

-- what follows the tree of a source, one line for each command; `verify` has no source, and nothing follows
abbrev pub follows : Command → Settings → Parts → Solid → Script
follows (Check model) settings parts tree = check_script settings.layer_height tree
follows (Tree model) settings parts tree = tree_script tree
follows (Slice model cli) settings parts tree = slice_script settings cli (parts OutlinesAlone settings) tree
follows (Plan model cli gcode) settings parts tree = plan_script settings cli gcode (parts WithPlan settings) tree
follows (Sample n) settings parts tree = sample_script n settings (parts WithPlan settings) tree
follows (Verify outlines program) settings parts tree = ends (Finishes [])

-- what follows a source, if it is there
abbrev pub input_script : Command → Settings → Parts → Option Input → Script
input_script command settings parts None = ends Lacks
input_script command settings parts (Some Long) = ends (Refuses (Over source_long))
input_script command settings parts (Some (Whole source)) = told (follows command settings parts) (source_means source)

-- a model is read, where there is one
abbrev pub model_read_first : Option (List ℕ) → Script → Script
model_read_first None rest = rest
model_read_first (Some model) rest = first (Reads model ∷ []) rest

-- a model is read, and what it means is told
abbrev pub model_script : Command → Parts → Option Input → Settings → Script
model_script command parts read settings =
    model_read_first (model_of command) (input_script command settings parts (source_of command read))

-- what is drawn of a tree, and the opinions on programs
pub record Findings : Type 0 where
  pub parts : Parts
  pub opinions : Opinions

-- a case is judged, where there is one, and else this follows
abbrev pub case_or : Option Case → Findings → Inputs → Settings → Script → Script
case_or None found inputs settings rest = rest
case_or (Some case) found inputs settings rest =
    case_script case inputs.outlines inputs.program (judgement found.opinions settings.line_width)

-- what follows the settings
abbrev pub after_settings : Command → Findings → Inputs → Settings → Script
after_settings command found inputs settings =
    case_or (case_of command) found inputs settings (model_script command found.parts inputs.model settings)

-- settings that were read are judged
abbrev pub judged_script : Result Settings SetFault → (Settings → Script) → Script
judged_script (Ok settings) follows = follows settings
judged_script (Err fault) follows = ends (Refuses (IsSettings fault))

abbrev pub read_script : Option (List ℕ) → (Settings → Script) → Script
read_script None follows = ends Lacks
read_script (Some text) follows = judged_script (settings_of text) follows

-- settings are read where a file of them is named, and else are the defaults; then something follows them
abbrev pub settings_script : Option (List ℕ) → Option (List ℕ) → (Settings → Script) → Script
settings_script None read follows = follows default_settings
settings_script (Some name) read follows = first (Reads name ∷ []) (read_script read follows)

-- the script of a command, with the name of its settings if it has one
abbrev pub command_script : Command → Option (List ℕ) → Findings → Inputs → Script
command_script command name found inputs =
    settings_script name inputs.settings (after_settings command found inputs)

-- the script of a job, if the words give one; the number of workers is no part of it
abbrev pub job_script : Option Job → Findings → Inputs → Script
job_script None found inputs = ends (Refuses Usage)
job_script (Some job) found inputs = command_script job.command job.settings found inputs

-- the script of the words, of what was read of the files that they name, and of what is drawn of the source's tree or
-- said of the program
abbrev pub script_of : List (List ℕ) → Findings → Inputs → Script
script_of words found inputs = job_script (job_of words) found inputs

-- parts of a tree: by settings in range each layer is the tree's
abbrev pub ArePartsOfTree : Solid → Parts → Type 0
ArePartsOfTree tree parts =
    (want : Want) (settings : Settings) → AreInRange settings
    → (i : ℕ) → IsLayer want settings tree i (parts want settings i)

-- parts of the tree, if there is one
abbrev pub ArePartsOf : Outcome Solid → Parts → Type 0
ArePartsOf (gives tree s) parts = ArePartsOfTree tree parts
ArePartsOf (refuses fault s) parts = Unit {0}

-- parts of the tree that a source means, if it is there and means one
abbrev pub AreDrawn : Option Input → Parts → Type 0
AreDrawn (Some (Whole source)) parts = ArePartsOf (source_means source) parts
AreDrawn input parts = Unit {0}

-- of a source, if there is one, these are the parts of its tree, and the opinions are right
pub record AreFoundBy (input : Option Input) (found : Findings) : Type 0 where
  pub drawn : AreDrawn input found.parts
  pub right : AreRight found.opinions

-- so it is of the source that the words name
abbrev pub AreFound : List (List ℕ) → Inputs → Findings → Type 0
AreFound words inputs found = AreFoundBy (source_in (job_of words) inputs) found

-- The script of the words and of what was read has this property, with the parts that there are of the source's tree,
-- with right opinions, and with all others. These give the same script (the law), so what is said here is said of the
-- answer.
pub record OnScript (words : List (List ℕ)) (files : Files) (Holds : Script → Type 0) : Type 0 where
  pub inputs : Inputs
  pub read : IsRead words files inputs
  pub findings : Findings
  pub found : AreFound words inputs findings
  pub holds : (others : Findings) → AreFound words inputs others → Holds (script_of words others inputs)

-- the whole answer for words, for what the names contain, for the parts of the source's tree and for right opinions;
-- there is none where a file that is to be read is missing
abbrev pub answer : List (List ℕ) → (List ℕ → Option (List ℕ)) → Findings → Option Answer
answer words contents found = answer_of (script_of words found (read_of words contents))
