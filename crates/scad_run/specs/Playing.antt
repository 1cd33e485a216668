-- What the calls that play a source's script leave of it.
use Rattle.std.specs.Prelude.{◌≡◌, List, ℕ, Option, Some, None, IfSome, Result, Ok, Err}
use Rattle.std.specs.Option.{option_and_then}
use Rattle.scad_fault.specs.declared.settings.SetFault.{SetFault}
use Rattle.scad_io.specs.Desk.{Files, View}
use Rattle.scad_words.specs.declared.job.Command.{Command}
use Rattle.scad_words.specs.declared.job.Job.{Job}
use Rattle.scad_words.specs.declared.settings.Settings.{Settings}
use Rattle.scad_script.specs.declared.loading.Input.{Input}
use Rattle.scad_script.specs.declared.refusal.Refusal.TheVariants.{Usage, Settings as IsSettings}
use Rattle.scad_script.specs.declared.stop.Stop.{Stop}
use Rattle.scad_script.specs.Script.{Script, Finishes, Refuses, ends}
use Rattle.scad_script.specs.Play.{Left, Stops, EndsIn, Completes}
use Rattle.scad_expr.specs.State.{Outcome}
use Rattle.cli_read.specs.declared.fault.CliFault.{CliFault}
use Rattle.cli_read.specs.declared.fault.CliFault.TheVariants.{Memory}
use Rattle.scad_tree.specs.declared.tree.Tree.{Tree as TreeInMemory}
use Rattle.scad_tree.specs.Solid.{Solid}
use Rattle.scad_tree.specs.View.{solid_of}
use Rattle.scad_run.specs.SourceReport.{told}
use Rattle.scad_run.specs.Words.{Case, model_of}
use Rattle.verdict_laws.specs.Opinion.{Opinions, AreRight}
use Rattle.scad_run.specs.Judging.{outlines_refused, judgement, file_then, case_script}
use Rattle.scad_run.specs.Answer.{Parts, model_script, Findings, settings_script, script_of, AreDrawn, AreFound}
use Rattle.scad_run.specs.Inputs.{Inputs, source_of, text_read, file_read, IsRead}

-- what follows the tree is left, or the script stopped
abbrev pub Brings : (Solid → Script) → Script → Result TreeInMemory Stop → View → View → Type 0
Brings follows whole (Ok tree) old new = Left whole (follows (solid_of tree)) old new
Brings follows whole (Err stop) old new = Stops whole stop old new

-- in every script that tells a source next it was told, and what follows its tree comes next
abbrev pub Tells : Outcome Solid → Result TreeInMemory Stop → View → View → Type 0
Tells meaning result old new =
    (follows : Solid → Script) (whole : Script) (start : View) → Left whole (told follows meaning) start old
    → Brings follows whole result start new

-- nothing is left of a script but this end, or there was no memory for its line
abbrev pub IsEnd : Script → Result (List ℕ) Stop → Type 0
IsEnd script (Ok line) = script ≡ ends (Finishes line)
IsEnd script (Err (Stop.Ends refusal)) = script ≡ ends (Refuses refusal)
IsEnd script (Err Stop.Memory) = Unit {0}
IsEnd script (Err stop) = ⊥

-- the words ask for nothing, or memory was wanting
abbrev pub AsksNothing : Option Job → Stop → Type 0
AsksNothing job (Stop.Ends refusal) = (refusal ≡ Usage) × (job ≡ None)
AsksNothing job Stop.Memory = Unit {0}
AsksNothing job stop = ⊥

-- a text's settings are these, or their fault, or memory was wanting
abbrev pub IsJudged : Result Settings SetFault → Result Settings Stop → Type 0
IsJudged meant (Ok settings) = meant ≡ Ok settings
IsJudged meant (Err (Stop.Ends refusal)) = (fault : SetFault) × (refusal ≡ IsSettings fault) × (meant ≡ Err fault)
IsJudged meant (Err Stop.Memory) = Unit {0}
IsJudged meant (Err stop) = ⊥

-- after the settings of a job what follows them comes next, or the script stopped
abbrev pub Settled : (Settings → Script) → Script → Result Settings Stop → View → View → Type 0
Settled follows whole (Ok settings) old new = Left whole (follows settings) old new
Settled follows whole (Err stop) old new = Stops whole stop old new

-- in every script in which the settings of this name come next they were read and judged
pub record Settles (name : Option (List ℕ)) (files : Files) (result : Result Settings Stop) (old new : View) : Type 0 where
  pub read : Option (List ℕ)
  pub told : IfSome files (λ contents. read ≡ option_and_then contents name)
  pub goes : (follows : Settings → Script) (whole : Script) (start : View)
      → Left whole (settings_script name read follows) start old
      → Settled follows whole result start new

-- this source of a command was read, or made
pub record Gets (command : Command) (files : Files) (input : Input) : Type 0 where
  pub read : Option Input
  pub told : IfSome files (λ contents. read ≡ text_read (model_of command) contents)
  pub gives : source_of command read ≡ Some input

-- this was read of the model of a command, where it has one, and with all parts of the source's tree what follows the
-- settings was played
pub record Draws (command : Command) (settings : Settings) (files : Files) (result : Result (List ℕ) Stop)
    (old new : View)
    : Type 0 where
  pub read : Option Input
  pub told : IfSome files (λ contents. read ≡ text_read (model_of command) contents)
  pub goes : (parts : Parts) → AreDrawn (source_of command read) parts
      → Completes (model_script command parts read settings) result old new

-- after a file that is judged what follows it comes next, or the script stopped
abbrev pub Follows : (List ℕ → Script) → Script → Result (List ℕ) Stop → View → View → Type 0
Follows follows whole (Ok text) old new = Left whole (follows text) old new
Follows follows whole (Err stop) old new = Stops whole stop old new

-- this was read of a file that is judged, in every script in which it comes next
pub record LoadsWhole (name : List ℕ) (files : Files) (result : Result (List ℕ) Stop) (old new : View) : Type 0 where
  pub read : Option Input
  pub told : IfSome files (λ contents. read ≡ file_read (Some name) contents)
  pub goes : (follows : List ℕ → Script) (whole : Script) (start : View)
      → Left whole (file_then name read follows) start old → Follows follows whole result start new

-- outlines with this fault are refused, or memory was wanting
abbrev pub IsRefusedBy : CliFault → Stop → Type 0
IsRefusedBy fault (Stop.Ends refusal) = outlines_refused fault ≡ Refuses refusal
IsRefusedBy fault Stop.Memory = fault ≡ Memory
IsRefusedBy fault stop = ⊥

-- these were read of both files of a case, and with all right opinions what follows the settings was played
pub record Judges (case : Case) (width : ℕ) (files : Files) (result : Result (List ℕ) Stop) (old new : View)
    : Type 0 where
  pub outlines : Option Input
  pub program : Option Input
  pub told : IfSome files (λ contents.
      (outlines ≡ file_read (Some case.outlines) contents) × (program ≡ file_read (Some case.program) contents))
  pub goes : (opinions : Opinions) → AreRight opinions
      → Completes (case_script case outlines program (judgement opinions width)) result old new

-- with all parts of the source's tree and all right opinions, the script of the words and of what was read was played
pub record Works (words : List (List ℕ)) (files : Files) (result : Result (List ℕ) Stop) (old new : View) : Type 0 where
  pub inputs : Inputs
  pub read : IsRead words files inputs
  pub plays : (found : Findings) → AreFound words inputs found → EndsIn (script_of words found inputs) result old new
