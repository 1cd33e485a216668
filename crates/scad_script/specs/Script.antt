-- A command as a script: its steps, then how it ends. The whole answer is read off it.
use Rattle.std.specs.Prelude.{◌++◌, ◌+◌, ◌≤◌, ℕ, zero, suc, false, List, [], Option, Some, None, Result, Ok, Err, nat_lt, length, if◌then◌else◌}
use Rattle.std.specs.Option.{option_map_or}
use Rattle.scad_fault.specs.declared.budget.Budget.{Budget}
use Rattle.scad_fault.specs.declared.status.Status.{Status}
use Rattle.scad_fault.specs.declared.status.Status.TheVariants.{Done}
use Rattle.scad_fault.specs.Line.{line_of}
use Rattle.scad_io.specs.declared.desk.Out.TheVariants.{Report, Cli, Gcode}
use Rattle.scad_script.specs.declared.refusal.Refusal.{Refusal}
use Rattle.scad_script.specs.declared.refusal.Refusal.TheVariants.{Source, Usage, Settings, Over, Outside, BadFile}
use Rattle.scad_script.specs.declared.loading.Input.{Input}
use Rattle.scad_script.specs.declared.loading.Input.TheVariants.{Whole, Long}
use Rattle.scad_script.specs.Steps.{Step, text_of}

-- how a command ends
pub data Ending : Type 0 where
  -- all is done, and this is the report's last line
  Finishes : List ℕ → Ending
  -- the command is refused
  Refuses : Refusal → Ending
  -- what comes next depends on a file that isn't there
  Lacks : Ending

pub record Script : Type 0 where
  pub steps : List Step
  pub ending : Ending

-- a script with no steps
abbrev pub ends : Ending → Script
ends ending = record { steps = []; ending = ending }

-- these steps, and then a script
abbrev pub first : List Step → Script → Script
first steps s = record { steps = steps ++ s.steps; ending = s.ending }

-- the steps of one layer and then a script, or the end where the layer passes a budget
abbrev pub layer_then : Result (List Step) Budget → Script → Script
layer_then (Ok steps) rest = first steps rest
layer_then (Err budget) rest = ends (Refuses (Over budget))

-- so many layers from layer i on, and then a script; the first layer that passes a budget ends it
abbrev pub layers : (ℕ → Result (List Step) Budget) → ℕ → ℕ → Script → Script
layers layer i zero rest = rest
layers layer i (suc n) rest = layer_then (layer i) (layers layer (i + 1) n rest)

-- what is read of a file, where there is a limit to its length or none
abbrev pub input_of : Option ℕ → List ℕ → Input
input_of limit text = if option_map_or (λ most. nat_lt most (length text)) limit false then Long else Whole text

-- what was read whole is within the limit; where there is none, all is read
abbrev pub IsWithin : Option ℕ → Input → Type 0
IsWithin (Some most) (Whole text) = length text ≤ most
IsWithin (Some most) Long = Unit {0}
IsWithin None (Whole text) = Unit {0}
IsWithin None Long = ⊥

-- the status of a refusal
abbrev pub refused : Refusal → Status
refused (Source fault) = Status.Source fault
refused Usage = Status.Usage
refused (Settings fault) = Status.Settings fault
refused (Over budget) = Status.Over budget
refused (Outside number line) = Status.Outside number line
refused (BadFile kind first second) = Status.BadFile kind first second

-- A whole answer: the status, the report as its echo lines and its last line, and what goes to the other outputs.
pub record Answer : Type 0 where
  pub status : Status
  pub echoes : List ℕ
  pub line : List ℕ
  pub cli : List ℕ
  pub gcode : List ℕ

-- the answer with these steps, this status and this last line
abbrev pub answer_with : List Step → Status → List ℕ → Answer
answer_with steps status line =
    record { status = status; echoes = text_of Report steps; line = line; cli = text_of Cli steps; gcode = text_of Gcode steps }

-- the answer of steps that end so; there is none where a file isn't there
abbrev pub answer_by : List Step → Ending → Option Answer
answer_by steps (Finishes line) = Some (answer_with steps Done line)
answer_by steps (Refuses refusal) = Some (answer_with steps (refused refusal) (line_of (refused refusal)))
answer_by steps Lacks = None

-- the whole answer of a script
abbrev pub answer_of : Script → Option Answer
answer_of s = answer_by s.steps s.ending

-- What the whole answer has, nothing where there is no answer.

abbrev pub expected_echoes : Script → List ℕ
expected_echoes s = option_map_or (λ whole. whole.echoes) (answer_of s) []

abbrev pub expected_cli : Script → List ℕ
expected_cli s = option_map_or (λ whole. whole.cli) (answer_of s) []

abbrev pub expected_gcode : Script → List ℕ
expected_gcode s = option_map_or (λ whole. whole.gcode) (answer_of s) []
