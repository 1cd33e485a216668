-- The files that a job of the command line names.
use Rattle.std.specs.Prelude.{◌++◌, ◌∷◌, [], List, ℕ, Option, Some, None}
use Rattle.scad_script.specs.Names.{Given, nothing_given}
use Rattle.scad_words.specs.declared.job.Command.{Command}
use Rattle.scad_words.specs.declared.job.Command.TheVariants.{Check, Tree, Slice, Plan, Sample, Verify}
use Rattle.scad_words.specs.declared.job.Job.{Job}
use Rattle.scad_words.specs.Job.{job_of, named}

-- the name of the source, where it is read from a file
abbrev pub model_of : Command → Option (List ℕ)
model_of (Check model) = Some model
model_of (Tree model) = Some model
model_of (Slice model cli) = Some model
model_of (Plan model cli gcode) = Some model
model_of (Sample n) = None
model_of (Verify outlines program) = None

-- the name of the outlines that are written
abbrev pub cli_of : Command → Option (List ℕ)
cli_of (Check model) = None
cli_of (Tree model) = None
cli_of (Slice model cli) = Some cli
cli_of (Plan model cli gcode) = Some cli
cli_of (Sample n) = None
cli_of (Verify outlines program) = None

-- the name of the printing program that is written
abbrev pub gcode_of : Command → Option (List ℕ)
gcode_of (Check model) = None
gcode_of (Tree model) = None
gcode_of (Slice model cli) = None
gcode_of (Plan model cli gcode) = Some gcode
gcode_of (Sample n) = None
gcode_of (Verify outlines program) = None

-- the names of outlines, and of a printing program that is judged by them
pub record Case : Type 0 where
  pub outlines : List ℕ
  pub program : List ℕ

-- the files that a command judges
abbrev pub case_of : Command → Option Case
case_of (Check model) = None
case_of (Tree model) = None
case_of (Slice model cli) = None
case_of (Plan model cli gcode) = None
case_of (Sample n) = None
case_of (Verify outlines program) = Some (record { outlines = outlines; program = program })

abbrev pub both_named : Option Case → List (List ℕ)
both_named None = []
both_named (Some case) = case.outlines ∷ case.program ∷ []

-- the names that a command and its settings give
abbrev pub given_names : Command → Option (List ℕ) → Given
given_names command settings =
    record {
      input = named settings ++ named (model_of command) ++ both_named (case_of command);
      cli = cli_of command;
      gcode = gcode_of command;
    }

abbrev pub given_of : Option Job → Given
given_of None = nothing_given
given_of (Some job) = given_names job.command job.settings

-- the names that the words give
abbrev pub given_by : List (List ℕ) → Given
given_by words = given_of (job_of words)
