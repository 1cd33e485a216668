-- What a run reads: the settings, the source, and the files that are judged, of the words and of what the files contain.
use Rattle.std.specs.Prelude.{◌≡◌, List, ℕ, Option, Some, None, IfSome, option_map, Result, Ok, Err}
use Rattle.std.specs.Option.{option_and_then}
use Rattle.scad_fault.specs.declared.budget.Budget.{Budget}
use Rattle.scad_fault.specs.declared.budget.BudgetKind.TheVariants.{SourceLong, FileLong}
use Rattle.scad_fault.specs.declared.settings.SetFault.{SetFault}
use Rattle.scad_fault.specs.Place.{no_place}
use Rattle.scad_io.specs.Desk.{Files}
use Rattle.scad_words.specs.declared.job.Command.{Command}
use Rattle.scad_words.specs.declared.job.Command.TheVariants.{Check, Tree, Slice, Plan, Sample, Verify}
use Rattle.scad_words.specs.declared.job.Job.{Job}
use Rattle.scad_words.specs.declared.settings.Settings.{Settings}
use Rattle.scad_words.specs.Job.{job_of}
use Rattle.scad_words.specs.Settings.{settings_of, default_settings}
use Rattle.scad_script.specs.declared.loading.Input.{Input}
use Rattle.scad_script.specs.declared.loading.Input.TheVariants.{Whole}
use Rattle.scad_script.specs.Script.{input_of}
use Rattle.scad_sample.specs.Sample.{sample_text}
pub use Rattle.verdict_laws.specs.OwnOutlines.{file_limit}
use Rattle.scad_run.specs.Words.{Case, model_of, case_of}

-- the most bytes that a source may have
abbrev pub source_limit : ℕ
source_limit = 4194304

-- a source that is too long
abbrev pub source_long : Budget
source_long = record { kind = SourceLong; at = no_place; layer = 0; count = 0 }

-- a file that is too long to be judged
abbrev pub file_long : Budget
file_long = record { kind = FileLong; at = no_place; layer = 0; count = 0 }

-- what was read of the files that are named: of the settings, of the model, and of the outlines and the printing program
-- that is judged by them
pub record Inputs : Type 0 where
  pub settings : Option (List ℕ)
  pub model : Option Input
  pub outlines : Option Input
  pub program : Option Input

-- the source of a command: what was read of its model; that of `sample` is made from its number; `verify` has none
abbrev pub source_of : Command → Option Input → Option Input
source_of (Check model) read = read
source_of (Tree model) read = read
source_of (Slice model cli) read = read
source_of (Plan model cli gcode) read = read
source_of (Sample n) read = Some (Whole (sample_text n))
source_of (Verify outlines program) read = None

-- what is read of the settings that a job names
abbrev pub settings_read : Option Job → (List ℕ → Option (List ℕ)) → Option (List ℕ)
settings_read job contents = option_and_then (λ job. option_and_then contents job.settings) job

-- what is read of a model that is named
abbrev pub text_read : Option (List ℕ) → (List ℕ → Option (List ℕ)) → Option Input
text_read name contents = option_map (input_of (Some source_limit)) (option_and_then contents name)

-- what is read of the model that a job names
abbrev pub model_read : Option Job → (List ℕ → Option (List ℕ)) → Option Input
model_read job contents = option_and_then (λ job. text_read (model_of job.command) contents) job

-- what is read of a file that is judged, where one is named
abbrev pub file_read : Option (List ℕ) → (List ℕ → Option (List ℕ)) → Option Input
file_read name contents = option_map (input_of (Some file_limit)) (option_and_then contents name)

-- the names of both files of a case, where there is one
abbrev pub outlines_named : Option Case → Option (List ℕ)
outlines_named case = option_map (λ case. case.outlines) case

abbrev pub program_named : Option Case → Option (List ℕ)
program_named case = option_map (λ case. case.program) case

-- what is read of both files that a job judges
abbrev pub outlines_read : Option Job → (List ℕ → Option (List ℕ)) → Option Input
outlines_read job contents = option_and_then (λ job. file_read (outlines_named (case_of job.command)) contents) job

abbrev pub program_read : Option Job → (List ℕ → Option (List ℕ)) → Option Input
program_read job contents = option_and_then (λ job. file_read (program_named (case_of job.command)) contents) job

-- what is read of the files that the words name
abbrev pub read_of : List (List ℕ) → (List ℕ → Option (List ℕ)) → Inputs
read_of words contents =
    record {
      settings = settings_read (job_of words) contents;
      model = model_read (job_of words) contents;
      outlines = outlines_read (job_of words) contents;
      program = program_read (job_of words) contents;
    }

-- this was read, where the contents are told
abbrev pub IsRead : List (List ℕ) → Files → Inputs → Type 0
IsRead words files inputs = IfSome files (λ contents. inputs ≡ read_of words contents)

-- the source of the words' job
abbrev pub source_in : Option Job → Inputs → Option Input
source_in None inputs = None
source_in (Some job) inputs = source_of job.command inputs.model

-- the settings that a text gives, if it gives any
abbrev pub accepted : Result Settings SetFault → Option Settings
accepted (Ok settings) = Some settings
accepted (Err fault) = None

-- the settings of a run: those of the text that was read of the file that is named, if it is there and gives any; the
-- defaults where none is named
abbrev pub settings_found : Option (List ℕ) → Option (List ℕ) → Option Settings
settings_found None read = Some default_settings
settings_found (Some name) read = option_and_then (λ text. accepted (settings_of text)) read

-- the settings that the contents give under this name; the defaults where there is none
abbrev pub GoBy : (List ℕ → Option (List ℕ)) → Option (List ℕ) → Settings → Type 0
GoBy contents name settings = settings_found name (option_and_then contents name) ≡ Some settings
