-- What the words ask for, over what clap promises of simple commands. A word is the list of its bytes.
use Rattle.std.specs.Prelude.{ℕ, Bool, true, false, not, ◌&&◌, if◌then◌else◌, List, [], ◌∷◌, ◌++◌, Option, Some, None, option_map, option_and_then, codes, bytes_eq}
use Rattle.std.specs.List.{list_any}
use Rattle.clap.specs.Walk.{Row, Text, first_of}
use Rattle.clap.specs.Simple.{subcommand_of}
use Rattle.clap.specs.Kinds.{Kinds}
use Rattle.clap.specs.Faults.{fault_of}
use Rattle.scad_words.specs.CommandSet.{command_set}
use Rattle.scad_words.specs.Numbers.{workers_of, sample_of}
use Rattle.scad_words.specs.declared.job.Command.{Command}
use Rattle.scad_words.specs.declared.job.Command.TheVariants.{Check, Tree, Slice, Plan, Sample, Verify}
use Rattle.scad_words.specs.declared.job.Job.{Job}

abbrev pub are_none : Kinds → Bool
are_none [] = true
are_none (kind ∷ kinds) = false

-- clap finds no fault in the words
abbrev pub are_taken : List Text → Bool
are_taken words = are_none (fault_of command_set words)

-- The commands, by the values that were given under their names.

abbrev pub model_in : List Row → Option Text
model_in given = first_of (codes "model") given

abbrev pub cli_in : List Row → Option Text
cli_in given = first_of (codes "cli") given

abbrev pub gcode_in : List Row → Option Text
gcode_in given = first_of (codes "gcode") given

abbrev pub slice_in : List Row → Option Command
slice_in given = option_and_then (λ model. option_map (λ cli. Slice model cli) (cli_in given)) (model_in given)

abbrev pub plan_in : List Row → Option Command
plan_in given = option_and_then (λ model. option_and_then (λ cli. option_map (λ gcode. Plan model cli gcode)
    (gcode_in given)) (cli_in given)) (model_in given)

abbrev pub sample_in : List Row → Option Command
sample_in given = option_map (λ n. Sample n) (option_and_then sample_of (first_of (codes "number") given))

abbrev pub verify_in : List Row → Option Command
verify_in given = option_and_then (λ cli. option_map (λ gcode. Verify cli gcode) (gcode_in given)) (cli_in given)

-- the command of this name, if there is one
abbrev pub command_of : Text → List Row → Option Command
command_of name given =
    if bytes_eq name (codes "check") then option_map (λ model. Check model) (model_in given)
    else (if bytes_eq name (codes "tree") then option_map (λ model. Tree model) (model_in given)
    else (if bytes_eq name (codes "slice") then slice_in given
    else (if bytes_eq name (codes "plan") then plan_in given
    else (if bytes_eq name (codes "sample") then sample_in given
    else (if bytes_eq name (codes "verify") then verify_in given
    else None)))))

-- The options of every command.

abbrev pub settings_in : List Row → Option Text
settings_in given = first_of (codes "settings") given

-- one worker where no number is given
abbrev pub workers_or_one : Option Text → Option ℕ
workers_or_one None = Some 1
workers_or_one (Some text) = workers_of text

abbrev pub workers_in : List Row → Option ℕ
workers_in given = workers_or_one (first_of (codes "workers") given)

-- The names of files.

-- the files that a command names
abbrev pub files_of : Command → List Text
files_of (Check model) = model ∷ []
files_of (Tree model) = model ∷ []
files_of (Slice model cli) = model ∷ cli ∷ []
files_of (Plan model cli gcode) = model ∷ cli ∷ gcode ∷ []
files_of (Sample n) = []
files_of (Verify cli gcode) = cli ∷ gcode ∷ []

abbrev pub named : Option Text → List Text
named None = []
named (Some name) = name ∷ []

-- no two of the names are equal
abbrev pub differ : List Text → Bool
differ [] = true
differ (name ∷ names) = not (list_any (λ other. bytes_eq name other) names) && differ names

-- The job.

-- it is none where two of the files that it names are the same
abbrev pub job_with : Option Text → Command → ℕ → Option Job
job_with settings command workers =
    if differ (files_of command ++ named settings)
    then Some (record { command = command; settings = settings; workers = workers }) else None

-- the job of a command's name and of what it was given
abbrev pub job_given : Text → List Row → Option Job
job_given name given = option_and_then
    (λ command. option_and_then (job_with (settings_in given) command) (workers_in given)) (command_of name given)

abbrev pub job_from : Text × List Row → Option Job
job_from found = job_given found.0 found.1

-- the job that the words ask for; none where they aren't of the form
abbrev pub job_of : List Text → Option Job
job_of words = if are_taken words then option_and_then job_from (subcommand_of command_set words) else None
