-- The commands, as a simple command of clap: each with its positionals in order, all required, and the options
-- `--settings` and `--workers` with one value each. Help and version are off, and one of the commands is required.
use Rattle.std.specs.Prelude.{◌≡◌, true, false, List, [], ◌∷◌, Some, Result, IfOk, codes}
use Rattle.clap.specs.Walk.{Rule, Text}
use Rattle.clap.specs.Simple.{App, app_of, new_rule, new_app, on_top, with_rule, with_subcommand}
use Rattle.clap.specs.declared.builder.command.Command.{Command}
use Rattle.clap.specs.declared.builder.command.Command.TheViews.{out-Command}

-- a word that is required
abbrev pub positional : Text → Rule
positional id = record (new_rule id) { required = true }

-- `--id VALUE` or `--id=VALUE`
abbrev pub option : Text → Rule
option id = record (new_rule id) { long = Some id }

-- a command with the options of every command
abbrev pub with_options : App → App
with_options command = with_rule (with_rule command (option (codes "settings"))) (option (codes "workers"))

-- a command over one model: `NAME MODEL`
abbrev pub model_app : Text → App
model_app name = with_options (with_rule (new_app name) (positional (codes "model")))

-- `slice MODEL CLI`
abbrev pub slice_app : App
slice_app = with_options (with_rule (with_rule (new_app (codes "slice")) (positional (codes "model")))
    (positional (codes "cli")))

-- `plan MODEL CLI GCODE`
abbrev pub plan_app : App
plan_app = with_options (with_rule (with_rule (with_rule (new_app (codes "plan")) (positional (codes "model")))
    (positional (codes "cli"))) (positional (codes "gcode")))

-- `sample N`
abbrev pub sample_app : App
sample_app = with_options (with_rule (new_app (codes "sample")) (positional (codes "number")))

-- `verify CLI GCODE`
abbrev pub verify_app : App
verify_app = with_options (with_rule (with_rule (new_app (codes "verify")) (positional (codes "cli")))
    (positional (codes "gcode")))

-- the program without its commands
abbrev pub program : App
program = on_top (λ s. record s {
  no_binary_name = true;
  disable_help_flag = true;
  disable_help_subcommand = true;
  disable_version_flag = true;
  subcommand_required = true;
}) (new_app (codes "scadslice"))

-- those that read a model alone
abbrev pub reading_set : App
reading_set = with_subcommand (with_subcommand program (model_app (codes "check")).top) (model_app (codes "tree")).top

-- those that write outlines too
abbrev pub drawing_set : App
drawing_set = with_subcommand (with_subcommand reading_set slice_app.top) plan_app.top

abbrev pub command_set : App
command_set = with_subcommand (with_subcommand drawing_set sample_app.top) verify_app.top

-- ---- for the contracts of the functions that make them

-- a command that requires these words too, in order
abbrev pub requiring : App → List Text → App
requiring app [] = app
requiring app (word ∷ words) = requiring (with_rule app (positional word)) words

-- the command of this name that requires these words
abbrev pub command_app : Text → List Text → App
command_app name words = with_options (requiring (new_app name) words)

-- a command is of this form, with no argument that its commands share
pub record IsOf (app : App) (command : Command) : Type 0 where
  pub form : app_of command ≡ app
  pub local : (out-Command command).has_globals ≡ false

-- so is a command where memory sufficed to make it
abbrev pub IsMade : {E : Type 0} → App → Result Command E → Type 0
IsMade app made = IfOk made (IsOf app)
