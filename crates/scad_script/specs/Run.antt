-- A whole run: a script, and then the report's last line.
use Rattle.std.specs.Prelude.{◌≡◌, ◌⊎◌, true, false, List, ℕ, Result, Ok, Err}
use Rattle.scad_fault.specs.declared.status.Status.{Status}
use Rattle.scad_fault.specs.declared.status.Status.TheVariants.{Done, Read, Write, Memory}
use Rattle.scad_fault.specs.Line.{line_of}
use Rattle.scad_io.specs.Desk.{View, sent}
use Rattle.scad_io.specs.Output.{SentPartly}
use Rattle.scad_io.specs.declared.desk.Out.{Out}
use Rattle.scad_io.specs.declared.desk.Out.TheVariants.{Report, Cli, Gcode}
use Rattle.scad_script.specs.declared.stop.Stop.{Stop}
use Rattle.scad_script.specs.Script.{Script, refused}
use Rattle.scad_script.specs.Play.{EndsIn}

-- no object of the desk has failed
pub record Sound (v : View) : Type 0 where
  pub input : v.input.failed ≡ false
  pub report : v.report.failed ≡ false
  pub cli : v.cli.failed ≡ false
  pub gcode : v.gcode.failed ≡ false

-- no object of the desk has failed, and neither the outlines nor the printing program is created
pub record IsReady (v : View) : Type 0 where
  pub sound : Sound v
  pub cli : v.cli.created ≡ false
  pub gcode : v.gcode.created ≡ false

-- the outputs that were created before are those that are created now
pub record CreatesNone (old new : View) : Type 0 where
  pub cli : new.cli.created ≡ old.cli.created
  pub gcode : new.gcode.created ≡ old.gcode.created

-- this output is created now, and of the others those that were before
abbrev pub CreatesOne : Out → View → View → Type 0
CreatesOne Report old new = CreatesNone old new
CreatesOne Cli old new = (new.cli.created ≡ true) × (new.gcode.created ≡ old.gcode.created)
CreatesOne Gcode old new = (new.gcode.created ≡ true) × (new.cli.created ≡ old.cli.created)

-- A last line went to the report whole, with its status, or in part, with the status Write.
abbrev pub Tells : List ℕ → Status → Status → View → View → Type 0
Tells line status result old new =
    ((result ≡ status) × (new ≡ sent Report line false old)) ⊎ ((result ≡ Write) × SentPartly Report line old new)

-- The last line for how a script ended was tried once. Where there is no memory for it, there is another; a report that
-- failed before gets none.
abbrev pub Reports : Result (List ℕ) Stop → Status → View → View → Type 0
Reports (Ok line) result old new = Tells line Done result old new
Reports (Err (Stop.Ends refusal)) result old new =
    Tells (line_of (refused refusal)) (refused refusal) result old new ⊎ Tells (line_of Memory) Memory result old new
Reports (Err Stop.Read) result old new = Tells (line_of Read) Read result old new
Reports (Err Stop.Write) result old new = Tells (line_of Write) Write result old new
Reports (Err Stop.Silent) result old new = (result ≡ Write) × (new ≡ old)
Reports (Err Stop.Memory) result old new = Tells (line_of Memory) Memory result old new

-- A run of a script: it was played to its end or stopped, and then the last line was tried.
abbrev pub RunsTo : Script → Status → View → View → Type 0
RunsTo whole status old new =
    (ended : Result (List ℕ) Stop) × (mid : View) × EndsIn whole ended old mid × Reports ended status mid new
