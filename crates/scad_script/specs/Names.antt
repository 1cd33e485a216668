-- What holds of the steps of every command: they keep the order, use the names that were given, and create an output
-- only where they write to it.
use Rattle.std.specs.Prelude.{◌≡◌, ◌≢◌, ◌≤◌, ◌⊎◌, ℕ, List, [], ◌∷◌, Option, Some, None}
use Rattle.scad_io.specs.declared.desk.Out.{Out}
use Rattle.scad_io.specs.declared.desk.Out.TheVariants.{Report, Cli, Gcode}
use Rattle.scad_script.specs.Steps.{Step, Reads, Makes, Sends, text_of, stage, reading}
use Rattle.scad_script.specs.Script.{Script, Ending, Finishes, Refuses, Lacks}

-- the names that a command line gives: those of the files to read, and at most one for each output
pub record Given : Type 0 where
  pub input : List (List ℕ)
  pub cli : Option (List ℕ)
  pub gcode : Option (List ℕ)

-- no names
abbrev pub nothing_given : Given
nothing_given = record { input = []; cli = None; gcode = None }

-- the name for an output; the report has none
abbrev pub name_for : Out → Given → Option (List ℕ)
name_for Report given = None
name_for Cli given = given.cli
name_for Gcode given = given.gcode

-- the name is one of these
abbrev pub IsAmong : List ℕ → List (List ℕ) → Type 0
IsAmong name [] = ⊥
IsAmong name (n ∷ ns) = (name ≡ n) ⊎ IsAmong name ns

-- a step uses a name that was given for its object
abbrev pub UsesGiven : Given → Step → Type 0
UsesGiven given (Reads name) = IsAmong name given.input
UsesGiven given (Makes out name) = name_for out given ≡ Some name
UsesGiven given (Sends out piece) = Unit {0}

-- an output that a step creates gets bytes from the steps behind it
abbrev pub IsFilled : Step → List Step → Type 0
IsFilled (Reads name) rest = Unit {0}
IsFilled (Makes out name) rest = text_of out rest ≢ []
IsFilled (Sends out piece) rest = Unit {0}

-- no step belongs before this stage
abbrev pub AllFrom : ℕ → List Step → Type 0
AllFrom least [] = Unit {0}
AllFrom least (step ∷ steps) = (least ≤ stage step) × AllFrom least steps

-- no step belongs behind this stage
abbrev pub AllUpTo : ℕ → List Step → Type 0
AllUpTo most [] = Unit {0}
AllUpTo most (step ∷ steps) = (stage step ≤ most) × AllUpTo most steps

-- a step may stand before these
pub record Stands (given : Given) (step : Step) (rest : List Step) : Type 0 where
  pub order : AllFrom (stage step) rest
  pub name : UsesGiven given step
  pub filled : IsFilled step rest

abbrev pub AllStand : Given → List Step → Type 0
AllStand given [] = Unit {0}
AllStand given (step ∷ steps) = Stands given step steps × AllStand given steps

-- a script that lacks a file did nothing but read
abbrev pub OnlyReads : List Step → Ending → Type 0
OnlyReads steps (Finishes line) = Unit {0}
OnlyReads steps (Refuses refusal) = Unit {0}
OnlyReads steps Lacks = AllUpTo reading steps

-- a script keeps the order and the names, and leaves no output empty that it creates
pub record IsOrderly (given : Given) (s : Script) : Type 0 where
  pub steps : AllStand given s.steps
  pub lacks : OnlyReads s.steps s.ending
