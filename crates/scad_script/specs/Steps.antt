-- What a command does to its desk, one step at a time.
use Rattle.std.specs.Prelude.{ℕ, Bool, true, false, List, [], flat_map, if◌then◌else◌}
use Rattle.scad_io.specs.declared.desk.Out.{Out}
use Rattle.scad_io.specs.declared.desk.Out.TheVariants.{Report, Cli, Gcode}

pub data Step : Type 0 where
  -- the file of this name is opened and read
  Reads : List ℕ → Step
  -- an output is created by this name
  Makes : Out → List ℕ → Step
  -- a piece is written to an output
  Sends : Out → List ℕ → Step

-- two outputs are one
abbrev pub is_same : Out → Out → Bool
is_same Report Report = true
is_same Cli Cli = true
is_same Gcode Gcode = true
is_same a b = false

-- what a step writes to an output
abbrev pub piece_for : Out → Step → List ℕ
piece_for out (Reads name) = []
piece_for out (Makes o name) = []
piece_for out (Sends o piece) = if is_same o out then piece else []

-- what steps write to an output
abbrev pub text_of : Out → List Step → List ℕ
text_of out steps = flat_map (piece_for out) steps

-- The order of a command: first it reads, then it reports its echo lines, then it draws, that is, creates and writes
-- the other outputs.
abbrev pub reading : ℕ
reading = 0

abbrev pub echoing : ℕ
echoing = 1

abbrev pub drawing : ℕ
drawing = 2

-- where in that order a step belongs
abbrev pub stage : Step → ℕ
stage (Reads name) = reading
stage (Makes out name) = drawing
stage (Sends Report piece) = echoing
stage (Sends Cli piece) = drawing
stage (Sends Gcode piece) = drawing
