-- What a run of any orderly script promises, one sentence each.
use Rattle.std.specs.Prelude.{◌≡◌, ◌≢◌, ◌⊎◌, ◌<◌, ◌≤◌, ◌++◌, List, [], ℕ, true, false, Some, IfSome, IsSomeAnd, length, take, option_map}
use Rattle.scad_fault.specs.declared.status.Status.{Status}
use Rattle.scad_fault.specs.declared.status.Status.TheVariants.{Read, Write, Memory}
use Rattle.scad_fault.specs.Line.{line_of}
use Rattle.scad_io.specs.Desk.{Side, View, side}
use Rattle.scad_io.specs.declared.desk.Out.{Out}
use Rattle.scad_script.specs.Script.{Script, answer_of, expected_echoes, expected_cli, expected_gcode}
use Rattle.scad_script.specs.Names.{Given, name_for, IsAmong}

-- these bytes were added to an output, where its bytes are told
abbrev pub Adds : List ℕ → Side → Side → Type 0
Adds bytes old new = new.bytes ≡ option_map (λ before. before ++ bytes) old.bytes

-- Every status but Read, Write and Memory: there is a whole answer, and the run gave its status and all its bytes.
abbrev pub IsAnswered : Script → Status → View → View → Type 0
IsAnswered whole status old new =
    IsSomeAnd (answer_of whole) (λ answer.
    (answer.status ≡ status) × Adds (answer.echoes ++ answer.line) old.report new.report
    × Adds answer.cli old.cli new.cli × Adds answer.gcode old.gcode new.gcode)

-- Status 4: the input has failed, under a name that was given; the report is the whole line, without an echo line, and
-- the other outputs stand.
pub record IsReadFault (given : Given) (old new : View) : Type 0 where
  pub failed : new.input.failed ≡ true
  pub name : List ℕ
  pub meant : IsAmong name given.input
  pub named : IfSome new.input.name (λ told. told ≡ name)
  pub line : Adds (line_of Read) old.report new.report
  pub cli : new.cli ≡ old.cli
  pub gcode : new.gcode ≡ old.gcode

-- an output other than the report has failed, under the name that was given for it
pub record HasFailed (given : Given) (new : View) : Type 0 where
  pub out : Out
  pub name : List ℕ
  pub meant : name_for out given ≡ Some name
  pub failed : (side out new).failed ≡ true
  pub named : IfSome (side out new).name (λ told. told ≡ name)

-- a line that takes the place of the answer's own
abbrev pub IsFaultLine : List ℕ → Type 0
IsFaultLine line = (line ≡ line_of Read) ⊎ ((line ≡ line_of Write) ⊎ (line ≡ line_of Memory))

-- the report of the whole answer, or some of the echo lines and then a line in its place
abbrev pub IsReport : Script → List ℕ → Type 0
IsReport whole text =
    IsSomeAnd (answer_of whole) (λ answer. text ≡ answer.echoes ++ answer.line)
    ⊎ ((n : ℕ) × (line : List ℕ) × IsFaultLine line × (text ≡ take n (expected_echoes whole) ++ line))

-- a report went out in part, without its end
pub record CutReport (whole : Script) (old new : View) : Type 0 where
  pub text : List ℕ
  pub meant : IsReport whole text
  pub count : ℕ
  pub proper : count < length text
  pub part : Adds (take count text) old.report new.report
  pub failed : new.report.failed ≡ true

-- Status 5: an output has failed, and the report is all echo lines and the whole line; or the report has failed, and is
-- cut short.
abbrev pub IsWriteFault : Given → Script → View → View → Type 0
IsWriteFault given whole old new =
    (HasFailed given new × Adds (expected_echoes whole ++ line_of Write) old.report new.report
    × (new.report.failed ≡ false))
    ⊎ CutReport whole old new

-- Status 7: the report is some of the echo lines and then the whole line.
pub record IsMemoryLine (whole : Script) (old new : View) : Type 0 where
  pub count : ℕ
  pub within : count ≤ length (expected_echoes whole)
  pub line : Adds (take count (expected_echoes whole) ++ line_of Memory) old.report new.report

-- what each status promises
abbrev pub Promised : Given → Script → Status → View → View → Type 0
Promised given whole Read old new = IsReadFault given old new
Promised given whole Write old new = IsWriteFault given whole old new
Promised given whole Memory old new = IsMemoryLine whole old new
Promised given whole status old new = IsAnswered whole status old new

-- a front of the text was added; where the output failed in a write, not all of it
pub record IsFront (text : List ℕ) (old new : Side) : Type 0 where
  pub count : ℕ
  pub within : count ≤ length text
  pub part : Adds (take count text) old new
  pub proper : new.failed ≡ true → new.created ≡ true → count < length text

-- Every status: both files hold a front of the answer's bytes, none where there is no answer.
pub record AreFronts (whole : Script) (old new : View) : Type 0 where
  pub cli : IsFront (expected_cli whole) old.cli new.cli
  pub gcode : IsFront (expected_gcode whole) old.gcode new.gcode

-- an object stands as it was, or was asked for by a name that was given for it
abbrev pub IsHanded : (List ℕ → Type 0) → Side → Side → Type 0
IsHanded IsGiven old new = (new ≡ old) ⊎ ((name : List ℕ) × IsGiven name × IfSome new.name (λ told. told ≡ name))

-- Every status: the names that were handed in are those that were given.
pub record HandsIn (given : Given) (old new : View) : Type 0 where
  pub input : IsHanded (λ name. IsAmong name given.input) old.input new.input
  pub cli : IsHanded (λ name. given.cli ≡ Some name) old.cli new.cli
  pub gcode : IsHanded (λ name. given.gcode ≡ Some name) old.gcode new.gcode

-- an output that is created has got bytes
abbrev pub HasBytes : Side → Side → Type 0
HasBytes old new = new.created ≡ true → (bytes : List ℕ) × (bytes ≢ []) × Adds bytes old new

-- Every status but Write and Memory: an output is created only where it gets bytes.
abbrev pub CreatesForBytes : Status → View → View → Type 0
CreatesForBytes Write old new = Unit {0}
CreatesForBytes Memory old new = Unit {0}
CreatesForBytes status old new = HasBytes old.cli new.cli × HasBytes old.gcode new.gcode

-- Every status: a report that has failed makes the status Write.
abbrev pub FailedReportIsWrite : Status → View → Type 0
FailedReportIsWrite status new = new.report.failed ≡ true → status ≡ Write
