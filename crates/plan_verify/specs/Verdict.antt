-- What is said of a printing program, by what its moves should do.
use Rattle.std.specs.Prelude.{◌≡◌, ℕ, ◌+◌, List, [], ◌∷◌, ◌++◌, length, filter, Option, Some, None, Result, Ok, Err, All}
use Rattle.scad_base.specs.Results.{and_then}
use Rattle.cli_text.specs.Cli.{Layer}
use Rattle.gcode_text.specs.declared.fault.GFault.{GFault}
use Rattle.gcode_text.specs.declared.fault.GFault.TheVariants.{UnknownWord as NotKnown, BadNumber as NoNumber}
use Rattle.gcode_text.specs.declared.machine.Move.{Move}
use Rattle.gcode_text.specs.Reading.{lines}
use Rattle.gcode_text.specs.Machine.{State, start, limited, line_step}
use Rattle.plan_verify.specs.declared.verdict.Verdict.{Verdict}
use Rattle.plan_verify.specs.declared.verdict.Verdict.TheVariants.{Inside, Outside}
use Rattle.plan_verify.specs.declared.verdict.VerifyFault.{VerifyFault}
use Rattle.plan_verify.specs.declared.verdict.VerifyFault.TheVariants.{Memory, UnknownWord, BadNumber}
use Rattle.plan_verify.specs.Stays.{Stays}

-- ---- the moves of a program with their lines
-- a move, and the number of its line, from 1
pub record Told : Type 0 where
  pub line : ℕ
  pub move : Move

abbrev pub onto : ℕ → Option Move → List Told → List Told
onto line None moves = moves
onto line (Some move) moves = record { line = line; move = move } ∷ moves

-- the moves of lines one after another, by the machine whose numbers have a range, or the first refusal
unfoldable pub moves_told : State → List (List ℕ) → Result (List Told) GFault
moves_told s [] = Ok []
moves_told s (text ∷ rest) =
    and_then (line_step limited s text) (λ after.
    and_then (moves_told after.state rest) (λ moves. Ok (onto after.state.lines after.move moves)))

-- the moves of a program
abbrev pub program_moves : List ℕ → Result (List Told) GFault
program_moves program = moves_told start (lines program)

-- those that extrude
abbrev pub extruding : List Told → List Told
extruding moves = filter (λ told. told.move.extruding) moves

-- ---- the verdict
-- the moves do what they should
abbrev pub AllDo : (Move → Type 0) → List Told → Type 0
AllDo Does moves = All (λ told. Does told.move) moves

-- the move with this number, from 1, is the first that doesn't do what it should, and it stands in this line
pub record IsFirstOut (Does : Move → Type 0) (moves : List Told) (n l : ℕ) : Type 0 where
  pub before : List Told
  pub out : Told
  pub behind : List Told
  pub are : moves ≡ before ++ out ∷ behind
  pub all : AllDo Does before
  pub fails : Does out.move → ⊥
  pub number : n ≡ length before + 1
  pub line : l ≡ out.line

abbrev pub IsJudgedBy : (Move → Type 0) → List Told → Verdict → Type 0
IsJudgedBy Does moves (Inside number) = AllDo Does moves × (number ≡ length moves)
IsJudgedBy Does moves (Outside number line) = IsFirstOut Does moves number line

-- the refusal of a line
abbrev pub refusal_of : GFault → VerifyFault
refusal_of (NotKnown line) = UnknownWord line
refusal_of (NoNumber line) = BadNumber line

-- the verdict over the moves that extrude, or the first refusal of a line; a refusal goes before a move, wherever the two stand
abbrev pub IsVerdictBy : (Move → Type 0) → List ℕ → Result Verdict VerifyFault → Type 0
IsVerdictBy Does program (Ok verdict) =
    (moves : List Told) × (program_moves program ≡ Ok moves) × IsJudgedBy Does (extruding moves) verdict
IsVerdictBy Does program (Err fault) =
    (fault ≡ Memory → ⊥) → (refusal : GFault) × (program_moves program ≡ Err refusal) × (fault ≡ refusal_of refusal)

-- each move that extrudes should stay inside the outlines of its layer, by the width of a line
abbrev pub IsVerdict : List Layer → ℕ → List ℕ → Result Verdict VerifyFault → Type 0
IsVerdict layers width program result = IsVerdictBy (Stays layers width) program result
