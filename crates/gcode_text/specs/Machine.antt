-- The machine that a printing program drives. It starts with all axes and the amount of filament at 0, and reads
-- the program line by line (RepRap G-code reference).
use Rattle.std.specs.Prelude.{ℕ, ◌+◌, ◌-◌, ◌^◌, Bool, true, false, not, ◌&&◌, ◌||◌, List, [], ◌∷◌, length, drop, slice_index, ◌==◌, nat_le, nat_lt, min, ℤ, pos, int_le, unsigned_abs, Option, Some, None, is_some, Result, Ok, Err, if◌then◌else◌, bytes_eq, codes}
use Rattle.std.specs.Ordering.{int_eq}
use Rattle.std.specs.List.{list_any}
use Rattle.scad_base.specs.Results.{and_then}
use Rattle.scad_geom.specs.declared.point3.Pt3.{Pt3}
use Rattle.scad_geom.specs.Limits.{coordinate_limit}
use Rattle.gcode_text.specs.declared.fault.GFault.{GFault}
use Rattle.gcode_text.specs.declared.fault.GFault.TheVariants.{UnknownWord, BadNumber}
use Rattle.gcode_text.specs.declared.machine.Move.{Move}
use Rattle.gcode_text.specs.declared.command.Command.{Command}
use Rattle.gcode_text.specs.declared.command.Command.TheVariants.{Drive, Home, Set, Plain}
use Rattle.gcode_text.specs.declared.letters.Given.{Given}
use Rattle.gcode_text.specs.Reading.{lines, line_words, number}
use Rattle.gcode_text.specs.Limits.{amount_limit}

-- ---- commands and their letters

abbrev pub is_among : List (List ℕ) → List ℕ → Bool
is_among names word = list_any (bytes_eq word) names

-- units, absolute coordinates and amounts, motors, fan, heaters
unfoldable pub plain_commands : List (List ℕ)
plain_commands =
    codes "G21" ∷ codes "G90" ∷ codes "M82" ∷ codes "M84" ∷ codes "M104" ∷ codes "M106" ∷ codes "M107" ∷ codes "M109"
    ∷ codes "M140" ∷ codes "M190" ∷ []

-- `G0` and `G1` drive, `G28` homes axes, `G92` sets what the position counts as; the others move nothing
unfoldable pub command_of : List ℕ → Option Command
command_of word =
    if is_among (codes "G0" ∷ codes "G1" ∷ []) word then Some Drive
    else (if is_among (codes "G28" ∷ []) word then Some Home
    else (if is_among (codes "G92" ∷ []) word then Some Set
    else (if is_among plain_commands word then Some Plain
    else None)))

abbrev pub letters : Command → List ℕ
letters Drive = codes "XYZEF"
letters Home = codes "XYZ"
letters Set = codes "XYZE"
letters Plain = codes "S"

unfoldable pub takes : Command → ℕ → Bool
takes command letter = list_any (λ known. letter == known) (letters command)

-- ---- the words of a line

abbrev pub upper_x : ℕ
upper_x = 88

abbrev pub upper_y : ℕ
upper_y = 89

abbrev pub upper_z : ℕ
upper_z = 90

-- `E` is the amount of filament
abbrev pub amount_letter : ℕ
amount_letter = 69

abbrev pub upper_f : ℕ
upper_f = 70

-- whether a letter was given
unfoldable pub was_given : ℕ → Given → Bool
was_given letter given =
    if letter == upper_x then is_some given.x
    else (if letter == upper_y then is_some given.y
    else (if letter == upper_z then is_some given.z
    else (if letter == amount_letter then is_some given.e
    else (if letter == upper_f then given.feed else given.setting))))

-- with the number of a letter; those of `F` and `S` change nothing
unfoldable pub with_number : ℕ → ℤ → Given → Given
with_number letter z given =
    if letter == upper_x then record given { x = Some z }
    else (if letter == upper_y then record given { y = Some z }
    else (if letter == upper_z then record given { z = Some z }
    else (if letter == amount_letter then record given { e = Some z }
    else (if letter == upper_f then record given { feed = true } else record given { setting = true }))))

abbrev pub nothing_given : Given
nothing_given = record { x = None; y = None; z = None; e = None; feed = false; setting = false }

-- an axis counts in thousandths, all else in hundred-thousandths
abbrev pub is_axis : ℕ → Bool
is_axis letter = letter == upper_x || letter == upper_y || letter == upper_z

abbrev pub places : ℕ → ℕ
places letter = if is_axis letter then 3 else 5

-- which numbers a letter may have
abbrev pub Range : Type 0
Range = ℕ → ℤ → Bool

-- numbers of any size
abbrev pub any : Range
any letter z = true

-- axes within the limit of coordinates, amounts within their own
unfoldable pub limited : Range
limited letter z =
    if is_axis letter then nat_le (unsigned_abs z) coordinate_limit
    else (if letter == amount_letter then nat_le (unsigned_abs z) amount_limit else true)

-- the number in its range, where it is one
abbrev pub ranged : Range → ℕ → ℕ → Given → Option ℤ → Result Given GFault
ranged range n letter given None = Err (BadNumber n)
ranged range n letter given (Some z) = if range letter z then Ok (with_number letter z given) else Err (BadNumber n)

-- what stands behind a letter: nothing where axes are homed, else a number
abbrev pub with_value : Range → ℕ → Command → ℕ → List ℕ → Given → Result Given GFault
with_value range n Home letter text given = if nat_lt 0 (length text) then Err (UnknownWord n) else Ok (with_number letter (pos 0) given)
with_value range n Drive letter text given = ranged range n letter given (number (places letter) text)
with_value range n Set letter text given = ranged range n letter given (number (places letter) text)
with_value range n Plain letter text given = ranged range n letter given (number (places letter) text)

-- a letter that the command has, once, and what stands behind it, in line n
unfoldable pub with_word : Range → ℕ → Command → List ℕ → Given → Result Given GFault
with_word range n command word given =
    if takes command (slice_index word 0) && not (was_given (slice_index word 0) given)
    then with_value range n command (slice_index word 0) (drop 1 word) given
    else Err (UnknownWord n)

-- the words behind a command, from left to right
unfoldable pub with_words : Range → ℕ → Command → List (List ℕ) → Given → Result Given GFault
with_words range n command [] given = Ok given
with_words range n command (word ∷ rest) given =
    and_then (with_word range n command word given) (λ next. with_words range n command rest next)

-- ---- what a line does

-- the axes in micrometres, the amount in hundred-thousandths of a millimetre, and how many lines were read
pub record State : Type 0 where
  pub at : Pt3
  pub e : ℤ
  pub lines : ℕ

abbrev pub origin : Pt3
origin = record { x = pos 0; y = pos 0; z = pos 0 }

abbrev pub start : State
start = record { at = origin; e = pos 0; lines = 0 }

abbrev pub or_kept : Option ℤ → ℤ → ℤ
or_kept None kept = kept
or_kept (Some z) kept = z

-- the state with the given axes and amount
abbrev pub driven : Given → State → State
driven given s = record {
  at = record { x = or_kept given.x s.at.x; y = or_kept given.y s.at.y; z = or_kept given.z s.at.z };
  e = or_kept given.e s.e;
  lines = s.lines;
}

abbrev pub names_none : Given → Bool
names_none given = not (is_some given.x || is_some given.y || is_some given.z || is_some given.e)

-- where no letter is named, all axes are homed
abbrev pub homed : Given → State → State
homed given s = if names_none given then record { at = origin; e = s.e; lines = s.lines } else driven given s

-- where no letter is named, all are set to 0
abbrev pub counted_as : Given → State → State
counted_as given s = if names_none given then record { at = origin; e = pos 0; lines = s.lines } else driven given s

-- X and Y don't change
abbrev pub stays : Pt3 → Pt3 → Bool
stays from to = int_eq from.x to.x && int_eq from.y to.y

-- filament is extruded where the line has an amount, X or Y changes, and the amount doesn't fall
unfoldable pub extrudes : Given → State → State → Bool
extrudes given s t = is_some given.e && not (stays s.at t.at) && int_le s.e t.e

abbrev pub move_between : Bool → State → State → Move
move_between extruding s t = record { from = s.at; to = t.at; from_e = s.e; to_e = t.e; extruding = extruding }

-- the state behind a line, and the line's move
pub record After : Type 0 where
  pub state : State
  pub move : Option Move

-- an accepted command
abbrev pub obeyed : State → Command → Given → After
obeyed s Drive given = record { state = driven given s; move = Some (move_between (extrudes given s (driven given s)) s (driven given s)) }
obeyed s Home given = record { state = homed given s; move = None }
obeyed s Set given = record { state = counted_as given s; move = None }
obeyed s Plain given = record { state = s; move = None }

-- a command with the words behind it
abbrev pub command_line : Range → State → Option Command → List (List ℕ) → Result After GFault
command_line range s None rest = Err (UnknownWord s.lines)
command_line range s (Some command) rest =
    and_then (with_words range s.lines command rest nothing_given) (λ given. Ok (obeyed s command given))

-- a line's words; a blank line does nothing
abbrev pub words_line : Range → State → List (List ℕ) → Result After GFault
words_line range s [] = Ok (record { state = s; move = None })
words_line range s (word ∷ rest) = command_line range s (command_of word) rest

-- one line more was read; their number stays at the greatest of 32 bits
abbrev pub counting : State → State
counting s = record { at = s.at; e = s.e; lines = min (s.lines + 1) (2 ^ 32 - 1) }

-- one line
unfoldable pub line_step : Range → State → List ℕ → Result After GFault
line_step range s text = words_line range (counting s) (line_words text)

-- ---- whole programs

abbrev pub onto_moves : Option Move → List Move → List Move
onto_moves None moves = moves
onto_moves (Some move) moves = move ∷ moves

-- the moves of lines one after another, or the first refusal
unfoldable pub moves_of_lines : Range → State → List (List ℕ) → Result (List Move) GFault
moves_of_lines range s [] = Ok []
moves_of_lines range s (text ∷ rest) =
    and_then (line_step range s text) (λ after.
    and_then (moves_of_lines range after.state rest) (λ moves. Ok (onto_moves after.move moves)))

-- the moves of a program, whose numbers may be of any size
abbrev pub machine : List ℕ → Result (List Move) GFault
machine program = moves_of_lines any start (lines program)
