-- A desk in memory as one value, and the exact answer of each of its calls.
use Rattle.std.specs.Prelude.{◌≡◌, ◌+◌, ◌-◌, ◌^◌, ◌==◌, ◌||◌, ℕ, Bool, List, [], length, min, nat_lt, nat_le, if◌then◌else◌, Option, Some, None, is_none, unwrap_or, Result, Ok, Err, is_err}
use Rattle.std.specs.List.{list_any}
use Rattle.scad_io.specs.Desk.{Files, Side, View, side, unused, failed_count}
use Rattle.memory_desk.specs.Shelf.{contents_of}
use Rattle.scad_io.specs.declared.desk.Out.{Out}
use Rattle.scad_io.specs.declared.desk.Failed.{Failed}

pub record Memory : Type 0 where
  -- names and what they contain
  pub files : List (List ℕ × List ℕ)
  -- the numbers of the calls that are to fail
  pub fails : List ℕ
  -- the number of the next call
  pub calls : ℕ
  -- how many bytes each output has room for
  pub room : ℕ
  pub view : View

-- a desk that was just made
abbrev pub made_of : List (List ℕ × List ℕ) → List ℕ → ℕ → Memory
made_of files fails room =
    record { files = files; fails = fails; calls = 0; room = room; view = unused (Some []) }

-- an output in memory, with the room for its bytes
pub record Output : Type 0 where
  pub side : Side
  pub room : ℕ

-- the room for a name, in bytes
abbrev pub name_room : ℕ
name_room = 4096

-- a name that fits it is told
abbrev pub told_name : List ℕ → Option (List ℕ)
told_name name = if nat_le (length name) name_room then Some name else None

-- the next number, short of the greatest
abbrev pub next_number : ℕ → ℕ
next_number n = min (n + 1) (2 ^ 64 - 1)

-- this call is to fail
abbrev pub is_due : Memory → Bool
is_due m = list_any (λ number. number == m.calls) m.fails

-- what is left of the input
abbrev pub rest_of : Memory → List ℕ
rest_of m = unwrap_or m.view.input.bytes []

-- what was written to an output
abbrev pub written_to : Out → Memory → List ℕ
written_to out m = unwrap_or (side out m.view).bytes []

-- how many bytes an output has room for
abbrev pub room_left : Out → Memory → ℕ
room_left out m = m.room - length (written_to out m)

-- what each name contains
abbrev pub contents : Memory → Files
contents m = Some (contents_of m.files)

-- A call counts as one, and of all else it changes at most what is known of the objects. The faults
-- rise by one exactly where it failed.
pub record Steps {T : Type 0} (r : Result T Failed) (old new : Memory) : Type 0 where
  pub only : new ≡ record old { calls = next_number old.calls; view = new.view }
  pub faults : failed_count new.view ≡ failed_count old.view + (if is_err r then 1 else 0)

-- The answers of the four calls.

abbrev pub fails_if : {T : Type 0} → Bool → T → Result T Failed
fails_if failed answer = if failed then Err (record {}) else Ok answer

abbrev pub open_answer : List ℕ → Memory → Result (Unit {0}) Failed
open_answer name m = fails_if (is_due m || is_none (contents_of m.files name)) tt

abbrev pub read_answer : ℕ → Memory → Result ℕ Failed
read_answer most m = fails_if (is_due m) (min most (length (rest_of m)))

abbrev pub create_answer : List ℕ → Memory → Result (Unit {0}) Failed
create_answer name m = fails_if (is_due m || nat_lt name_room (length name)) tt

abbrev pub write_answer : Out → ℕ → Memory → Result ℕ Failed
write_answer out len m = fails_if (is_due m || (room_left out m == 0)) (min len (room_left out m))
