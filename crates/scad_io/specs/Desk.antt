-- What is known of a desk, and what each of its calls does to it.
use Rattle.std.specs.Prelude.{None, if◌then◌else◌, ◌+◌, ◌≡◌, ◌<◌, ◌≤◌, ◌==◌, ℕ, Bool, true, false, List, [], ◌++◌, length, take, drop, Option, IsSome, IfSome, option_map, Result, Ok, Err, is_ok, is_err, IfOk, OnOk, OnErr}
use Rattle.scad_io.specs.declared.desk.Out.{Out}
use Rattle.scad_io.specs.declared.desk.Out.TheVariants.{Report, Cli, Gcode}
use Rattle.scad_io.specs.declared.desk.Failed.{Failed}

-- what each name contains, `None` where it names nothing; all of it may be untold
abbrev pub Files : Type 0
Files = Option (List ℕ → Option (List ℕ))

-- One object of a desk. A part that isn't told is `None`.
pub record Side : Type 0 where
  -- the name last handed in for it
  pub name : Option (List ℕ)
  -- what is left to read of the input, and what was written to an output
  pub bytes : Option (List ℕ)
  pub created : Bool
  pub failed : Bool

-- the input and the three outputs
pub record View : Type 0 where
  pub input : Side
  pub report : Side
  pub cli : Side
  pub gcode : Side

-- what is known of an output
abbrev pub side : Out → View → Side
side Report v = v.report
side Cli v = v.cli
side Gcode v = v.gcode

-- v with another side at this output
abbrev pub put : Out → Side → View → View
put Report s v = record v { report = s }
put Cli s v = record v { cli = s }
put Gcode s v = record v { gcode = s }

-- an output with these bytes added, and with this mark of failure
abbrev pub added : List ℕ → Bool → Side → Side
added bytes failed s =
    record s { bytes = option_map (λ before. before ++ bytes) s.bytes; failed = failed }

-- v after these bytes went out
abbrev pub sent : Out → List ℕ → Bool → View → View
sent out bytes failed v = put out (added bytes failed (side out v)) v

-- v after a write of a piece: a front of it went out. An answer of 0 is a fault too.
abbrev pub after_write : Out → List ℕ → Result ℕ Failed → View → View
after_write out piece (Ok n) v = sent out (take n piece) (n == 0) v
after_write out piece (Err e) v = sent out [] true v

-- whether a write failed: it did too where nothing went out
abbrev pub write_failed : {E : Type 0} → Result ℕ E → Bool
write_failed (Ok n) = n == 0
write_failed (Err e) = true

-- v after so many bytes of the input were read, with this mark of failure
abbrev pub taken : ℕ → Bool → View → View
taken n failed v =
    let left = option_map (drop n) v.input.bytes in
    record v { input = record v.input { bytes = left; failed = failed } }

-- v after a read
abbrev pub after_read : Result ℕ Failed → View → View
after_read (Ok n) v = taken n false v
after_read (Err e) v = taken 0 true v

-- into begins with the next n bytes of the rest, and n is 0 only at its end
pub record Gives (rest : List ℕ) (n : ℕ) (into : List ℕ) : Type 0 where
  pub there : n ≤ length rest
  pub next : take n into ≡ take n rest
  pub ends : n ≡ 0 → rest ≡ []

-- what a call answers that gives no value
abbrev pub Answer : Type 0
Answer = Result (Unit {0}) Failed

-- An input was opened by this name, or wasn't. Opened, its rest is what the name contains.
pub record Opens (files : Files) (name : List ℕ) (r : Answer) (old new : View) : Type 0 where
  pub only : new ≡ record old {
    input = record old.input { name = new.input.name; bytes = new.input.bytes; failed = is_err r };
  }
  pub named : IfSome new.input.name (λ told. told ≡ name)
  pub rest : OnOk r (IfSome files (λ contents.
      IsSome (contents name) × (new.input.bytes ≡ contents name)))
  pub kept : OnErr r (new.input.bytes ≡ old.input.bytes)
  pub told : IsSome old.input.bytes → IsSome new.input.bytes

-- An output was created by this name, or wasn't. Its bytes stand.
pub record Creates (out : Out) (name : List ℕ) (r : Answer) (old new : View) : Type 0 where
  pub only : new ≡ put out (record (side out old) {
    name = (side out new).name;
    created = is_ok r;
    failed = is_err r;
  }) old
  pub named : IfSome (side out new).name (λ told. told ≡ name)

-- the count of faults doesn't fall, and rose where the call failed
pub record HasCause {T : Type 0} (before now : ℕ) (r : Result T Failed) : Type 0 where
  pub later : before ≤ now
  pub failed : OnErr r (before < now)

-- the same for a write, which also failed where nothing went out
pub record WriteHasCause (before now : ℕ) (r : Result ℕ Failed) : Type 0 where
  pub later : before ≤ now
  pub failed : OnErr r (before < now)
  pub nothing : IfOk r (λ n. n ≡ 0 → before < now)

-- an object of which only the marks are told
abbrev pub untold : Bool → Bool → Side
untold created failed = record { name = None; bytes = None; created = created; failed = failed }

-- an object on which nothing was done, and of whose bytes this is told
abbrev pub fresh : Option (List ℕ) → Side
fresh bytes = record { name = None; bytes = bytes; created = false; failed = false }

-- a desk on which nothing was done
abbrev pub unused : Option (List ℕ) → View
unused bytes =
    record { input = fresh bytes; report = fresh bytes; cli = fresh bytes; gcode = fresh bytes }

-- how many objects have failed
abbrev pub failed_count : View → ℕ
failed_count v = mark v.input + mark v.report + mark v.cli + mark v.gcode
  where
    mark : Side → ℕ
    mark s = if s.failed then 1 else 0
