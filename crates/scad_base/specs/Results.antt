-- Results one after another.
use Rattle.std.specs.Prelude.{Result, Ok, Err}

-- what f makes of the value, or the fault in its place
abbrev pub and_then : {A B F : Type 0} → Result A F → (A → Result B F) → Result B F
and_then (Ok a) f = f a
and_then (Err fault) f = Err fault
