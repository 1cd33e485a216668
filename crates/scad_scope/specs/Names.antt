-- Names with their values: the values of variables in one frame.
use Rattle.std.specs.Prelude.{ℕ, suc, List, [], ◌∷◌, Option, Some, None, if◌then◌else◌}
use Rattle.scad_value.specs.Datum.{Datum}
pub use Rattle.scad_bindings.specs.Names.{is_same_name}

-- each name with its value, in the order in which the names were first set
abbrev pub Names : Type 0
Names = List (List ℕ × Datum)

-- how many names stand before a name in a list: all of them where it isn't there
abbrev pub place_in : List ℕ → Names → ℕ
place_in name [] = 0
place_in name (p ∷ more) = if is_same_name name p.0 then 0 else suc (place_in name more)

-- the value of a name
abbrev pub value_of_name : List ℕ → Names → Option Datum
value_of_name name [] = None
value_of_name name (p ∷ more) = if is_same_name name p.0 then Some p.1 else value_of_name name more

-- a name that is there takes the value, another one goes last with it
abbrev pub with_name : List ℕ → Datum → Names → Names
with_name name d [] = (name, d) ∷ []
with_name name d (p ∷ more) = if is_same_name name p.0 then (p.0, d) ∷ more else p ∷ with_name name d more
