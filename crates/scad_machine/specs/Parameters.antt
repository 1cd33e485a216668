-- Parameters as they lie in memory, and what one argument after another gives to them.
use Rattle.std.specs.Prelude.{◌≡◌, ℕ, ◌+◌, not, List, filter, map, slice_get, Option, Some, None, is_some}
use Rattle.std.specs.Borrow.{Bor}
use Rattle.scad_ast.specs.declared.statement.Param.{Param}
use Rattle.scad_ast.specs.Tree.{Parameter}
use Rattle.scad_value.specs.Datum.{Datum}
use Rattle.scad_value.specs.View.{datum_of}
use Rattle.scad_value.specs.declared.value.Value.{Value}
use Rattle.scad_scope.specs.Names.{Names}
use Rattle.scad_bindings.specs.NamePlaces.{value_in}
use Rattle.scad_machine.specs.Arguments.{is_parameter, to_parameter, to_name, is_given}

-- the names of parameters in memory
abbrev pub parameter_names : List Param → List (List ℕ)
parameter_names all = map (λ p. p.name) all

-- a table has these names, and no other
abbrev pub HasNames : {V : Type 0} → List (Bor (List ℕ) × V) → List (List ℕ) → Type 0
HasNames table names = (name : List ℕ) → is_some (value_in name table) ≡ is_parameter name names

-- a name in memory, with its value
abbrev pub shown : Bor (List ℕ) × Value → List ℕ × Datum
shown p = (p.0.now, datum_of p.1)

-- the names that are given, and one argument more with its value, before which so many unnamed ones stood
abbrev pub with_argument : List (List ℕ) → ℕ → Option (List ℕ) → Datum → Names → Names
with_argument parameters i None d so_far = to_parameter (slice_get parameters i) d so_far
with_argument parameters i (Some name) d so_far = to_name parameters name d so_far

-- how many unnamed ones stand before the next argument
abbrev pub unnamed_before_next : Option (List ℕ) → ℕ → ℕ
unnamed_before_next None i = i + 1
unnamed_before_next (Some name) i = i

-- the parameters that aren't given
abbrev pub missing : Names → List Parameter → List Parameter
missing given all = filter (λ p. not (is_given p.name given)) all
