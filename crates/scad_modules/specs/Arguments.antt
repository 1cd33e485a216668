-- Which arguments the parameters of the language's modules take (OpenSCAD User Manual, "User-Defined Functions and
-- Modules"): an unnamed argument takes the next place in the order of the parameters, a named one that of its
-- name; of several the last counts.
use Rattle.std.specs.Prelude.{ℕ, ◌+◌, ◌==◌, Bool, false, List, [], ◌∷◌, Option, Some, None, if◌then◌else◌}
use Rattle.scad_ast.specs.Tree.{Arguments, no_arguments, argument}
use Rattle.scad_value.specs.Datum.{Datum, undef}
use Rattle.scad_scope.specs.Names.{is_same_name}

-- whether an unnamed argument, before which so many unnamed ones stand, goes to the parameter of a place; a
-- parameter without a place is taken by name alone
abbrev pub is_placed : ℕ → Option ℕ → Bool
is_placed i None = false
is_placed i (Some place) = i == place

-- what a parameter takes after an argument, from what it had before it
abbrev pub taken_by : Option ℕ → List ℕ → ℕ → Option (List ℕ) → Datum → Option Datum → Option Datum
taken_by place name i None d found = if is_placed i place then Some d else found
taken_by place name i (Some word) d found = if is_same_name name word then Some d else found

-- how many unnamed arguments stand before what follows an argument
abbrev pub unnamed_before_next : ℕ → Option (List ℕ) → ℕ
unnamed_before_next i None = i + 1
unnamed_before_next i (Some word) = i

-- what a parameter takes of arguments with their values, before which so many unnamed ones stand
abbrev pub taken_from : Option ℕ → List ℕ → ℕ → Arguments → List Datum → Option Datum → Option Datum
taken_from place name i no_arguments values found = found
taken_from place name i (argument word e more) [] found = found
taken_from place name i (argument word e more) (d ∷ values) found =
    taken_from place name (unnamed_before_next i word) more values (taken_by place name i word d found)

-- `undef` counts as not given
abbrev pub if_given : Option Datum → Option Datum
if_given None = None
if_given (Some undef) = None
if_given (Some d) = Some d

-- the value of the parameter of a place and a name, where one is given
unfoldable pub taken : Option ℕ → List ℕ → Arguments → List Datum → Option Datum
taken place name args values = if_given (taken_from place name 0 args values None)
