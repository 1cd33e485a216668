-- The value that an `assert` tests, found from argument to argument.
use Rattle.std.specs.Prelude.{ℕ, Bool, false, List, [], ◌∷◌, Option, Some, None, if◌then◌else◌, codes}
use Rattle.scad_ast.specs.Tree.{Arguments, no_arguments, argument}
use Rattle.scad_value.specs.Datum.{Datum}
use Rattle.scad_scope.specs.Names.{is_same_name}

-- whether still no unnamed argument stands before
abbrev pub first_after : Bool → Option (List ℕ) → Bool
first_after first None = false
first_after first (Some name) = first

-- what is tested after an argument
abbrev pub test_by : Bool → Option (List ℕ) → Datum → Option Datum → Option Datum
test_by first None d found = if first then Some d else found
test_by first (Some name) d found = if is_same_name (codes "test") name then Some d else found

-- what is tested after all arguments
abbrev pub test_from : Bool → Arguments → List Datum → Option Datum → Option Datum
test_from first no_arguments values found = found
test_from first (argument name e more) [] found = found
test_from first (argument name e more) (d ∷ values) found
    = test_from (first_after first name) more values (test_by first name d found)
