-- What a parameter of a module of the language takes (`taken`) is what a list of parameters gives it in any call
-- (`given`), where `undef` counts as not given (OpenSCAD User Manual, "User-Defined Functions and Modules").
use Rattle.std.specs.Prelude.{ℕ, ◌+◌, ◌<◌, ◌≡◌, ◌↔◌, IsTrue, List, Option, Some, None, slice_get}
use Rattle.scad_ast.specs.Tree.{Arguments, no_arguments, argument}
use Rattle.scad_value.specs.Datum.{Datum}
use Rattle.scad_scope.specs.Names.{value_of_name}
use Rattle.scad_machine.specs.Arguments.{is_parameter, given}
use Rattle.scad_modules.specs.Arguments.{if_given, taken}

-- how many arguments have no name
abbrev pub unnamed : Arguments → ℕ
unnamed no_arguments = 0
unnamed (argument None e more) = unnamed more + 1
unnamed (argument (Some name) e more) = unnamed more

-- a list of parameters has a name at a place, or at none: it is among them, and of so many unnamed arguments, which go
-- to the parameters one by one, that of the place alone goes to it
pub record HasAt (parameters : List (List ℕ)) (place : Option ℕ) (name : List ℕ) (count : ℕ) : Type 0 where
  pub there : IsTrue (is_parameter name parameters)
  pub placed : (i : ℕ) → i < count → slice_get parameters i ≡ Some name ↔ place ≡ Some i

-- a parameter takes what it is given in each list that has its name at its place
abbrev pub TakenIsGiven : Type 0
TakenIsGiven =
    (parameters : List (List ℕ)) (place : Option ℕ) (name : List ℕ) (args : Arguments) (values : List Datum)
    → HasAt parameters place name (unnamed args)
    → taken place name args values ≡ if_given (value_of_name name (given parameters args values))

-- such a list is there for each place, or none, each name and any number of arguments
abbrev pub HaveLists : Type 0
HaveLists =
    (place : Option ℕ) (name : List ℕ) (count : ℕ)
    → (parameters : List (List ℕ)) × HasAt parameters place name count
