-- Which parameter takes which argument (OpenSCAD User Manual, "Function Literals", "User-Defined Functions and
-- Modules").
use Rattle.std.specs.Prelude.{ℕ, ◌+◌, ◌*◌, ◌||◌, pos, Bool, true, false, min, List, [], ◌∷◌, Option, Some, None, slice_get, is_some, if◌then◌else◌, codes}
use Rattle.scad_ast.specs.Tree.{Expression, Arguments, no_arguments, argument, Items, no_items, entry, Item, call_of, choice}
use Rattle.scad_value.specs.Datum.{Datum, number}
use Rattle.scad_scope.specs.Names.{Names, is_same_name, value_of_name, with_name}
use Rattle.scad_scope.specs.Env.{Children, no_children, children}
use Rattle.scad_machine.specs.Variables.{is_dollar, Bound, set}

abbrev pub is_parameter : List ℕ → List (List ℕ) → Bool
is_parameter name [] = false
is_parameter name (p ∷ more) = is_same_name name p || is_parameter name more

-- the value of an unnamed argument goes to the parameter of its number, where there is one
abbrev pub to_parameter : Option (List ℕ) → Datum → Names → Names
to_parameter None d so_far = so_far
to_parameter (Some name) d so_far = with_name name d so_far

-- the value of a named argument goes to the parameter of its name; a `$` name is taken in any case
abbrev pub to_name : List (List ℕ) → List ℕ → Datum → Names → Names
to_name parameters name d so_far = if is_parameter name parameters
    || is_dollar name then with_name name d so_far else so_far

-- arguments with their values, before which so many unnamed ones stood: the later of two for one name wins, and surplus
-- ones aren't used
abbrev pub given_from : List (List ℕ) → ℕ → Arguments → List Datum → Names → Names
given_from parameters i no_arguments values so_far = so_far
given_from parameters i (argument word e more) [] so_far = so_far
given_from parameters i (argument None e more) (d ∷ values) so_far =
    given_from parameters (i + 1) more values (to_parameter (slice_get parameters i) d so_far)
given_from parameters i (argument (Some name) e more) (d ∷ values) so_far =
    given_from parameters i more values (to_name parameters name d so_far)

-- the names that are given by arguments with their values
unfoldable pub given : List (List ℕ) → Arguments → List Datum → Names
given parameters args values = given_from parameters 0 args values []

-- names with their values are set
unfoldable pub set_all : Names → Bound → Bound
set_all [] b = b
set_all (p ∷ more) b = set_all more (set p.0 p.1 b)

abbrev pub is_given : List ℕ → Names → Bool
is_given name given = is_some (value_of_name name given)

-- every argument has a name
abbrev pub are_named : Arguments → Bool
are_named no_arguments = true
are_named (argument None e more) = false
are_named (argument (Some name) e more) = are_named more

abbrev pub is_none : Arguments → Bool
is_none no_arguments = true
is_none (argument word e more) = false

-- the argument of a call that has one
abbrev pub lone : Arguments → Option Expression
lone no_arguments = None
lone (argument word e no_arguments) = Some e
lone (argument word e (argument word2 e2 more)) = None

-- ---- child statements
abbrev pub is_statement : Item → Bool
is_statement (call_of at percent hash name args all) = true
is_statement (choice at percent hash test held other) = true
is_statement _ = false

-- how many child statements there are
abbrev pub statements : Items → ℕ
statements no_items = 0
statements (entry i more) = (if is_statement i then 1 else 0) + statements more

-- at most so many children are counted
abbrev pub child_limit : ℕ
child_limit = 1000000000

-- their number as a value, or the limit where there are more
abbrev pub number_of_children : Items → Datum
number_of_children all = number (pos (min (statements all) child_limit * 1000000))

-- where a call keeps children, `$children` is their number, also over a parameter of that name
unfoldable pub with_children : Children → Bound → Bound
with_children no_children b = b
with_children (children all env) b = set (codes "$children") (number_of_children all) b
