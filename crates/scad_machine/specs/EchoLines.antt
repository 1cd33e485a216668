-- Lines of `echo` (OpenSCAD User Manual, "Echo Statements").
use Rattle.std.specs.Prelude.{ℕ, Bool, true, false, List, [], ◌∷◌, ◌++◌, Option, Some, None, codes}
use Rattle.scad_ast.specs.Tree.{Arguments, no_arguments, argument}
use Rattle.scad_value.specs.Datum.{Datum}
use Rattle.scad_value.specs.Texts.{text, comma}

-- a named argument stands behind its name
abbrev pub label : Option (List ℕ) → List ℕ
label None = []
label (Some name) = name ++ codes " = "

-- the values of arguments, the first of them the first of all or not
abbrev pub joined : Bool → Arguments → List Datum → List ℕ
joined first no_arguments values = []
joined first (argument word e more) [] = []
joined first (argument word e more) (d ∷ values) = comma first ++ label word ++ text d ++ joined false more values

-- the characters of a line
unfoldable pub echo_line : Arguments → List Datum → List ℕ
echo_line args values = codes "ECHO: " ++ joined true args values
