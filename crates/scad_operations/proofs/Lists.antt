-- Whether there are arguments, and the values that a vector holds.
use Rattle.std.proofs.Common.{◌≡◌, ◌≢◌, true, false, List, [], ◌∷◌, length, refl, ap, ◌∙◌, sym, arith}
use Rattle.scad_ast.specs.declared.expression.Arg.{Arg}
use Rattle.scad_ast.specs.View.{arguments}
use Rattle.scad_value.specs.declared.value.Value.{Value}
use Rattle.scad_value.specs.Datum.{vector, element}
use Rattle.scad_value.specs.View.{datum_of, elements, data_of}
use Rattle.scad_operations.specs.Runs.{as_elements}
use Rattle.scad_machine.specs.Arguments.{is_none}

-- whether there are arguments
pub none-empty : (all : List Arg) → length all ≡ 0 → is_none (arguments all) ≡ true
none-empty [] e = refl
none-empty (a ∷ all) e = absurd (let no : ⊥ = omega (arith, e) in no)

pub none-some : (all : List Arg) → length all ≢ 0 → is_none (arguments all) ≡ false
none-some [] e = absurd (e refl)
none-some (a ∷ all) e = refl

pub ruleset some = (none-empty, none-some)

-- ---- the elements of a vector
pub called_elements : (all : List Value) → as_elements (data_of all) ≡ elements all
called_elements [] = refl
called_elements (v ∷ all) = ap (element (datum_of v)) (called_elements all)

pub vector-data : (v : Value) (all : List Value) → datum_of v ≡ vector (elements all)
    → datum_of v ≡ vector (as_elements (data_of all))
vector-data v all is = is ∙ ap vector (sym (called_elements all))
