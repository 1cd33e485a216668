-- Arguments and values that are left in a loop.
use Rattle.std.proofs.Common.{◌≡◌, ℕ, ◌+◌, ◌<◌, ◌≤◌, List, [], ◌∷◌, length, get_or, drop, ap, ◌∙◌, sym}
use Rattle.std.proofs.lemmas.List.{drop_more, drop_all}
use Rattle.scad_ast.specs.declared.expression.Arg.{Arg}
use Rattle.scad_ast.specs.Tree.{no_arguments, argument}
use Rattle.scad_ast.specs.View.{expression_of, arguments}
use Rattle.scad_value.specs.declared.value.Value.{Value}
use Rattle.scad_value.specs.View.{datum_of, data_of}

-- the next argument
pub arguments-drop : (all : List Arg) (i : ℕ) (a : Arg) → i < length all → a ≡ get_or all i a → arguments (drop i all)
    ≡ argument a.name (expression_of a.value) (arguments (drop (i + 1) all))
arguments-drop all i a below is = ap arguments (drop_more all i a below) ∙ ap
    (λ b. argument b.name (expression_of b.value) (arguments (drop (i + 1) all))) (sym is)

pub arguments-drop_all : (all : List Arg) (i : ℕ) → length all ≤ i → arguments (drop i all) ≡ no_arguments
arguments-drop_all all i past = ap arguments (drop_all i all past)

-- the next value
pub data-drop : (all : List Value) (i : ℕ) (v : Value) → i < length all → v ≡ get_or all i v → data_of (drop i all)
    ≡ datum_of v ∷ data_of (drop (i + 1) all)
data-drop all i v below is = ap data_of (drop_more all i v below) ∙ ap (λ w. datum_of w ∷ data_of (drop (i + 1) all))
    (sym is)

pub data-drop_all : (all : List Value) (i : ℕ) → length all ≤ i → data_of (drop i all) ≡ []
data-drop_all all i past = ap data_of (drop_all i all past)

pub ruleset lists = (arguments-drop, arguments-drop_all, data-drop, data-drop_all)
