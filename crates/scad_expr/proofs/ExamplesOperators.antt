-- Worked examples of literals, names and operators, each under its source. Expected values come from an independent
-- program.
use Rattle.std.proofs.Common.{◌≡◌, pos, negsuc, true, false, [], ◌∷◌, refl}
use Rattle.std.specs.Prelude.{codes}
use Rattle.scad_fault.specs.declared.fault.FaultKind.TheVariants.{ZeroDivisor, NumberRange}
use Rattle.scad_ast.specs.declared.operator.UnOp.TheVariants.{Not, Plus, Minus}
use Rattle.scad_ast.specs.declared.operator.BinOp.TheVariants.{Or, And, Eq, Lt, Add, Mul, Div, Rem}
use Rattle.scad_ast.specs.Tree.{no_elements, element, item, no_items}
use Rattle.scad_ast.specs.Tree.{undef as undef_at, boolean as boolean_at, number as number_at, string as string_at, name as name_at, vector as vector_at, unary as unary_at, binary as binary_at, choose as choose_at}
use Rattle.scad_value.specs.Datum.{undef, boolean, number, string, vector}
use Rattle.scad_machine.specs.State.{start, gives, refuses}
use Rattle.scad_operations.specs.Runs.{as_elements}
use Rattle.scad_expr.proofs.OnLiterals.{expressions_on_literals}
use Rattle.scad_expr.proofs.ExampleWords.{at, after, faulted, evaluated}

-- x=PI;
pi : evaluated 2000 no_items (name_at (at 3) (codes "PI")) start ≡ gives (number (pos 3141593)) (after 1
    ([]))
unfolding expressions_on_literals
pi = refl

-- x=a;
unknown_variable : evaluated 2000 no_items (name_at (at 3) (codes "a")) start ≡ gives undef (after 1
    ([]))
unfolding expressions_on_literals
unknown_variable = refl

-- x=true || 1/0;
or_decides : evaluated 2000 no_items (binary_at (at 8) Or (boolean_at (at 3) true) (binary_at (at 12)
    Div (number_at (at 11) (pos 1000000)) (number_at (at 13) (pos 0)))) start ≡ gives (boolean true)
    (after 2 ([]))
unfolding expressions_on_literals
or_decides = refl

-- x=false && 1/0;
and_decides : evaluated 2000 no_items (binary_at (at 9) And (boolean_at (at 3) false) (binary_at (at 13)
    Div (number_at (at 12) (pos 1000000)) (number_at (at 14) (pos 0)))) start ≡ gives (boolean false)
    (after 2 ([]))
unfolding expressions_on_literals
and_decides = refl

-- x=1 && "";
and_evaluates : evaluated 2000 no_items (binary_at (at 5) And (number_at (at 3) (pos 1000000))
    (string_at (at 8) [])) start ≡ gives (boolean false) (after 3 ([]))
unfolding expressions_on_literals
and_evaluates = refl

-- x=1+1/0;
division_by_zero : evaluated 2000 no_items (binary_at (at 4) Add (number_at (at 3) (pos 1000000))
    (binary_at (at 6) Div (number_at (at 5) (pos 1000000)) (number_at (at 7) (pos 0)))) start ≡ refuses
    (faulted ZeroDivisor (at 6) []) (after 5 ([]))
unfolding expressions_on_literals
division_by_zero = refl

-- x=1000000000*2;
number_range : evaluated 2000 no_items (binary_at (at 13) Mul (number_at (at 3) (pos 1000000000000000))
    (number_at (at 14) (pos 2000000))) start ≡ refuses (faulted NumberRange (at 13) []) (after 3 ([]))
unfolding expressions_on_literals
number_range = refl

-- x=false ? 1/0 : 2;
choose_other : evaluated 2000 no_items (choose_at (at 9) (boolean_at (at 3) false) (binary_at (at 12)
    Div (number_at (at 11) (pos 1000000)) (number_at (at 13) (pos 0))) (number_at (at 17) (pos
    2000000))) start ≡ gives (number (pos 2000000)) (after 3 ([]))
unfolding expressions_on_literals
choose_other = refl

-- x=-[1,[2,"a"]];
negative_of_vector : evaluated 2000 no_items (unary_at (at 3) Minus (vector_at (at 4) (element (item
    (number_at (at 5) (pos 1000000))) (element (item (vector_at (at 7) (element (item (number_at (at 8)
    (pos 2000000))) (element (item (string_at (at 10) (codes "a"))) no_elements)))) no_elements))))
    start ≡ gives (vector (as_elements ((number (negsuc 999999)) ∷ (vector (as_elements ((number (negsuc
    1999999)) ∷ undef ∷ []))) ∷ []))) (after 18 ([]))
unfolding expressions_on_literals
negative_of_vector = refl

-- x=undef;
literal_undef : evaluated 2000 no_items (undef_at (at 3)) start ≡ gives undef (after 1 ([]))
unfolding expressions_on_literals
literal_undef = refl

-- x=true;
literal_true : evaluated 2000 no_items (boolean_at (at 3) true) start ≡ gives (boolean true) (after 1
    ([]))
unfolding expressions_on_literals
literal_true = refl

-- x="ab";
literal_string : evaluated 2000 no_items (string_at (at 3) (codes "ab")) start ≡ gives (string (codes
    "ab")) (after 1 ([]))
unfolding expressions_on_literals
literal_string = refl

-- x=[];
literal_empty_vector : evaluated 2000 no_items (vector_at (at 3) no_elements) start ≡ gives (vector
    (as_elements ([]))) (after 1 ([]))
unfolding expressions_on_literals
literal_empty_vector = refl

-- x=[[1,2],["a"]];
vector_of_vectors : evaluated 2000 no_items (vector_at (at 3) (element (item (vector_at (at 4) (element
    (item (number_at (at 5) (pos 1000000))) (element (item (number_at (at 7) (pos 2000000)))
    no_elements)))) (element (item (vector_at (at 10) (element (item (string_at (at 11) (codes "a")))
    no_elements))) no_elements))) start ≡ gives (vector (as_elements ((vector (as_elements ((number (pos
    1000000)) ∷ (number (pos 2000000)) ∷ []))) ∷ (vector (as_elements ((string (codes "a")) ∷ []))) ∷
    []))) (after 16 ([]))
unfolding expressions_on_literals
vector_of_vectors = refl

-- x=[1,2]+[3,4,5];
sum_of_vectors : evaluated 2000 no_items (binary_at (at 8) Add (vector_at (at 3) (element (item
    (number_at (at 4) (pos 1000000))) (element (item (number_at (at 6) (pos 2000000))) no_elements)))
    (vector_at (at 9) (element (item (number_at (at 10) (pos 3000000))) (element (item (number_at (at
    12) (pos 4000000))) (element (item (number_at (at 14) (pos 5000000))) no_elements))))) start ≡ gives
    (vector (as_elements ((number (pos 4000000)) ∷ (number (pos 6000000)) ∷ []))) (after 15 ([]))
unfolding expressions_on_literals
sum_of_vectors = refl

-- x=[1,2]*[3,4];
product_of_vectors : evaluated 2000 no_items (binary_at (at 8) Mul (vector_at (at 3) (element (item
    (number_at (at 4) (pos 1000000))) (element (item (number_at (at 6) (pos 2000000))) no_elements)))
    (vector_at (at 9) (element (item (number_at (at 10) (pos 3000000))) (element (item (number_at (at
    12) (pos 4000000))) no_elements)))) start ≡ gives (number (pos 11000000)) (after 11 ([]))
unfolding expressions_on_literals
product_of_vectors = refl

-- x="a"<"b";
string_less : evaluated 2000 no_items (binary_at (at 6) Lt (string_at (at 3) (codes "a")) (string_at (at
    7) (codes "b"))) start ≡ gives (boolean true) (after 3 ([]))
unfolding expressions_on_literals
string_less = refl

-- x="a"<1;
unlike_kinds_less : evaluated 2000 no_items (binary_at (at 6) Lt (string_at (at 3) (codes "a"))
    (number_at (at 7) (pos 1000000))) start ≡ gives undef (after 3 ([]))
unfolding expressions_on_literals
unlike_kinds_less = refl

-- x=[1,[2]]==[1,[2]];
equal_vectors : evaluated 2000 no_items (binary_at (at 10) Eq (vector_at (at 3) (element (item
    (number_at (at 4) (pos 1000000))) (element (item (vector_at (at 6) (element (item (number_at (at 7)
    (pos 2000000))) no_elements))) no_elements))) (vector_at (at 12) (element (item (number_at (at 13)
    (pos 1000000))) (element (item (vector_at (at 15) (element (item (number_at (at 16) (pos 2000000)))
    no_elements))) no_elements)))) start ≡ gives (boolean true) (after 17 ([]))
unfolding expressions_on_literals
equal_vectors = refl

-- x=-7%3;
remainder : evaluated 2000 no_items (binary_at (at 5) Rem (unary_at (at 3) Minus (number_at (at 4) (pos
    7000000))) (number_at (at 6) (pos 3000000))) start ≡ gives (number (negsuc 999999)) (after 4 ([]))
unfolding expressions_on_literals
remainder = refl

-- x=7%0;
remainder_by_zero : evaluated 2000 no_items (binary_at (at 4) Rem (number_at (at 3) (pos 7000000))
    (number_at (at 5) (pos 0))) start ≡ refuses (faulted ZeroDivisor (at 4) []) (after 3 ([]))
unfolding expressions_on_literals
remainder_by_zero = refl

-- x=!"";
not_of_empty_string : evaluated 2000 no_items (unary_at (at 3) Not (string_at (at 4) [])) start ≡ gives
    (boolean true) (after 2 ([]))
unfolding expressions_on_literals
not_of_empty_string = refl

-- x=+"a";
plus_of_string : evaluated 2000 no_items (unary_at (at 3) Plus (string_at (at 4) (codes "a"))) start ≡
    gives undef (after 2 ([]))
unfolding expressions_on_literals
plus_of_string = refl

-- x=+[1,[2]];
plus_of_vector : evaluated 2000 no_items (unary_at (at 3) Plus (vector_at (at 4) (element (item
    (number_at (at 5) (pos 1000000))) (element (item (vector_at (at 7) (element (item (number_at (at 8)
    (pos 2000000))) no_elements))) no_elements)))) start ≡ gives (vector (as_elements ((number (pos
    1000000)) ∷ (vector (as_elements ((number (pos 2000000)) ∷ []))) ∷ []))) (after 12 ([]))
unfolding expressions_on_literals
plus_of_vector = refl

-- x=-undef;
minus_of_undef : evaluated 2000 no_items (unary_at (at 3) Minus (undef_at (at 4))) start ≡ gives undef
    (after 2 ([]))
unfolding expressions_on_literals
minus_of_undef = refl

-- x=(1/0)+(1000000000*2);
left_fault_first : evaluated 2000 no_items (binary_at (at 8) Add (binary_at (at 5) Div (number_at (at 4)
    (pos 1000000)) (number_at (at 6) (pos 0))) (binary_at (at 20) Mul (number_at (at 10) (pos
    1000000000000000)) (number_at (at 21) (pos 2000000)))) start ≡ refuses (faulted ZeroDivisor (at 5)
    []) (after 4 ([]))
unfolding expressions_on_literals
left_fault_first = refl

-- x=0 || "a";
or_gives_boolean : evaluated 2000 no_items (binary_at (at 5) Or (number_at (at 3) (pos 0)) (string_at
    (at 8) (codes "a"))) start ≡ gives (boolean true) (after 3 ([]))
unfolding expressions_on_literals
or_gives_boolean = refl

-- x=1 && 0;
and_gives_boolean : evaluated 2000 no_items (binary_at (at 5) And (number_at (at 3) (pos 1000000))
    (number_at (at 8) (pos 0))) start ≡ gives (boolean false) (after 3 ([]))
unfolding expressions_on_literals
and_gives_boolean = refl

-- x=0 || 1/0;
or_evaluates_right_once : evaluated 2000 no_items (binary_at (at 5) Or (number_at (at 3) (pos 0))
    (binary_at (at 9) Div (number_at (at 8) (pos 1000000)) (number_at (at 10) (pos 0)))) start ≡ refuses
    (faulted ZeroDivisor (at 9) []) (after 5 ([]))
unfolding expressions_on_literals
or_evaluates_right_once = refl

-- x=1 ? 2 : 1/0;
choose_true : evaluated 2000 no_items (choose_at (at 5) (number_at (at 3) (pos 1000000)) (number_at (at
    7) (pos 2000000)) (binary_at (at 12) Div (number_at (at 11) (pos 1000000)) (number_at (at 13) (pos
    0)))) start ≡ gives (number (pos 2000000)) (after 3 ([]))
unfolding expressions_on_literals
choose_true = refl

-- x=undef ? 1 : 2;
choose_by_undef : evaluated 2000 no_items (choose_at (at 9) (undef_at (at 3)) (number_at (at 11) (pos
    1000000)) (number_at (at 15) (pos 2000000))) start ≡ gives (number (pos 2000000)) (after 3 ([]))
unfolding expressions_on_literals
choose_by_undef = refl
