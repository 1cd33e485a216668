-- The tokens with which an operand begins, and what they do where more than an operand may begin.
use Rattle.std.proofs.Common.{◌≡◌, ℕ, ℤ, false, List, ◌∷◌, None, refl}
use Rattle.scad_fault.specs.declared.place.Place.{Place}
use Rattle.scad_lex.specs.declared.token.Token.{Token}
use Rattle.scad_lex.specs.declared.token.Sign.TheVariants.{OpenRound, OpenSquare, Plus, Minus, Bang}
use Rattle.scad_lex.specs.declared.token.Key.TheVariants.{True, False, Undef}
use Rattle.scad_ast.specs.Tree.{Expression, Arguments, Elements, Element}
use Rattle.scad_grammar.specs.Tokens.{sign, key, word, numeral, quoted}
use Rattle.scad_grammar.specs.Grammar.{begins_named, Expr, let_expr, assert_expr, echo_expr, test, Operand, tightest}
use Rattle.scad_grammar.specs.Grammar.{line, Unary, not_unary, plus_unary, minus_unary, post, Prim, a_number}
use Rattle.scad_grammar.specs.Grammar.{a_string, a_true, a_false, an_undef, a_name, a_call, a_group, a_range}
use Rattle.scad_grammar.specs.Grammar.{a_vector, Elem, comp, plain, Comp, a_for, a_loop, an_each, let_comp, an_if}
use Rattle.scad_grammar.specs.Behind.{BehindOperand, tested, BehindExpression, argument_of, plain_item, in_vector}
use Rattle.scad_grammar.specs.Behind.{BehindArguments, BehindElement}
use Rattle.scad_grammar.specs.State.{want_expression, want_unary, opened, in_arguments, want_element, in_elements}
use Rattle.scad_grammar.specs.Steps.{prim_step, unary_step, expression_step, element_step, arguments_step}
use Rattle.scad_grammar.specs.Machine.{step, run}
use Rattle.scad_grammar.proofs.reader.Runs.{ended_word}

pub data Opening : List Token → Type 0 where
  with_number : {at : Place} {z : ℤ} {ts : List Token} → Opening (numeral z at ∷ ts)
  with_string : {at : Place} {chars : List ℕ} {ts : List Token} → Opening (quoted chars at ∷ ts)
  with_true : {at : Place} {ts : List Token} → Opening (key True at ∷ ts)
  with_false : {at : Place} {ts : List Token} → Opening (key False at ∷ ts)
  with_undef : {at : Place} {ts : List Token} → Opening (key Undef at ∷ ts)
  with_word : {at : Place} {w : List ℕ} {ts : List Token} → Opening (word w at ∷ ts)
  with_round : {at : Place} {ts : List Token} → Opening (sign OpenRound at ∷ ts)
  with_square : {at : Place} {ts : List Token} → Opening (sign OpenSquare at ∷ ts)
  with_bang : {at : Place} {ts : List Token} → Opening (sign Bang at ∷ ts)
  with_plus : {at : Place} {ts : List Token} → Opening (sign Plus at ∷ ts)
  with_minus : {at : Place} {ts : List Token} → Opening (sign Minus at ∷ ts)

prim_opening : {ts us : List Token} {e : Expression} → Prim ts us e → Opening ts
prim_opening a_number = with_number
prim_opening a_string = with_string
prim_opening a_true = with_true
prim_opening a_false = with_false
prim_opening an_undef = with_undef
prim_opening (a_name h) = with_word
prim_opening (a_call d) = with_word
prim_opening (a_group d) = with_round
prim_opening (a_range d e r) = with_square
prim_opening (a_vector d) = with_square

unary_opening : {ts us : List Token} {e : Expression} → Unary ts us e → Opening ts
unary_opening (not_unary d) = with_bang
unary_opening (plus_unary d) = with_plus
unary_opening (minus_unary d) = with_minus
unary_opening (post d l) = prim_opening d

pub operand_opening : {n : ℕ} {ts us : List Token} {e : Expression} → Operand n ts us e → Opening ts
operand_opening (tightest d) = unary_opening d
operand_opening (line d l) = operand_opening d

pub opens_expression : {ts : List Token} → Opening ts → (k : BehindExpression) →
    run (want_expression k) ts ≡ run (want_unary (opened 6 (tested k))) ts
unfolding run step expression_step
opens_expression with_number k = refl
opens_expression with_string k = refl
opens_expression with_true k = refl
opens_expression with_false k = refl
opens_expression with_undef k = refl
opens_expression with_word k = refl
opens_expression with_round k = refl
opens_expression with_square k = refl
opens_expression with_bang k = refl
opens_expression with_plus k = refl
opens_expression with_minus k = refl

pub opens_element : {ts : List Token} → Opening ts → (k : BehindElement) →
    run (want_element k) ts ≡ run (want_unary (opened 6 (tested (plain_item k)))) ts
unfolding run step element_step expression_step
opens_element with_number k = refl
opens_element with_string k = refl
opens_element with_true k = refl
opens_element with_false k = refl
opens_element with_undef k = refl
opens_element with_word k = refl
opens_element with_round k = refl
opens_element with_square k = refl
opens_element with_bang k = refl
opens_element with_plus k = refl
opens_element with_minus k = refl

-- an element stands where the elements of a vector could end
pub opens_elements : {ts : List Token} → Opening ts → (at : Place) (all : Elements) (k : BehindOperand) →
    run (in_elements at all k) ts ≡ run (want_element (in_vector at all k)) ts
unfolding run step
opens_elements with_number at all k = refl
opens_elements with_string at all k = refl
opens_elements with_true at all k = refl
opens_elements with_false at all k = refl
opens_elements with_undef at all k = refl
opens_elements with_word at all k = refl
opens_elements with_round at all k = refl
opens_elements with_square at all k = refl
opens_elements with_bang at all k = refl
opens_elements with_plus at all k = refl
opens_elements with_minus at all k = refl

pub opens_elements_expr : {ts us : List Token} {e : Expression} → Expr ts us e →
    (at : Place) (all : Elements) (k : BehindOperand) →
    run (in_elements at all k) ts ≡ run (want_element (in_vector at all k)) ts
unfolding run step
opens_elements_expr (let_expr d b) at all k = refl
opens_elements_expr (assert_expr d b) at all k = refl
opens_elements_expr (echo_expr d b) at all k = refl
opens_elements_expr (test d c) at all k = opens_elements (operand_opening d) at all k

opens_elements_comp : {ts us : List Token} {el : Element} → Comp ts us el →
    (at : Place) (all : Elements) (k : BehindOperand) →
    run (in_elements at all k) ts ≡ run (want_element (in_vector at all k)) ts
unfolding run step
opens_elements_comp (a_for d b) at all k = refl
opens_elements_comp (a_loop d e s b) at all k = refl
opens_elements_comp (an_each d) at all k = refl
opens_elements_comp (let_comp d b) at all k = refl
opens_elements_comp (an_if d b o) at all k = refl

pub opens_elements_elem : {ts us : List Token} {el : Element} → Elem ts us el →
    (at : Place) (all : Elements) (k : BehindOperand) →
    run (in_elements at all k) ts ≡ run (want_element (in_vector at all k)) ts
opens_elements_elem (comp d) at all k = opens_elements_comp d at all k
opens_elements_elem (plain d) at all k = opens_elements_expr d at all k

-- an unnamed argument begins
pub opens_argument : {ts : List Token} → Opening ts → begins_named ts ≡ false →
    (all : Arguments) (k : BehindArguments) →
    run (in_arguments all k) ts ≡ run (want_unary (opened 6 (tested (argument_of None all k)))) ts
unfolding run step arguments_step expression_step unary_step prim_step
opens_argument with_number h all k = refl
opens_argument with_string h all k = refl
opens_argument with_true h all k = refl
opens_argument with_false h all k = refl
opens_argument with_undef h all k = refl
opens_argument (with_word {at = at} {w = w} {ts = ts}) h all k = ended_word at w all k ts h
opens_argument with_round h all k = refl
opens_argument with_square h all k = refl
opens_argument with_bang h all k = refl
opens_argument with_plus h all k = refl
opens_argument with_minus h all k = refl
