-- Where an expression begins a reader that wants more than an operand goes on as one that wants an operand.
use Rattle.std.proofs.Common.{◌≡◌, ℕ, ◌<◌, ◌≤◌, false, List, ◌∷◌, None, length, refl, sym, ◌∙◌, arith, ◌⊎◌, inl, inr}
use Rattle.std.proofs.lemmas.Bool.{cases_lt}
use Rattle.scad_fault.specs.declared.place.Place.{Place}
use Rattle.scad_lex.specs.declared.token.Token.{Token}
use Rattle.scad_ast.specs.Tree.{Expression, Arguments, Elements, Element}
use Rattle.scad_grammar.specs.Tokens.{word}
use Rattle.scad_grammar.specs.Grammar.{begins_named, Expr, let_expr, assert_expr, echo_expr, test, Elem, comp, plain}
use Rattle.scad_grammar.specs.Grammar.{Comp, a_for, a_loop, an_each, let_comp, an_if}
use Rattle.scad_grammar.specs.Behind.{BehindOperand, tested, BehindExpression, argument_of, plain_item, in_vector}
use Rattle.scad_grammar.specs.Behind.{BehindArguments, BehindElement}
use Rattle.scad_grammar.specs.State.{want_expression, want_unary, opened, in_arguments, have_word, have_name}
use Rattle.scad_grammar.specs.State.{want_element, in_elements}
use Rattle.scad_grammar.specs.Steps.{prim_step, unary_step, expression_step, element_step, arguments_step}
use Rattle.scad_grammar.specs.Machine.{step}
use Rattle.scad_grammar.proofs.reader.Openings.{Opening, with_number, with_string, with_true, with_false, with_undef}
use Rattle.scad_grammar.proofs.reader.Openings.{with_word, with_round, with_square, with_bang, with_plus, with_minus}
use Rattle.scad_grammar.proofs.reader.Openings.{operand_opening}
use Rattle.scad_grammar.proofs.nesting.PartEnd.{ended_word}
use Rattle.scad_grammar.proofs.nesting.Places.{Alike, FirstAlike, by_first, kept_at, at_start, past_to}

expression_first : {ts : List Token} → Opening ts → (k : BehindExpression) →
    FirstAlike (want_expression k) (want_unary (opened 6 (tested k))) ts
unfolding step expression_step
expression_first with_number k = refl
expression_first with_string k = refl
expression_first with_true k = refl
expression_first with_false k = refl
expression_first with_undef k = refl
expression_first with_word k = refl
expression_first with_round k = refl
expression_first with_square k = refl
expression_first with_bang k = refl
expression_first with_plus k = refl
expression_first with_minus k = refl

pub opens_expression : {ts : List Token} → Opening ts → (k : BehindExpression) →
    Alike (want_expression k) (want_unary (opened 6 (tested k))) ts
opens_expression {ts = ts} o k =
    by_first (want_expression k) (want_unary (opened 6 (tested k))) ts (expression_first o k) refl

element_first : {ts : List Token} → Opening ts → (k : BehindElement) →
    FirstAlike (want_element k) (want_unary (opened 6 (tested (plain_item k)))) ts
unfolding step element_step expression_step
element_first with_number k = refl
element_first with_string k = refl
element_first with_true k = refl
element_first with_false k = refl
element_first with_undef k = refl
element_first with_word k = refl
element_first with_round k = refl
element_first with_square k = refl
element_first with_bang k = refl
element_first with_plus k = refl
element_first with_minus k = refl

pub opens_element : {ts : List Token} → Opening ts → (k : BehindElement) →
    Alike (want_element k) (want_unary (opened 6 (tested (plain_item k)))) ts
opens_element {ts = ts} o k =
    by_first (want_element k) (want_unary (opened 6 (tested (plain_item k)))) ts (element_first o k) refl

-- an element stands where the elements of a vector could end
elements_first : {ts : List Token} → Opening ts → (at : Place) (all : Elements) (k : BehindOperand) →
    FirstAlike (in_elements at all k) (want_element (in_vector at all k)) ts
unfolding step
elements_first with_number at all k = refl
elements_first with_string at all k = refl
elements_first with_true at all k = refl
elements_first with_false at all k = refl
elements_first with_undef at all k = refl
elements_first with_word at all k = refl
elements_first with_round at all k = refl
elements_first with_square at all k = refl
elements_first with_bang at all k = refl
elements_first with_plus at all k = refl
elements_first with_minus at all k = refl

elements_expr_first : {ts us : List Token} {e : Expression} → Expr ts us e →
    (at : Place) (all : Elements) (k : BehindOperand) →
    FirstAlike (in_elements at all k) (want_element (in_vector at all k)) ts
unfolding step
elements_expr_first (let_expr d b) at all k = refl
elements_expr_first (assert_expr d b) at all k = refl
elements_expr_first (echo_expr d b) at all k = refl
elements_expr_first (test d c) at all k = elements_first (operand_opening d) at all k

elements_comp_first : {ts us : List Token} {el : Element} → Comp ts us el →
    (at : Place) (all : Elements) (k : BehindOperand) →
    FirstAlike (in_elements at all k) (want_element (in_vector at all k)) ts
unfolding step
elements_comp_first (a_for d b) at all k = refl
elements_comp_first (a_loop d e s b) at all k = refl
elements_comp_first (an_each d) at all k = refl
elements_comp_first (let_comp d b) at all k = refl
elements_comp_first (an_if d b o) at all k = refl

elements_elem_first : {ts us : List Token} {el : Element} → Elem ts us el →
    (at : Place) (all : Elements) (k : BehindOperand) →
    FirstAlike (in_elements at all k) (want_element (in_vector at all k)) ts
elements_elem_first (comp d) at all k = elements_comp_first d at all k
elements_elem_first (plain d) at all k = elements_expr_first d at all k

pub opens_elements_expr : {ts us : List Token} {e : Expression} → Expr ts us e →
    (at : Place) (all : Elements) (k : BehindOperand) →
    Alike (in_elements at all k) (want_element (in_vector at all k)) ts
opens_elements_expr {ts = ts} d at all k =
    by_first (in_elements at all k) (want_element (in_vector at all k)) ts (elements_expr_first d at all k) refl

pub opens_elements_elem : {ts us : List Token} {el : Element} → Elem ts us el →
    (at : Place) (all : Elements) (k : BehindOperand) →
    Alike (in_elements at all k) (want_element (in_vector at all k)) ts
opens_elements_elem {ts = ts} d at all k =
    by_first (in_elements at all k) (want_element (in_vector at all k)) ts (elements_elem_first d at all k) refl

-- an unnamed argument begins with a WORD
begins_with_word : (at : Place) (w : List ℕ) (all : Arguments) (k : BehindArguments) (ts : List Token) →
    begins_named (word w at ∷ ts) ≡ false →
    Alike (in_arguments all k) (want_expression (argument_of None all k)) (word w at ∷ ts)
unfolding step arguments_step expression_step unary_step prim_step
begins_with_word at w all k ts h v le = by_order (cases_lt (length ts) v)
  where
    by_order : (length ts < v) ⊎ (v ≤ length ts) →
        kept_at (in_arguments all k) (word w at ∷ ts) v ≡ kept_at (want_expression (argument_of None all k))
        (word w at ∷ ts) v
    by_order (inl g) =
        at_start (in_arguments all k) (word w at ∷ ts) v (omega arith)
        ∙ sym (at_start (want_expression (argument_of None all k)) (word w at ∷ ts) v (omega arith))
    by_order (inr g) =
        past_to (in_arguments all k) (have_word at w all k) (word w at) ts v g refl
        ∙ (ended_word at w all k ts h v g
        ∙ sym (past_to (want_expression (argument_of None all k))
        (have_name at w (opened 6 (tested (argument_of None all k)))) (word w at) ts v g refl))

argument_alike : {ts : List Token} → Opening ts → begins_named ts ≡ false → (all : Arguments) (k : BehindArguments) →
    Alike (in_arguments all k) (want_expression (argument_of None all k)) ts
unfolding step arguments_step
argument_alike {ts = ts} with_number h all k =
    by_first (in_arguments all k) (want_expression (argument_of None all k)) ts refl refl
argument_alike {ts = ts} with_string h all k =
    by_first (in_arguments all k) (want_expression (argument_of None all k)) ts refl refl
argument_alike {ts = ts} with_true h all k =
    by_first (in_arguments all k) (want_expression (argument_of None all k)) ts refl refl
argument_alike {ts = ts} with_false h all k =
    by_first (in_arguments all k) (want_expression (argument_of None all k)) ts refl refl
argument_alike {ts = ts} with_undef h all k =
    by_first (in_arguments all k) (want_expression (argument_of None all k)) ts refl refl
argument_alike (with_word {at = at} {w = w} {ts = ts}) h all k = begins_with_word at w all k ts h
argument_alike {ts = ts} with_round h all k =
    by_first (in_arguments all k) (want_expression (argument_of None all k)) ts refl refl
argument_alike {ts = ts} with_square h all k =
    by_first (in_arguments all k) (want_expression (argument_of None all k)) ts refl refl
argument_alike {ts = ts} with_bang h all k =
    by_first (in_arguments all k) (want_expression (argument_of None all k)) ts refl refl
argument_alike {ts = ts} with_plus h all k =
    by_first (in_arguments all k) (want_expression (argument_of None all k)) ts refl refl
argument_alike {ts = ts} with_minus h all k =
    by_first (in_arguments all k) (want_expression (argument_of None all k)) ts refl refl

pub opens_argument : {ts us : List Token} {e : Expression} → Expr ts us e → begins_named ts ≡ false →
    (all : Arguments) (k : BehindArguments) → Alike (in_arguments all k) (want_expression (argument_of None all k)) ts
unfolding step arguments_step
opens_argument {ts = ts} (let_expr d b) h all k =
    by_first (in_arguments all k) (want_expression (argument_of None all k)) ts refl refl
opens_argument {ts = ts} (assert_expr d b) h all k =
    by_first (in_arguments all k) (want_expression (argument_of None all k)) ts refl refl
opens_argument {ts = ts} (echo_expr d b) h all k =
    by_first (in_arguments all k) (want_expression (argument_of None all k)) ts refl refl
opens_argument (test d c) h all k = argument_alike (operand_opening d) h all k
