-- Tokens that neither go on with an expression nor end one stop the reader behind each part of one.
use Rattle.std.proofs.Common.{◌≡◌, ℕ, Bool, false, List, Option, Some, None, refl, ap, ◌∙◌}
use Rattle.std.proofs.lemmas.Bool.{cond-false}
use Rattle.scad_fault.specs.declared.place.Place.{Place}
use Rattle.scad_lex.specs.declared.token.Token.{Token}
use Rattle.scad_lex.specs.declared.token.Sign.TheVariants.{CloseRound, CloseSquare, OpenCurly, Semicolon, Comma}
use Rattle.scad_lex.specs.declared.token.Sign.TheVariants.{Colon, Question, Assign, Bang, Caret, Hash, Dot}
use Rattle.scad_lex.specs.declared.token.Key.TheVariants.{Function, Else, Echo, Include, Use}
use Rattle.scad_ast.specs.declared.operator.BinOp.{BinOp}
use Rattle.scad_ast.specs.Tree.{Expression, unary, binary, choose, Arguments, Elements, Element, item, each, for_each}
use Rattle.scad_ast.specs.Tree.{for_loop, if_element, if_else, Parameter}
use Rattle.scad_grammar.specs.Tokens.{sign, key, is_sign, is_key, operator}
use Rattle.scad_grammar.specs.Lists.{with_argument, with_element, with_parameter, let_of}
use Rattle.scad_grammar.specs.Behind.{keyed_tree, a_module, a_function, BehindParameters, defined, BehindOperand}
use Rattle.scad_grammar.specs.Behind.{prefixed, first_of, right_of, tested, BehindExpression, in_round, in_index}
use Rattle.scad_grammar.specs.Behind.{chosen, other, body_of, argument_of, plain_item, range_second, range_third}
use Rattle.scad_grammar.specs.Behind.{loop_test, element_test, default_of, assigned_to, function_body, statement_test}
use Rattle.scad_grammar.specs.Behind.{BehindElement, in_vector, each_of, for_of, loop_of, let_body, held_element}
use Rattle.scad_grammar.specs.Behind.{other_element, BehindArguments, of_call, of_keyed, of_for, of_steps, of_let}
use Rattle.scad_grammar.specs.Behind.{of_statement}
use Rattle.scad_grammar.specs.State.{State}
use Rattle.scad_grammar.specs.Move.{Move, stuck}
use Rattle.scad_grammar.specs.Steps.{only, end_arguments, after_argument_step, end_parameters, after_parameter_step}
use Rattle.scad_grammar.specs.Steps.{after_one_step, member_step, after_element, after_expression, tested_step}
use Rattle.scad_grammar.specs.Steps.{link_step, after_operand}

-- tokens that neither go on with an expression nor end one
pub data Foreign : Token → Type 0 where
  foreign_include : {at : Place} → Foreign (key Include at)
  foreign_use : {at : Place} → Foreign (key Use at)
  foreign_curly : {at : Place} → Foreign (sign OpenCurly at)
  foreign_bang : {at : Place} → Foreign (sign Bang at)
  foreign_hash : {at : Place} → Foreign (sign Hash at)
  foreign_caret : {at : Place} → Foreign (sign Caret at)
  foreign_dot : {at : Place} → Foreign (sign Dot at)
  foreign_function : {at : Place} → Foreign (key Function at)
  foreign_echo : {at : Place} → Foreign (key Echo at)

-- the tests for the tokens that go on with a part of an expression or end one
record Tests : Type 0 where
  round : Bool
  square : Bool
  semicolon : Bool
  comma : Bool
  colon : Bool
  question : Bool
  assign : Bool
  other : Bool

abbrev tests : Token → Tests
tests t = record {
  round = is_sign CloseRound t;
  square = is_sign CloseSquare t;
  semicolon =
      is_sign Semicolon t;
  comma = is_sign Comma t;
  colon = is_sign Colon t;
  question =
      is_sign Question t;
  assign = is_sign Assign t;
  other = is_key Else t;
}

abbrev fails_all : Tests
fails_all = record {
  round = false;
  square = false;
  semicolon = false;
  comma = false;
  colon = false;
  question =
      false;
  assign = false;
  other = false;
}

no_test : {t : Token} → Foreign t → tests t ≡ fails_all
no_test foreign_include = refl
no_test foreign_use = refl
no_test foreign_curly = refl
no_test foreign_bang = refl
no_test foreign_hash = refl
no_test foreign_caret = refl
no_test foreign_dot = refl
no_test foreign_function = refl
no_test foreign_echo = refl

no_round : {t : Token} → Foreign t → is_sign CloseRound t ≡ false
no_round f = ap (λ (x : Tests). x.round) (no_test f)

no_square : {t : Token} → Foreign t → is_sign CloseSquare t ≡ false
no_square f = ap (λ (x : Tests). x.square) (no_test f)

no_semicolon : {t : Token} → Foreign t → is_sign Semicolon t ≡ false
no_semicolon f = ap (λ (x : Tests). x.semicolon) (no_test f)

no_comma : {t : Token} → Foreign t → is_sign Comma t ≡ false
no_comma f = ap (λ (x : Tests). x.comma) (no_test f)

no_colon : {t : Token} → Foreign t → is_sign Colon t ≡ false
no_colon f = ap (λ (x : Tests). x.colon) (no_test f)

no_question : {t : Token} → Foreign t → is_sign Question t ≡ false
no_question f = ap (λ (x : Tests). x.question) (no_test f)

no_assign : {t : Token} → Foreign t → is_sign Assign t ≡ false
no_assign f = ap (λ (x : Tests). x.assign) (no_test f)

no_else : {t : Token} → Foreign t → is_key Else t ≡ false
no_else f = ap (λ (x : Tests). x.other) (no_test f)

no_operator : (n : ℕ) {t : Token} → Foreign t → operator n t ≡ None
no_operator n foreign_include = refl
no_operator n foreign_use = refl
no_operator n foreign_curly = refl
no_operator n foreign_bang = refl
no_operator n foreign_hash = refl
no_operator n foreign_caret = refl
no_operator n foreign_dot = refl
no_operator n foreign_function = refl
no_operator n foreign_echo = refl

pub only_false : {b : Bool} (s : State) → b ≡ false → only b s ≡ stuck
only_false s h = ap (λ (b : Bool). only b s) h

pub stuck_end_arguments : (all : Arguments) (k : BehindArguments) {t : Token} → Foreign t →
    end_arguments all k t ≡ stuck
unfolding end_arguments
stuck_end_arguments all (of_call at n k) f = only_false _ (no_round f)
stuck_end_arguments all (of_keyed what at k) f = only_false _ (no_round f)
stuck_end_arguments all (of_for at k) f = cond-false _ _ _ (no_round f) ∙ only_false _ (no_semicolon f)
stuck_end_arguments all (of_steps at starts e k) f = only_false _ (no_round f)
stuck_end_arguments all (of_let at k) f = only_false _ (no_round f)
stuck_end_arguments all (of_statement at m n a k) f = only_false _ (no_round f)

pub stuck_argument : (all : Arguments) (k : BehindArguments) {t : Token} → Foreign t →
    after_argument_step all k t ≡ stuck
unfolding after_argument_step
stuck_argument all k f = cond-false _ _ _ (no_comma f) ∙ stuck_end_arguments all k f

pub stuck_end_parameters : (all : List Parameter) (k : BehindParameters) {t : Token} → Foreign t →
    end_parameters all k t ≡ stuck
unfolding end_parameters
stuck_end_parameters all (defined a_module at n a k) f = only_false _ (no_round f)
stuck_end_parameters all (defined a_function at n a k) f = only_false _ (no_round f)

pub stuck_parameter : (all : List Parameter) (k : BehindParameters) {t : Token} → Foreign t →
    after_parameter_step all k t ≡ stuck
unfolding after_parameter_step
stuck_parameter all k f = cond-false _ _ _ (no_comma f) ∙ stuck_end_parameters all k f

pub stuck_one : (at : Place) (a : Elements) (k : BehindOperand) {t : Token} → Foreign t →
    after_one_step at a k t ≡ stuck
unfolding after_one_step
stuck_one at a k f = cond-false _ _ _ (no_comma f) ∙ only_false _ (no_square f)

pub stuck_member : (at : Place) (a : Elements) (el : Element) (k : BehindOperand) {t : Token} → Foreign t →
    member_step at a el k t ≡ stuck
unfolding member_step
stuck_member at a el k f = cond-false _ _ _ (no_colon f) ∙ stuck_one at (with_element a el) k f

pub stuck_element : (el : Element) (k : BehindElement) {t : Token} → Foreign t → after_element el k t ≡ stuck
unfolding after_element
stuck_element el (in_vector at a k) f = stuck_member at a el k f
stuck_element el (each_of at k) f = stuck_element (each at el) k f
stuck_element el (for_of at all k) f = stuck_element (for_each at all el) k f
stuck_element el (loop_of at starts e steps k) f = stuck_element (for_loop at starts e steps el) k f
stuck_element el (let_body at all k) f = stuck_element (let_of at all el) k f
stuck_element el (held_element at e k) f = cond-false _ _ _ (no_else f) ∙ stuck_element (if_element at e el) k f
stuck_element el (other_element at e held k) f = stuck_element (if_else at e held el) k f

pub stuck_expression : (e : Expression) (k : BehindExpression) {t : Token} → Foreign t → after_expression e k t
    ≡ stuck
unfolding after_expression
stuck_expression e (in_round k) f = only_false _ (no_round f)
stuck_expression e (in_index at a count k) f = only_false _ (no_square f)
stuck_expression e (chosen at a k) f = only_false _ (no_colon f)
stuck_expression e (other at a b k) f = stuck_expression (choose at a b e) k f
stuck_expression e (body_of what at all k) f = stuck_expression (keyed_tree what at all e) k f
stuck_expression e (argument_of o all k) f = stuck_argument (with_argument all o e) k f
stuck_expression e (plain_item k) f = stuck_element (item e) k f
stuck_expression e (range_second at a k) f = cond-false _ _ _ (no_colon f) ∙ only_false _ (no_square f)
stuck_expression e (range_third at a b k) f = only_false _ (no_square f)
stuck_expression e (loop_test at all k) f = only_false _ (no_semicolon f)
stuck_expression e (element_test at k) f = only_false _ (no_round f)
stuck_expression e (default_of n all k) f = stuck_parameter (with_parameter all n (Some e)) k f
stuck_expression e (assigned_to at n a k) f = only_false _ (no_semicolon f)
stuck_expression e (function_body at n all a k) f = only_false _ (no_semicolon f)
stuck_expression e (statement_test at m a k) f = only_false _ (no_round f)

pub stuck_tested : (e : Expression) (k : BehindExpression) {t : Token} → Foreign t → tested_step e k t ≡ stuck
unfolding tested_step
stuck_tested e k f = cond-false _ _ _ (no_question f) ∙ stuck_expression e k f

pub stuck_link : (n count : ℕ) (a : Expression) (k : BehindOperand) {t : Token} (x : Move) → Foreign t → x ≡ stuck →
    link_step n count a k t (operator n t) x ≡ stuck
stuck_link n count a k {t = t} x f h = ap (λ (o : Option BinOp). link_step n count a k t o x) (no_operator n f) ∙ h

pub stuck_operand : (e : Expression) (k : BehindOperand) {t : Token} → Foreign t → after_operand e k t ≡ stuck
unfolding after_operand
stuck_operand e (prefixed at op k) f = stuck_operand (unary at op e) k f
stuck_operand e (first_of n k) {t = t} f = stuck_link n 0 e k (after_operand e k t) f (stuck_operand e k f)
stuck_operand e (right_of n count a op at k) {t = t} f =
    stuck_link n count (binary at op a e) k (after_operand (binary at op a e) k t) f
    (stuck_operand (binary at op a e) k f)
stuck_operand e (tested k) f = stuck_tested e k f
