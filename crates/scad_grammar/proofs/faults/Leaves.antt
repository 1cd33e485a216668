-- A move that leaves a form out has one of the tokens of these forms.
use Rattle.std.proofs.Common.{◌≡◌, ℕ, Bool, true, false, if◌then◌else◌, List, [], Option, Some, None, refl, ap, sym}
use Rattle.std.proofs.Common.{subst, codes}
use Rattle.std.proofs.lemmas.Bool.{false≢true}
use Rattle.scad_fault.specs.declared.place.Place.{Place}
use Rattle.scad_lex.specs.declared.token.Token.{Token}
use Rattle.scad_lex.specs.declared.token.Sign.{Sign as SignName}
use Rattle.scad_lex.specs.declared.token.Key.{Key as KeyName}
use Rattle.scad_lex.specs.declared.token.Sign.TheVariants.{OpenRound, CloseRound, OpenSquare}
use Rattle.scad_lex.specs.declared.token.Sign.TheVariants.{Comma, Colon, Question, Assign}
use Rattle.scad_lex.specs.declared.token.Sign.TheVariants.{Plus, Minus, Dot, Bang, Caret}
use Rattle.scad_lex.specs.declared.token.Key.TheVariants.{Function, If, Else, For, Let, Assert, Echo, Each}
use Rattle.scad_lex.specs.declared.token.Key.TheVariants.{Include, Use}
use Rattle.scad_ast.specs.declared.operator.BinOp.{BinOp}
use Rattle.scad_ast.specs.Tree.{Expression, name, unary, binary, choose, Arguments, Elements, Element, item, each}
use Rattle.scad_ast.specs.Tree.{for_each, for_loop, if_element, if_else, Parameter}
use Rattle.scad_grammar.specs.Tokens.{sign, key, is_sign, is_key, word_of, operator}
use Rattle.scad_grammar.specs.Lists.{with_argument, with_element, with_parameter, let_of}
use Rattle.scad_grammar.specs.Grammar.{ends_arguments}
use Rattle.scad_grammar.specs.Behind.{keyed_tree, a_module, a_function}
use Rattle.scad_grammar.specs.Behind.{BehindParameters, defined}
use Rattle.scad_grammar.specs.Behind.{BehindOperand, prefixed, first_of, right_of, tested, BehindExpression, in_round}
use Rattle.scad_grammar.specs.Behind.{in_index, chosen, other, body_of, argument_of, plain_item, range_second}
use Rattle.scad_grammar.specs.Behind.{range_third, loop_test, element_test, default_of, assigned_to, function_body}
use Rattle.scad_grammar.specs.Behind.{statement_test, BehindElement, in_vector, each_of, for_of, loop_of, let_body}
use Rattle.scad_grammar.specs.Behind.{held_element, other_element, BehindArguments, of_call, of_keyed, of_for}
use Rattle.scad_grammar.specs.Behind.{of_steps, of_let, of_statement}
use Rattle.scad_grammar.specs.State.{State}
use Rattle.scad_grammar.specs.State.{opened}
use Rattle.scad_grammar.specs.Move.{Move, go, left_out, stuck}
use Rattle.scad_grammar.specs.Steps.{only, literal, word_step, literal_step, prim_step, unary_step, expression_step}
use Rattle.scad_grammar.specs.Steps.{element_step, end_arguments, after_argument_step, argument_step, arguments_step}
use Rattle.scad_grammar.specs.Steps.{end_parameters, after_parameter_step, after_one_step, range_start, range_step}
use Rattle.scad_grammar.specs.Steps.{member_step, after_element, after_expression, tested_step, link_step}
use Rattle.scad_grammar.specs.Steps.{after_operand, post_step, name_step, word_argument}
use Rattle.scad_grammar.proofs.reader.TokenTests.{is_the_sign, is_the_key}

-- the tokens of the forms, with their names
pub data Form : Token → List ℕ → Type 0 where
  form_include : {at : Place} → Form (key Include at) (codes "include")
  form_use : {at : Place} → Form (key Use at) (codes "use")
  form_mark : {at : Place} → Form (sign Bang at) (codes "!")
  form_operator : {at : Place} → Form (sign Caret at) (codes "^")
  form_function : {at : Place} → Form (key Function at) (codes "function")

abbrev pub leaves : Move → Bool
leaves (go s) = false
leaves (left_out w) = true
leaves stuck = false

abbrev pub left_name : Move → List ℕ
left_name (go s) = []
left_name (left_out w) = w
left_name stuck = []

pub no_go : {s : State} {w : List ℕ} → go s ≡ left_out w → ⊥
no_go h = false≢true (ap leaves h)

pub no_stuck : {w : List ℕ} → stuck ≡ left_out w → ⊥
no_stuck h = false≢true (ap leaves h)

pub same_name : (v w : List ℕ) → left_out v ≡ left_out w → v ≡ w
same_name v w h = ap left_name h

pub only_stays : (b : Bool) (s : State) (w : List ℕ) → only b s ≡ left_out w → ⊥
only_stays true s w h = no_go h
only_stays false s w h = no_stuck h

pub by_cases : (b : Bool) (x y : Move) (w : List ℕ) {G : Type 0} →
    (b ≡ true → x ≡ left_out w → G) → (y ≡ left_out w → G) → (if b then x else y) ≡ left_out w → G
by_cases true x y w f g h = f refl h
by_cases false x y w f g h = g h

pub skip : (b : Bool) (s : State) (y : Move) (w : List ℕ) {G : Type 0} → (y ≡ left_out w → G) →
    (if b then go s else y) ≡ left_out w → G
skip b s y w g = by_cases b (go s) y w (λ _ h. absurd (no_go h)) g

pub at_key : (k : KeyName) (t : Token) (v : List ℕ) (y : Move) (w : List ℕ) → Form (key k t.at) v →
    (y ≡ left_out w → Form t w) →
    (if is_key k t then left_out v else y) ≡ left_out w → Form t w
at_key k t v y w form g =
    by_cases (is_key k t) (left_out v) y w
    (λ b h. subst (λ (u : Token). Form u w) (sym (is_the_key k t b))
    (subst (Form (key k t.at)) (same_name v w h) form)) g

pub at_sign : (s : SignName) (t : Token) (v : List ℕ) (y : Move) (w : List ℕ) → Form (sign s t.at) v →
    (y ≡ left_out w → Form t w) →
    (if is_sign s t then left_out v else y) ≡ left_out w → Form t w
at_sign s t v y w form g =
    by_cases (is_sign s t) (left_out v) y w
    (λ b h. subst (λ (u : Token). Form u w) (sym (is_the_sign s t b))
    (subst (Form (sign s t.at)) (same_name v w h) form)) g

-- behind a part nothing is left out
pub end_arguments_stays : (all : Arguments) (k : BehindArguments) (t : Token) (w : List ℕ) → end_arguments all k t
    ≡ left_out w → ⊥
unfolding end_arguments
end_arguments_stays all (of_call at n k) t w = only_stays _ _ w
end_arguments_stays all (of_keyed what at k) t w = only_stays _ _ w
end_arguments_stays all (of_for at k) t w = skip (is_sign CloseRound t) _ _ w (only_stays _ _ w)
end_arguments_stays all (of_steps at starts e k) t w = only_stays _ _ w
end_arguments_stays all (of_let at k) t w = only_stays _ _ w
end_arguments_stays all (of_statement at m n a k) t w = only_stays _ _ w

pub argument_stays : (all : Arguments) (k : BehindArguments) (t : Token) (w : List ℕ) → after_argument_step all k t
    ≡ left_out w → ⊥
unfolding after_argument_step
argument_stays all k t w = skip (is_sign Comma t) _ _ w (end_arguments_stays all k t w)

pub end_parameters_stays : (all : List Parameter) (k : BehindParameters) (t : Token) (w : List ℕ) →
    end_parameters all k t ≡ left_out w → ⊥
unfolding end_parameters
end_parameters_stays all (defined a_module at n a k) t w = only_stays _ _ w
end_parameters_stays all (defined a_function at n a k) t w = only_stays _ _ w

pub parameter_stays : (all : List Parameter) (k : BehindParameters) (t : Token) (w : List ℕ) →
    after_parameter_step all k t ≡ left_out w → ⊥
unfolding after_parameter_step
parameter_stays all k t w = skip (is_sign Comma t) _ _ w (end_parameters_stays all k t w)

pub one_stays : (at : Place) (a : Elements) (k : BehindOperand) (t : Token) (w : List ℕ) → after_one_step at a k t
    ≡ left_out w → ⊥
unfolding after_one_step
one_stays at a k t w = skip (is_sign Comma t) _ _ w (only_stays _ _ w)

pub range_stays : (at : Place) (o : Option Expression) (k : BehindOperand) (w : List ℕ) → range_step at o k
    ≡ left_out w → ⊥
range_stays at (Some e) k w h = no_go h
range_stays at None k w h = no_stuck h

pub member_stays : (at : Place) (a : Elements) (el : Element) (k : BehindOperand) (t : Token) (w : List ℕ) →
    member_step at a el k t ≡ left_out w → ⊥
unfolding member_step
member_stays at a el k t w =
    by_cases (is_sign Colon t) _ _ w (λ _. range_stays at (range_start a el) k w)
    (one_stays at (with_element a el) k t w)

pub element_stays : (el : Element) (k : BehindElement) (t : Token) (w : List ℕ) → after_element el k t ≡ left_out w →
    ⊥
unfolding after_element
element_stays el (in_vector at a k) t w h = member_stays at a el k t w h
element_stays el (each_of at k) t w h = element_stays (each at el) k t w h
element_stays el (for_of at all k) t w h = element_stays (for_each at all el) k t w h
element_stays el (loop_of at starts e steps k) t w h = element_stays (for_loop at starts e steps el) k t w h
element_stays el (let_body at all k) t w h = element_stays (let_of at all el) k t w h
element_stays el (held_element at e k) t w h = skip (is_key Else t) _ _ w (element_stays (if_element at e el) k t w) h
element_stays el (other_element at e held k) t w h = element_stays (if_else at e held el) k t w h

pub expression_stays : (e : Expression) (k : BehindExpression) (t : Token) (w : List ℕ) → after_expression e k t
    ≡ left_out w → ⊥
unfolding after_expression
expression_stays e (in_round k) t w h = only_stays _ _ w h
expression_stays e (in_index at a count k) t w h = only_stays _ _ w h
expression_stays e (chosen at a k) t w h = only_stays _ _ w h
expression_stays e (other at a b k) t w h = expression_stays (choose at a b e) k t w h
expression_stays e (body_of what at all k) t w h = expression_stays (keyed_tree what at all e) k t w h
expression_stays e (argument_of o all k) t w h = argument_stays (with_argument all o e) k t w h
expression_stays e (plain_item k) t w h = element_stays (item e) k t w h
expression_stays e (range_second at a k) t w h = skip (is_sign Colon t) _ _ w (only_stays _ _ w) h
expression_stays e (range_third at a b k) t w h = only_stays _ _ w h
expression_stays e (loop_test at all k) t w h = only_stays _ _ w h
expression_stays e (element_test at k) t w h = only_stays _ _ w h
expression_stays e (default_of n all k) t w h = parameter_stays (with_parameter all n (Some e)) k t w h
expression_stays e (assigned_to at n a k) t w h = only_stays _ _ w h
expression_stays e (function_body at n all a k) t w h = only_stays _ _ w h
expression_stays e (statement_test at m a k) t w h = only_stays _ _ w h

pub tested_stays : (e : Expression) (k : BehindExpression) (t : Token) (w : List ℕ) → tested_step e k t ≡ left_out w →
    ⊥
unfolding tested_step
tested_stays e k t w = skip (is_sign Question t) _ _ w (expression_stays e k t w)

pub link_stays : (n count : ℕ) (a : Expression) (k : BehindOperand) (t : Token) (o : Option BinOp) (x : Move)
    (w : List ℕ) →
    (x ≡ left_out w → ⊥) → link_step n count a k t o x ≡ left_out w → ⊥
link_stays n count a k t (Some op) x w f h = no_go h
link_stays n count a k t None x w f h = f h

pub operand_stays : (e : Expression) (k : BehindOperand) (t : Token) (w : List ℕ) → after_operand e k t ≡ left_out w →
    ⊥
unfolding after_operand
operand_stays e (prefixed at op k) t w h = operand_stays (unary at op e) k t w h
operand_stays e (first_of n k) t w h =
    link_stays n 0 e k t (operator n t) (after_operand e k t) w (operand_stays e k t w) h
operand_stays e (right_of n count a op at k) t w h =
    link_stays n count (binary at op a e) k t (operator n t) (after_operand (binary at op a e) k t) w
    (operand_stays (binary at op a e) k t w) h
operand_stays e (tested k) t w h = tested_stays e k t w h

-- where a part begins
pub word_stays : (t : Token) (o : Option (List ℕ)) (k : BehindOperand) (w : List ℕ) → word_step t o k ≡ left_out w → ⊥
word_stays t (Some n) k w h = no_go h
word_stays t None k w h = no_stuck h

pub literal_stays : (t : Token) (o : Option Expression) (k : BehindOperand) (w : List ℕ) → literal_step t o k
    ≡ left_out w → ⊥
literal_stays t (Some e) k w h = no_go h
literal_stays t None k w h = word_stays t (word_of t) k w h

pub unary_stays : (t : Token) (k : BehindOperand) (w : List ℕ) → unary_step t k ≡ left_out w → ⊥
unfolding unary_step prim_step
unary_stays t k w =
    skip (is_sign Bang t) _ _ w
    (skip (is_sign Plus t) _ _ w
    (skip (is_sign Minus t) _ _ w
    (skip (is_sign OpenRound t) _ _ w (skip (is_sign OpenSquare t) _ _ w (literal_stays t (literal t) k w)))))

pub form_expression : (t : Token) (k : BehindExpression) (w : List ℕ) → expression_step t k ≡ left_out w → Form t w
unfolding expression_step
form_expression t k w =
    at_key Function t (codes "function") _ w form_function
    (skip (is_key Let t) _ _ w
    (skip (is_key Assert t) _ _ w
    (skip (is_key Echo t) _ _ w (λ h. absurd (unary_stays t (opened 6 (tested k)) w h)))))

pub form_element : (t : Token) (k : BehindElement) (w : List ℕ) → element_step t k ≡ left_out w → Form t w
unfolding element_step
form_element t k w = skip (is_key For t) _ _ w
    (skip (is_key Each t) _ _ w
    (skip (is_key If t) _ _ w (skip (is_key Let t) _ _ w (form_expression t (plain_item k) w))))

pub form_post : (count : ℕ) (e : Expression) (k : BehindOperand) (t : Token) (w : List ℕ) → post_step count e k t
    ≡ left_out w → Form t w
unfolding post_step
form_post count e k t w =
    skip (is_sign OpenSquare t) _ _ w
    (skip (is_sign Dot t) _ _ w
    (at_sign Caret t (codes "^") _ w form_operator (λ h. absurd (operand_stays e k t w h))))

pub form_name : (at : Place) (n : List ℕ) (k : BehindOperand) (t : Token) (w : List ℕ) → name_step at n k t
    ≡ left_out w → Form t w
unfolding name_step
form_name at n k t w = skip (is_sign OpenRound t) _ _ w (form_post 0 (name at n) k t w)

pub form_word : (at : Place) (n : List ℕ) (a : Arguments) (k : BehindArguments) (t : Token) (w : List ℕ) →
    word_argument at n a k t ≡ left_out w → Form t w
unfolding word_argument
form_word at n a k t w = skip (is_sign Assign t) _ _ w (form_name at n (opened 6 (tested (argument_of None a k))) t w)

pub form_argument : (t : Token) (o : Option (List ℕ)) (a : Arguments) (k : BehindArguments) (w : List ℕ) →
    argument_step t o a k ≡ left_out w → Form t w
form_argument t (Some n) a k w h = absurd (no_go h)
form_argument t None a k w h = form_expression t (argument_of None a k) w h

pub form_arguments : (t : Token) (a : Arguments) (k : BehindArguments) (w : List ℕ) → arguments_step t a k
    ≡ left_out w → Form t w
unfolding arguments_step
form_arguments t a k w =
    by_cases (ends_arguments t) _ _ w (λ _ h. absurd (end_arguments_stays a k t w h))
    (form_argument t (word_of t) a k w)
