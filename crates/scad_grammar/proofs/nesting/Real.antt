-- Behind a part that has ended, and where its end may stand, a reader stands within a step only: no step leaves it
-- there.
use Rattle.std.proofs.Common.{ℕ, Bool, true, false, if◌then◌else◌, List, Option, Some, None}
use Rattle.scad_fault.specs.declared.place.Place.{Place}
use Rattle.scad_lex.specs.declared.token.Token.{Token}
use Rattle.scad_lex.specs.declared.token.Sign.TheVariants.{OpenRound, CloseRound, OpenSquare, CloseSquare, Semicolon}
use Rattle.scad_lex.specs.declared.token.Sign.TheVariants.{Comma, Colon, Question, Assign}
use Rattle.scad_lex.specs.declared.token.Sign.TheVariants.{Plus, Minus, Caret, Bang, Dot}
use Rattle.scad_lex.specs.declared.token.Key.TheVariants.{Function, If, Else, For, Let, Assert, Echo, Each}
use Rattle.scad_ast.specs.declared.operator.BinOp.{BinOp}
use Rattle.scad_ast.specs.Tree.{Expression, name, Arguments, Elements, Element, Parameter}
use Rattle.scad_grammar.specs.Tokens.{is_sign, is_key, word_of, operator}
use Rattle.scad_grammar.specs.Grammar.{ends_arguments}
use Rattle.scad_grammar.specs.Behind.{a_module, a_function}
use Rattle.scad_grammar.specs.Behind.{BehindParameters, defined, BehindOperand}
use Rattle.scad_grammar.specs.Behind.{prefixed, first_of, right_of, tested, BehindExpression, in_round, in_index}
use Rattle.scad_grammar.specs.Behind.{chosen, other, body_of, argument_of, plain_item, range_second, range_third}
use Rattle.scad_grammar.specs.Behind.{loop_test, element_test, default_of, assigned_to, function_body, statement_test}
use Rattle.scad_grammar.specs.Behind.{BehindElement, in_vector, each_of, for_of, loop_of, let_body, held_element}
use Rattle.scad_grammar.specs.Behind.{other_element, BehindArguments, of_call, of_keyed, of_for, of_steps, of_let}
use Rattle.scad_grammar.specs.Behind.{of_statement}
use Rattle.scad_grammar.specs.State.{State, have_expression, have_operand}
use Rattle.scad_grammar.specs.State.{have_links}
use Rattle.scad_grammar.specs.State.{after_argument, have_arguments, have_element}
use Rattle.scad_grammar.specs.State.{after_one, have_elements}
use Rattle.scad_grammar.specs.State.{after_parameter, have_parameters}
use Rattle.scad_grammar.specs.State.{opened}
use Rattle.scad_grammar.specs.Move.{Move, go, left_out, stuck}
use Rattle.scad_grammar.specs.Steps.{literal, literal_step, word_step, prim_step, unary_step, expression_step}
use Rattle.scad_grammar.specs.Steps.{element_step, end_arguments, after_argument_step, argument_step, arguments_step}
use Rattle.scad_grammar.specs.Steps.{end_parameters, after_parameter_step, after_one_step, range_start, range_step}
use Rattle.scad_grammar.specs.Steps.{member_step, after_element, after_expression, tested_step, link_step}
use Rattle.scad_grammar.specs.Steps.{after_operand, post_step, name_step, word_argument, member_name}

abbrev pub IsReal : State → Type 0
IsReal (have_expression e k) = ⊥
IsReal (have_operand e k) = ⊥
IsReal (have_links n count e k) = ⊥
IsReal (after_argument all k) = ⊥
IsReal (have_arguments all k) = ⊥
IsReal (have_element el k) = ⊥
IsReal (after_one at all k) = ⊥
IsReal (have_elements at all k) = ⊥
IsReal (after_parameter all k) = ⊥
IsReal (have_parameters all k) = ⊥
IsReal _ = Unit {0}

abbrev pub GoesReal : Move → Type 0
GoesReal (go s) = IsReal s
GoesReal (left_out w) = Unit {0}
GoesReal stuck = Unit {0}

pub either : (b : Bool) (x y : Move) → GoesReal x → GoesReal y → GoesReal (if b then x else y)
either true x y h g = h
either false x y h g = g

pub word_real : (t : Token) (o : Option (List ℕ)) (k : BehindOperand) → GoesReal (word_step t o k)
word_real t (Some w) k = tt
word_real t None k = tt

pub literal_real : (t : Token) (o : Option Expression) (k : BehindOperand) → GoesReal (literal_step t o k)
literal_real t (Some e) k = tt
literal_real t None k = word_real t (word_of t) k

pub prim_real : (t : Token) (k : BehindOperand) → GoesReal (prim_step t k)
unfolding prim_step
prim_real t k =
    either (is_sign OpenRound t) _ _ tt (either (is_sign OpenSquare t) _ _ tt (literal_real t (literal t) k))

pub unary_real : (t : Token) (k : BehindOperand) → GoesReal (unary_step t k)
unfolding unary_step
unary_real t k =
    either (is_sign Bang t) _ _ tt (either (is_sign Plus t) _ _ tt (either (is_sign Minus t) _ _ tt (prim_real t k)))

pub expression_real : (t : Token) (k : BehindExpression) → GoesReal (expression_step t k)
unfolding expression_step
expression_real t k =
    either (is_key Function t) _ _ tt (either (is_key Let t) _ _ tt (either (is_key Assert t) _ _ tt
    (either (is_key Echo t) _ _ tt (unary_real t (opened 6 (tested k))))))

pub element_real : (t : Token) (k : BehindElement) → GoesReal (element_step t k)
unfolding element_step
element_real t k =
    either (is_key For t) _ _ tt (either (is_key Each t) _ _ tt (either (is_key If t) _ _ tt
    (either (is_key Let t) _ _ tt (expression_real t (plain_item k)))))

pub end_arguments_real : (all : Arguments) (k : BehindArguments) (t : Token) → GoesReal (end_arguments all k t)
unfolding end_arguments
end_arguments_real all (of_call at w k) t = either (is_sign CloseRound t) _ _ tt tt
end_arguments_real all (of_keyed what at k) t = either (is_sign CloseRound t) _ _ tt tt
end_arguments_real all (of_for at k) t = either (is_sign CloseRound t) _ _ tt (either (is_sign Semicolon t) _ _ tt tt)
end_arguments_real all (of_steps at starts e k) t = either (is_sign CloseRound t) _ _ tt tt
end_arguments_real all (of_let at k) t = either (is_sign CloseRound t) _ _ tt tt
end_arguments_real all (of_statement at m w a k) t = either (is_sign CloseRound t) _ _ tt tt

pub after_argument_real : (all : Arguments) (k : BehindArguments) (t : Token) → GoesReal (after_argument_step all k t)
unfolding after_argument_step
after_argument_real all k t = either (is_sign Comma t) _ _ tt (end_arguments_real all k t)

pub argument_real : (t : Token) (o : Option (List ℕ)) (all : Arguments) (k : BehindArguments) →
    GoesReal (argument_step t o all k)
argument_real t (Some w) all k = tt
argument_real t None all k = expression_real t (argument_of None all k)

pub arguments_real : (t : Token) (all : Arguments) (k : BehindArguments) → GoesReal (arguments_step t all k)
unfolding arguments_step
arguments_real t all k =
    either (ends_arguments t) _ _ (end_arguments_real all k t) (argument_real t (word_of t) all k)

pub end_parameters_real : (all : List Parameter) (k : BehindParameters) (t : Token) →
    GoesReal (end_parameters all k t)
unfolding end_parameters
end_parameters_real all (defined a_module at w a k) t = either (is_sign CloseRound t) _ _ tt tt
end_parameters_real all (defined a_function at w a k) t = either (is_sign CloseRound t) _ _ tt tt

pub after_parameter_real : (all : List Parameter) (k : BehindParameters) (t : Token) →
    GoesReal (after_parameter_step all k t)
unfolding after_parameter_step
after_parameter_real all k t = either (is_sign Comma t) _ _ tt (end_parameters_real all k t)

pub after_one_real : (at : Place) (all : Elements) (k : BehindOperand) (t : Token) →
    GoesReal (after_one_step at all k t)
unfolding after_one_step
after_one_real at all k t = either (is_sign Comma t) _ _ tt (either (is_sign CloseSquare t) _ _ tt tt)

pub range_real : (at : Place) (o : Option Expression) (k : BehindOperand) → GoesReal (range_step at o k)
range_real at (Some e) k = tt
range_real at None k = tt

pub member_real : (at : Place) (all : Elements) (el : Element) (k : BehindOperand) (t : Token) →
    GoesReal (member_step at all el k t)
unfolding member_step
member_real at all el k t =
    either (is_sign Colon t) _ _ (range_real at (range_start all el) k) (after_one_real at _ k t)

pub after_element_real : (el : Element) (k : BehindElement) (t : Token) → GoesReal (after_element el k t)
unfolding after_element
after_element_real el (in_vector at all k) t = member_real at all el k t
after_element_real el (each_of at k) t = after_element_real _ k t
after_element_real el (for_of at all k) t = after_element_real _ k t
after_element_real el (loop_of at starts e steps k) t = after_element_real _ k t
after_element_real el (let_body at all k) t = after_element_real _ k t
after_element_real el (held_element at e k) t = either (is_key Else t) _ _ tt (after_element_real _ k t)
after_element_real el (other_element at e held k) t = after_element_real _ k t

pub after_expression_real : (e : Expression) (k : BehindExpression) (t : Token) → GoesReal (after_expression e k t)
unfolding after_expression
after_expression_real e (in_round k) t = either (is_sign CloseRound t) _ _ tt tt
after_expression_real e (in_index at a count k) t = either (is_sign CloseSquare t) _ _ tt tt
after_expression_real e (chosen at a k) t = either (is_sign Colon t) _ _ tt tt
after_expression_real e (other at a b k) t = after_expression_real _ k t
after_expression_real e (body_of what at all k) t = after_expression_real _ k t
after_expression_real e (argument_of called all k) t = after_argument_real _ k t
after_expression_real e (plain_item k) t = after_element_real _ k t
after_expression_real e (range_second at a k) t =
    either (is_sign Colon t) _ _ tt (either (is_sign CloseSquare t) _ _ tt tt)
after_expression_real e (range_third at a b k) t = either (is_sign CloseSquare t) _ _ tt tt
after_expression_real e (loop_test at all k) t = either (is_sign Semicolon t) _ _ tt tt
after_expression_real e (element_test at k) t = either (is_sign CloseRound t) _ _ tt tt
after_expression_real e (default_of w all k) t = after_parameter_real _ k t
after_expression_real e (assigned_to at w a k) t = either (is_sign Semicolon t) _ _ tt tt
after_expression_real e (function_body at w all a k) t = either (is_sign Semicolon t) _ _ tt tt
after_expression_real e (statement_test at m a k) t = either (is_sign CloseRound t) _ _ tt tt

pub tested_real : (e : Expression) (k : BehindExpression) (t : Token) → GoesReal (tested_step e k t)
unfolding tested_step
tested_real e k t = either (is_sign Question t) _ _ tt (after_expression_real e k t)

pub link_real : (n count : ℕ) (a : Expression) (k : BehindOperand) (t : Token) (o : Option BinOp) (m : Move) →
    GoesReal m →
    GoesReal (link_step n count a k t o m)
link_real n count a k t (Some op) m h = tt
link_real n count a k t None m h = h

pub after_operand_real : (e : Expression) (k : BehindOperand) (t : Token) → GoesReal (after_operand e k t)
unfolding after_operand
after_operand_real e (prefixed at op k) t = after_operand_real _ k t
after_operand_real e (first_of n k) t = link_real n 0 e k t (operator n t) _ (after_operand_real e k t)
after_operand_real e (right_of n count a op at k) t =
    link_real n count _ k t (operator n t) _ (after_operand_real _ k t)
after_operand_real e (tested k) t = tested_real e k t

pub post_real : (count : ℕ) (e : Expression) (k : BehindOperand) (t : Token) → GoesReal (post_step count e k t)
unfolding post_step
post_real count e k t =
    either (is_sign OpenSquare t) _ _ tt (either (is_sign Dot t) _ _ tt
    (either (is_sign Caret t) _ _ tt (after_operand_real e k t)))

pub name_real : (at : Place) (w : List ℕ) (k : BehindOperand) (t : Token) → GoesReal (name_step at w k t)
unfolding name_step
name_real at w k t = either (is_sign OpenRound t) _ _ tt (post_real 0 (name at w) k t)

pub word_argument_real : (at : Place) (w : List ℕ) (all : Arguments) (k : BehindArguments) (t : Token) →
    GoesReal (word_argument at w all k t)
unfolding word_argument
word_argument_real at w all k t =
    either (is_sign Assign t) _ _ tt (name_real at w (opened 6 (tested (argument_of None all k))) t)

pub member_name_real : (at : Place) (e : Expression) (count : ℕ) (k : BehindOperand) (o : Option (List ℕ)) →
    GoesReal (member_name at e count k o)
member_name_real at e count k (Some w) = tt
member_name_real at e count k None = tt
