-- Tokens go on behind a part of an expression as the move there does.
use Rattle.std.proofs.Common.{◌≡◌, ℕ, zero, suc, List, ◌∷◌, Option, Some, None, refl}
use Rattle.scad_fault.specs.declared.place.Place.{Place}
use Rattle.scad_lex.specs.declared.token.Token.{Token}
use Rattle.scad_lex.specs.declared.token.Sign.TheVariants.{CloseRound, CloseSquare, Semicolon, Colon, Question}
use Rattle.scad_ast.specs.declared.operator.BinOp.{BinOp}
use Rattle.scad_ast.specs.Tree.{Expression, range, stepped, unary, binary, choose, index, Arguments}
use Rattle.scad_ast.specs.Tree.{no_arguments, item}
use Rattle.scad_ast.specs.Tree.{Parameter, Items, assignment, function_of}
use Rattle.scad_grammar.specs.Tokens.{sign, operator}
use Rattle.scad_grammar.specs.Lists.{with_argument, with_parameter, with_item, Marks}
use Rattle.scad_grammar.specs.Grammar.{no_choice, choice, tightest, line, no_link, link, two_parts, three_parts}
use Rattle.scad_grammar.specs.Behind.{BehindItems, BehindParameters, BehindOperand, prefixed, first_of}
use Rattle.scad_grammar.specs.Behind.{right_of, tested, BehindExpression, in_round, in_index, chosen, other, body_of}
use Rattle.scad_grammar.specs.Behind.{argument_of, plain_item, range_second, range_third, loop_test, element_test}
use Rattle.scad_grammar.specs.Behind.{default_of, assigned_to, function_body, statement_test, held_child}
use Rattle.scad_grammar.specs.Behind.{BehindElement, held_element}
use Rattle.scad_grammar.specs.Behind.{BehindArguments, of_steps}
use Rattle.scad_grammar.specs.Behind.{keyed_tree}
use Rattle.scad_grammar.specs.State.{want_expression, want_operand, have_post, have_links, in_arguments}
use Rattle.scad_grammar.specs.State.{after_argument, want_element, have_items, want_child}
use Rattle.scad_grammar.specs.State.{after_parameter}
use Rattle.scad_grammar.specs.Move.{Move}
use Rattle.scad_grammar.specs.Steps.{after_expression, tested_step, link_step}
use Rattle.scad_grammar.specs.Steps.{after_operand}
use Rattle.scad_grammar.proofs.reader.Goes.{Goes, wants_expression, wants_unary, has_post, has_links, is_in_arguments}
use Rattle.scad_grammar.proofs.reader.Goes.{is_after_argument, wants_element}
use Rattle.scad_grammar.proofs.reader.Goes.{has_items, wants_child, is_after_parameter}
use Rattle.scad_grammar.proofs.reader.Goes.{goes_held, OperandFrom, operand_from, OperandGoes}
use Rattle.scad_grammar.proofs.reader.Goes.{goes_prefixed, goes_first, goes_right, goes_tested, ExpressionGoes}
use Rattle.scad_grammar.proofs.reader.Goes.{goes_round, goes_index, goes_chosen, goes_last, goes_body, goes_argument}
use Rattle.scad_grammar.proofs.reader.Goes.{goes_item, goes_second, goes_third, goes_loop, goes_test, goes_default}
use Rattle.scad_grammar.proofs.reader.Goes.{goes_assigned, goes_result, goes_choice}
use Rattle.scad_grammar.proofs.reader.Goes.{goes_if}
use Rattle.scad_grammar.proofs.reader.Goes.{goes_steps}
use Rattle.scad_grammar.proofs.reader.Tests.{MoveGoes, by_sign, by_only}
use Rattle.scad_grammar.proofs.reader.Ends.{by_parameter}
use Rattle.scad_grammar.proofs.reader.BackwardElements.{by_argument, by_element}

-- expressions
from_round : {q : Place} {e : Expression} {k : BehindOperand} {ts : List Token} {p : Items} →
    Goes (have_post 0 e k) ts p → ExpressionGoes e (in_round k) (sign CloseRound q ∷ ts) p
from_round (has_post l g) = goes_round l g

from_index : {at q : Place} {a e : Expression} {count : ℕ} {k : BehindOperand} {ts : List Token} {p : Items} →
    Goes (have_post (suc count) (index at a e) k) ts p →
    ExpressionGoes e (in_index at a count k) (sign CloseSquare q ∷ ts) p
from_index (has_post l g) = goes_index l g

from_chosen : {at q : Place} {a e : Expression} {k : BehindExpression} {ts : List Token} {p : Items} →
    Goes (want_expression (other at a e k)) ts p → ExpressionGoes e (chosen at a k) (sign Colon q ∷ ts) p
from_chosen (wants_expression d (goes_last g)) = goes_chosen d g

into_argument : {o : Option (List ℕ)} {a : Arguments} {e : Expression} {k : BehindArguments} {ts : List Token}
    {p : Items} →
    Goes (after_argument (with_argument a o e) k) ts p → ExpressionGoes e (argument_of o a k) ts p
into_argument (is_after_argument m g) = goes_argument m g

from_third : {at q : Place} {a e : Expression} {k : BehindOperand} {ts : List Token} {p : Items} →
    Goes (want_expression (range_third at a e k)) ts p → ExpressionGoes e (range_second at a k) (sign Colon q ∷ ts) p
from_third (wants_expression d (goes_third l g)) = goes_second (three_parts d) l g

from_two : {at q : Place} {a e : Expression} {k : BehindOperand} {ts : List Token} {p : Items} →
    Goes (have_post 0 (range at a e) k) ts p → ExpressionGoes e (range_second at a k) (sign CloseSquare q ∷ ts) p
from_two (has_post l g) = goes_second two_parts l g

from_three : {at q : Place} {a b e : Expression} {k : BehindOperand} {ts : List Token} {p : Items} →
    Goes (have_post 0 (stepped at a b e) k) ts p → ExpressionGoes e (range_third at a b k) (sign CloseSquare q ∷ ts) p
from_three (has_post l g) = goes_third l g

from_test : {at q : Place} {all : Arguments} {e : Expression} {k : BehindElement} {ts : List Token} {p : Items} →
    Goes (in_arguments no_arguments (of_steps at all e k)) ts p →
    ExpressionGoes e (loop_test at all k) (sign Semicolon q ∷ ts) p
from_test (is_in_arguments d (goes_steps el g)) = goes_loop d el g

from_held : {at q : Place} {e : Expression} {k : BehindElement} {ts : List Token} {p : Items} →
    Goes (want_element (held_element at e k)) ts p → ExpressionGoes e (element_test at k) (sign CloseRound q ∷ ts) p
from_held (wants_element d (goes_if o g)) = goes_test d o g

into_default : {w : List ℕ} {a : List Parameter} {e : Expression} {k : BehindParameters} {ts : List Token}
    {p : Items} →
    Goes (after_parameter (with_parameter a w (Some e)) k) ts p → ExpressionGoes e (default_of w a k) ts p
into_default (is_after_parameter m g) = goes_default m g

from_assigned : {at q : Place} {w : List ℕ} {a : Items} {e : Expression} {k : BehindItems} {ts : List Token}
    {p : Items} →
    Goes (have_items (with_item a (assignment at w e)) k) ts p →
    ExpressionGoes e (assigned_to at w a k) (sign Semicolon q ∷ ts) p
from_assigned (has_items g) = goes_assigned g

from_result : {at q : Place} {w : List ℕ} {all : List Parameter} {a : Items} {e : Expression} {k : BehindItems}
    {ts : List Token} {p : Items} →
    Goes (have_items (with_item a (function_of at w all e)) k) ts p →
    ExpressionGoes e (function_body at w all a k) (sign Semicolon q ∷ ts) p
from_result (has_items g) = goes_result g

from_choice : {at q : Place} {m : Marks} {a : Items} {e : Expression} {k : BehindItems} {ts : List Token}
    {p : Items} →
    Goes (want_child (held_child at m e a k)) ts p →
    ExpressionGoes e (statement_test at m a k) (sign CloseRound q ∷ ts) p
from_choice (wants_child c (goes_held o g)) = goes_choice c o g

pub by_expression : (e : Expression) (k : BehindExpression) (t : Token) (ts : List Token) (p : Items) →
    MoveGoes (after_expression e k t) ts p → ExpressionGoes e k (t ∷ ts) p
unfolding after_expression
by_expression e (in_round k) t ts p m =
    by_only CloseRound t _ ts p (λ (u : Token). ExpressionGoes e (in_round k) (u ∷ ts) p) from_round m
by_expression e (in_index at a count k) t ts p m =
    by_only CloseSquare t _ ts p (λ (u : Token). ExpressionGoes e (in_index at a count k) (u ∷ ts) p) from_index m
by_expression e (chosen at a k) t ts p m =
    by_only Colon t _ ts p (λ (u : Token). ExpressionGoes e (chosen at a k) (u ∷ ts) p) from_chosen m
by_expression e (other at a b k) t ts p m = goes_last (by_expression (choose at a b e) k t ts p m)
by_expression e (body_of what at all k) t ts p m = goes_body (by_expression (keyed_tree what at all e) k t ts p m)
by_expression e (argument_of o all k) t ts p m = into_argument (by_argument (with_argument all o e) k t ts p m)
by_expression e (plain_item k) t ts p m = goes_item (by_element (item e) k t ts p m)
by_expression e (range_second at a k) t ts p m =
    let G = λ (u : Token). ExpressionGoes e (range_second at a k) (u ∷ ts) p in
    by_sign Colon t _ _ ts p G from_third (λ _. by_only CloseSquare t _ ts p G from_two) m
by_expression e (range_third at a b k) t ts p m =
    by_only CloseSquare t _ ts p (λ (u : Token). ExpressionGoes e (range_third at a b k) (u ∷ ts) p) from_three m
by_expression e (loop_test at all k) t ts p m =
    by_only Semicolon t _ ts p (λ (u : Token). ExpressionGoes e (loop_test at all k) (u ∷ ts) p) from_test m
by_expression e (element_test at k) t ts p m =
    by_only CloseRound t _ ts p (λ (u : Token). ExpressionGoes e (element_test at k) (u ∷ ts) p) from_held m
by_expression e (default_of w all k) t ts p m = into_default (by_parameter (with_parameter all w (Some e)) k t ts p m)
by_expression e (assigned_to at w a k) t ts p m =
    by_only Semicolon t _ ts p (λ (u : Token). ExpressionGoes e (assigned_to at w a k) (u ∷ ts) p) from_assigned m
by_expression e (function_body at w all a k) t ts p m =
    by_only Semicolon t _ ts p (λ (u : Token). ExpressionGoes e (function_body at w all a k) (u ∷ ts) p) from_result m
by_expression e (statement_test at n a k) t ts p m =
    by_only CloseRound t _ ts p (λ (u : Token). ExpressionGoes e (statement_test at n a k) (u ∷ ts) p) from_choice m

-- operands
up : {n : ℕ} {k : BehindOperand} {ts : List Token} {p : Items} → OperandFrom n (first_of n k) ts p →
    OperandFrom (suc n) k ts p
up (operand_from d (goes_first l g)) = operand_from (line d l) g

pub opened_from : (n : ℕ) (k : BehindOperand) {ts : List Token} {p : Items} → Goes (want_operand n k) ts p →
    OperandFrom n k ts p
opened_from zero k (wants_unary d g) = operand_from (tightest d) g
opened_from (suc n) k m = up (opened_from n (first_of n k) m)

from_question : {q : Place} {e : Expression} {k : BehindExpression} {ts : List Token} {p : Items} →
    Goes (want_expression (chosen q e k)) ts p → OperandGoes e (tested k) (sign Question q ∷ ts) p
from_question (wants_expression d (goes_chosen c g)) = goes_tested (choice d c) g

by_tested : (e : Expression) (k : BehindExpression) (t : Token) (ts : List Token) (p : Items) →
    MoveGoes (tested_step e k t) ts p → OperandGoes e (tested k) (t ∷ ts) p
unfolding tested_step
by_tested e k t ts p =
    by_sign Question t _ _ ts p (λ (u : Token). OperandGoes e (tested k) (u ∷ ts) p) from_question
    (λ h m. goes_tested (no_choice h) (by_expression e k t ts p m))

into_link : {n count : ℕ} {op : BinOp} {a : Expression} {k : BehindOperand} {t : Token} {ts : List Token}
    {p : Items} →
    operator n t ≡ Some op → OperandFrom n (right_of n (suc count) a op t.at k) ts p →
    Goes (have_links n count a k) (t ∷ ts) p
into_link h (operand_from d (goes_right l g)) = has_links (link h d l) g

pub by_links : (n count : ℕ) (a : Expression) (k : BehindOperand) (t : Token) (ts : List Token) (p : Items)
    (x : Move) →
    (MoveGoes x ts p → OperandGoes a k (t ∷ ts) p) → (o : Option BinOp) → operator n t ≡ o →
    MoveGoes (link_step n count a k t o x) ts p → Goes (have_links n count a k) (t ∷ ts) p
by_links n count a k t ts p x f (Some op) h m = into_link h (opened_from n (right_of n (suc count) a op t.at k) m)
by_links n count a k t ts p x f None h m = has_links (no_link h) (f m)

into_first : {n : ℕ} {e : Expression} {k : BehindOperand} {ts : List Token} {p : Items} →
    Goes (have_links n 0 e k) ts p → OperandGoes e (first_of n k) ts p
into_first (has_links l g) = goes_first l g

into_right : {n count : ℕ} {a e : Expression} {op : BinOp} {at : Place} {k : BehindOperand} {ts : List Token}
    {p : Items} →
    Goes (have_links n count (binary at op a e) k) ts p → OperandGoes e (right_of n count a op at k) ts p
into_right (has_links l g) = goes_right l g

pub by_operand : (e : Expression) (k : BehindOperand) (t : Token) (ts : List Token) (p : Items) →
    MoveGoes (after_operand e k t) ts p → OperandGoes e k (t ∷ ts) p
unfolding after_operand
by_operand e (prefixed at op k) t ts p m = goes_prefixed (by_operand (unary at op e) k t ts p m)
by_operand e (first_of n k) t ts p m =
    into_first (by_links n 0 e k t ts p (after_operand e k t) (by_operand e k t ts p) (operator n t) refl m)
by_operand e (right_of n count a op at k) t ts p m =
    into_right (by_links n count (binary at op a e) k t ts p (after_operand (binary at op a e) k t)
    (by_operand (binary at op a e) k t ts p) (operator n t) refl m)
by_operand e (tested k) t ts p m = by_tested e k t ts p m
