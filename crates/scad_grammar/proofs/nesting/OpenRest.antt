-- How many constructs stay open behind a state where these tokens come: those that the next token ends have ended.
use Rattle.std.proofs.Common.{ℕ, ◌+◌, ◌≤◌, Bool, true, false, if◌then◌else◌, List, Option, Some, None, arith}
use Rattle.scad_lex.specs.declared.token.Token.{Token}
use Rattle.scad_lex.specs.declared.token.Sign.TheVariants.{OpenRound, OpenSquare, Question, Dot, Caret}
use Rattle.scad_lex.specs.declared.token.Key.TheVariants.{Else}
use Rattle.scad_ast.specs.declared.operator.BinOp.{BinOp}
use Rattle.scad_grammar.specs.Tokens.{begins_with, begins_with_key, first_operator}
use Rattle.scad_grammar.specs.Behind.{BehindItems, in_program, in_group, module_body, child_of, held_child}
use Rattle.scad_grammar.specs.Behind.{other_child, BehindOperand, prefixed, first_of, right_of, tested}
use Rattle.scad_grammar.specs.Behind.{BehindExpression, in_round, in_index, chosen, other, body_of, argument_of}
use Rattle.scad_grammar.specs.Behind.{plain_item, range_second, range_third, loop_test, element_test, default_of}
use Rattle.scad_grammar.specs.Behind.{assigned_to, function_body, statement_test, BehindElement, in_vector, each_of}
use Rattle.scad_grammar.specs.Behind.{for_of, loop_of, let_body, held_element, other_element, open_items, open_ended}
use Rattle.scad_grammar.specs.Behind.{open_parameters, open_operand, open_expression, open_element, open_arguments}
use Rattle.scad_grammar.specs.State.{State, want_expression, have_expression, want_unary, have_operand, have_name}
use Rattle.scad_grammar.specs.State.{have_post, want_member, have_links, want_arguments, in_arguments, have_word}
use Rattle.scad_grammar.specs.State.{after_argument, have_arguments, want_element, have_element, want_test}
use Rattle.scad_grammar.specs.State.{in_elements, after_one, have_elements, want_statement, have_items, have_start}
use Rattle.scad_grammar.specs.State.{want_marked, want_choice, want_child, want_defined, want_parameters}
use Rattle.scad_grammar.specs.State.{in_parameters, have_parameter, after_parameter, have_parameters, want_assign}
use Rattle.scad_grammar.specs.State.{open_count}

abbrev pub kept_items : BehindItems → List Token → ℕ
kept_items in_program us = 0
kept_items (in_group d k) us = 1 + open_items k
kept_items (module_body at w all a k) us = kept_items k us
kept_items (child_of at m w all a k) us = kept_items k us
kept_items (held_child at m e a k) us = if begins_with_key Else us then 1 + open_items k else kept_items k us
kept_items (other_child at m e held a k) us = kept_items k us

-- where an operator of the line comes its chain goes on
abbrev pub kept_link : Option BinOp → ℕ → ℕ → ℕ
kept_link (Some op) on ended = on
kept_link None on ended = ended

abbrev mutual
  pub kept_operand : BehindOperand → List Token → ℕ
  kept_operand (prefixed at op k) us = kept_operand k us
  kept_operand (first_of n k) us = kept_link (first_operator n us) (0 + open_operand k) (kept_operand k us)
  kept_operand (right_of n count a op at k) us =
      kept_link (first_operator n us) (count + open_operand k) (kept_operand k us)
  kept_operand (tested k) us = if begins_with Question us then open_expression k else kept_expression k us

  pub kept_expression : BehindExpression → List Token → ℕ
  kept_expression (in_round k) us = 1 + open_operand k
  kept_expression (in_index at a count k) us = 2 + (count + open_operand k)
  kept_expression (chosen at a k) us = 1 + open_expression k
  kept_expression (other at a b k) us = kept_expression k us
  kept_expression (body_of what at all k) us = kept_expression k us
  kept_expression (argument_of name all k) us = 1 + open_arguments k
  kept_expression (plain_item k) us = kept_element k us
  kept_expression (range_second at a k) us = 1 + open_operand k
  kept_expression (range_third at a b k) us = 1 + open_operand k
  kept_expression (loop_test at all k) us = 2 + open_element k
  kept_expression (element_test at k) us = 2 + open_element k
  kept_expression (default_of w all k) us = 1 + open_parameters k
  kept_expression (assigned_to at w a k) us = 1 + open_items k
  kept_expression (function_body at w all a k) us = 1 + open_items k
  kept_expression (statement_test at m a k) us = 2 + open_items k

  pub kept_element : BehindElement → List Token → ℕ
  kept_element (in_vector at all k) us = 1 + open_operand k
  kept_element (each_of at k) us = kept_element k us
  kept_element (for_of at all k) us = kept_element k us
  kept_element (loop_of at starts e steps k) us = kept_element k us
  kept_element (let_body at all k) us = kept_element k us
  kept_element (held_element at e k) us = if begins_with_key Else us then 1 + open_element k else kept_element k us
  kept_element (other_element at e held k) us = kept_element k us

abbrev pub kept_post : ℕ → BehindOperand → List Token → ℕ
kept_post count k us =
    if begins_with OpenSquare us then count + open_operand k
    else (if begins_with Dot us then count + open_operand k
    else (if begins_with Caret us then count + open_operand k
    else kept_operand k us))

abbrev pub kept : State → List Token → ℕ
kept (have_expression e k) us = kept_expression k us
kept (have_operand e k) us = kept_operand k us
kept (have_name at w k) us = if begins_with OpenRound us then open_operand k else kept_post 0 k us
kept (have_post count e k) us = kept_post count k us
kept (have_links n count e k) us = kept_link (first_operator n us) (count + open_operand k) (kept_operand k us)
kept (have_element el k) us = kept_element k us
kept (have_items a k) us = kept_items k us
kept s us = open_count s

-- no more stay open than stand open
choose-le : (b : Bool) (x y n : ℕ) → x ≤ n → y ≤ n → (if b then x else y) ≤ n
choose-le true x y n h g = h
choose-le false x y n h g = g

link-le : (o : Option BinOp) (x y n : ℕ) → x ≤ n → y ≤ n → kept_link o x y ≤ n
link-le (Some op) x y n h g = h
link-le None x y n h g = g

pub ended-le : (k : BehindItems) → open_ended k ≤ open_items k
ended-le in_program = omega arith
ended-le (in_group d k) = omega arith
ended-le (module_body at w all a k) = let h = ended-le k in omega arith
ended-le (child_of at m w all a k) = let h = ended-le k in omega arith
ended-le (held_child at m e a k) = omega arith
ended-le (other_child at m e held a k) = let h = ended-le k in omega arith

items-le : (k : BehindItems) (us : List Token) → kept_items k us ≤ open_ended k
items-le in_program us = omega arith
items-le (in_group d k) us = omega arith
items-le (module_body at w all a k) us = items-le k us
items-le (child_of at m w all a k) us = items-le k us
items-le (held_child at m e a k) us =
    let h = items-le k us in
    let g = ended-le k in
    choose-le (begins_with_key Else us) _ _ _ (omega arith) (omega arith)
items-le (other_child at m e held a k) us = items-le k us

mutual
  operand-le : (k : BehindOperand) (us : List Token) → kept_operand k us ≤ open_operand k
  operand-le (prefixed at op k) us = let h = operand-le k us in omega arith
  operand-le (first_of n k) us = let h =
      operand-le k us in link-le (first_operator n us) _ _ _ (omega arith) (omega arith)
  operand-le (right_of n count a op at k) us =
      let h = operand-le k us in link-le (first_operator n us) _ _ _ (omega arith) (omega arith)
  operand-le (tested k) us =
      let h = expression-le k us in choose-le (begins_with Question us) _ _ _ (omega arith) (omega arith)

  expression-le : (k : BehindExpression) (us : List Token) → kept_expression k us ≤ open_expression k
  expression-le (in_round k) us = omega arith
  expression-le (in_index at a count k) us = omega arith
  expression-le (chosen at a k) us = omega arith
  expression-le (other at a b k) us = let h = expression-le k us in omega arith
  expression-le (body_of what at all k) us = let h = expression-le k us in omega arith
  expression-le (argument_of name all k) us = omega arith
  expression-le (plain_item k) us = element-le k us
  expression-le (range_second at a k) us = omega arith
  expression-le (range_third at a b k) us = omega arith
  expression-le (loop_test at all k) us = omega arith
  expression-le (element_test at k) us = omega arith
  expression-le (default_of w all k) us = omega arith
  expression-le (assigned_to at w a k) us = omega arith
  expression-le (function_body at w all a k) us = omega arith
  expression-le (statement_test at m a k) us = omega arith

  element-le : (k : BehindElement) (us : List Token) → kept_element k us ≤ open_element k
  element-le (in_vector at all k) us = omega arith
  element-le (each_of at k) us = let h = element-le k us in omega arith
  element-le (for_of at all k) us = let h = element-le k us in omega arith
  element-le (loop_of at starts e steps k) us = let h = element-le k us in omega arith
  element-le (let_body at all k) us = let h = element-le k us in omega arith
  element-le (held_element at e k) us =
      let h = element-le k us in choose-le (begins_with_key Else us) _ _ _ (omega arith) (omega arith)
  element-le (other_element at e held k) us = let h = element-le k us in omega arith

post-le : (count : ℕ) (k : BehindOperand) (us : List Token) → kept_post count k us ≤ count + open_operand k
post-le count k us =
    let h = operand-le k us in
    choose-le (begins_with OpenSquare us) _ _ _ (omega arith)
    (choose-le (begins_with Dot us) _ _ _ (omega arith)
    (choose-le (begins_with Caret us) _ _ _ (omega arith) (omega arith)))

pub kept-le : (s : State) (us : List Token) → kept s us ≤ open_count s
kept-le (have_expression e k) us = expression-le k us
kept-le (have_operand e k) us = operand-le k us
kept-le (have_name at w k) us =
    let h = post-le 0 k us in choose-le (begins_with OpenRound us) _ _ _ (omega arith) (omega arith)
kept-le (have_post count e k) us = post-le count k us
kept-le (have_links n count e k) us =
    let h = operand-le k us in link-le (first_operator n us) _ _ _ (omega arith) (omega arith)
kept-le (have_element el k) us = element-le k us
kept-le (have_items a k) us = items-le k us
kept-le (want_expression k) us = omega arith
kept-le (want_unary k) us = omega arith
kept-le (want_member at e count k) us = omega arith
kept-le (want_arguments k) us = omega arith
kept-le (in_arguments all k) us = omega arith
kept-le (have_word at w all k) us = omega arith
kept-le (after_argument all k) us = omega arith
kept-le (have_arguments all k) us = omega arith
kept-le (want_element k) us = omega arith
kept-le (want_test at k) us = omega arith
kept-le (in_elements at all k) us = omega arith
kept-le (after_one at all k) us = omega arith
kept-le (have_elements at all k) us = omega arith
kept-le (want_statement d a k) us = omega arith
kept-le (have_start d at w a k) us = omega arith
kept-le (want_marked m a k) us = omega arith
kept-le (want_choice at m a k) us = omega arith
kept-le (want_child k) us = omega arith
kept-le (want_defined what at a k) us = omega arith
kept-le (want_parameters k) us = omega arith
kept-le (in_parameters all k) us = omega arith
kept-le (have_parameter w all k) us = omega arith
kept-le (after_parameter all k) us = omega arith
kept-le (have_parameters all k) us = omega arith
kept-le (want_assign at w all a k) us = omega arith
