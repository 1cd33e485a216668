-- A reader of tokens: each token moves it by one step, and decides alone. It finds the program or the first token
-- with a fault.
use Rattle.std.specs.Prelude.{ℕ, List, [], ◌∷◌, Option, Some, None, Result, Ok, Err, nat_lt, if◌then◌else◌}
use Rattle.scad_fault.specs.declared.place.Place.{Place}
use Rattle.scad_lex.specs.declared.token.Token.{Token}
use Rattle.scad_lex.specs.declared.token.Sign.TheVariants.{OpenRound, CloseSquare, Assign}
use Rattle.scad_ast.specs.Tree.{vector, Items, no_items, no_arguments}
use Rattle.scad_grammar.specs.Tokens.{is_sign, word_of}
use Rattle.scad_grammar.specs.Lists.{with_parameter}
use Rattle.scad_grammar.specs.Behind.{in_program, in_vector, element_test, statement_test, function_body}
use Rattle.scad_grammar.specs.State.{State, want_expression, have_expression, want_unary, have_operand, have_name}
use Rattle.scad_grammar.specs.State.{have_post, want_member, have_links, want_arguments, in_arguments, have_word}
use Rattle.scad_grammar.specs.State.{after_argument, have_arguments, want_element, have_element, want_test}
use Rattle.scad_grammar.specs.State.{in_elements, after_one, have_elements, want_statement, have_items, have_start}
use Rattle.scad_grammar.specs.State.{want_marked, want_choice, want_child, want_defined, want_parameters}
use Rattle.scad_grammar.specs.State.{in_parameters, have_parameter, after_parameter, have_parameters, want_assign}
use Rattle.scad_grammar.specs.State.{open_count}
use Rattle.scad_grammar.specs.Behind.{default_of}
use Rattle.scad_grammar.specs.Move.{Move, go, left_out, stuck}
use Rattle.scad_grammar.specs.Tokens.{operator}
use Rattle.scad_grammar.specs.Steps.{only, unary_step, expression_step, element_step, end_arguments}
use Rattle.scad_grammar.specs.Steps.{after_argument_step, arguments_step, end_parameters, after_parameter_step}
use Rattle.scad_grammar.specs.Steps.{after_one_step, after_element, after_expression, link_step, after_operand}
use Rattle.scad_grammar.specs.Steps.{post_step, name_step, word_argument, member_name}
use Rattle.scad_grammar.specs.StatementSteps.{marked_step, statement_step, word_statement, child_step, after_items}
use Rattle.scad_grammar.specs.StatementSteps.{finish_items, defined_name, parameters_step}

unfoldable pub step : State → Token → Move
step (want_expression k) t = expression_step t k
step (have_expression e k) t = after_expression e k t
step (want_unary k) t = unary_step t k
step (have_operand e k) t = after_operand e k t
step (have_name at w k) t = name_step at w k t
step (have_post count e k) t = post_step count e k t
step (want_member at e count k) t = member_name at e count k (word_of t)
step (have_links n count e k) t = link_step n count e k t (operator n t) (after_operand e k t)
step (want_arguments k) t = only (is_sign OpenRound t) (in_arguments no_arguments k)
step (in_arguments all k) t = arguments_step t all k
step (have_word at w all k) t = word_argument at w all k t
step (after_argument all k) t = after_argument_step all k t
step (have_arguments all k) t = end_arguments all k t
step (want_element k) t = element_step t k
step (have_element el k) t = after_element el k t
step (want_test at k) t = only (is_sign OpenRound t) (want_expression (element_test at k))
step (in_elements at all k) t =
    if is_sign CloseSquare t then go (have_post 0 (vector at all) k) else element_step t (in_vector at all k)
step (after_one at all k) t = after_one_step at all k t
step (have_elements at all k) t = only (is_sign CloseSquare t) (have_post 0 (vector at all) k)
step (want_statement d a k) t = statement_step d t a k
step (have_items a k) t = after_items a k t
step (have_start d at w a k) t = word_statement at w a k t
step (want_marked m a k) t = marked_step t m a k
step (want_choice at m a k) t = only (is_sign OpenRound t) (want_expression (statement_test at m a k))
step (want_child k) t = child_step t k
step (want_defined what at a k) t = defined_name what at (word_of t) a k
step (want_parameters k) t = only (is_sign OpenRound t) (in_parameters [] k)
step (in_parameters all k) t = parameters_step t all k
step (have_parameter w all k) t =
    if is_sign Assign t then go (want_expression (default_of w all k))
    else after_parameter_step (with_parameter all w None) k t
step (after_parameter all k) t = after_parameter_step all k t
step (have_parameters all k) t = end_parameters all k t
step (want_assign at w all a k) t = only (is_sign Assign t) (want_expression (function_body at w all a k))

-- the program that a text is, if it ends here
unfoldable pub finish : State → Option Items
finish (have_items a k) = finish_items a k
finish _ = None

-- before the first token
abbrev pub start : State
start = have_items no_items in_program

-- where the reader stands behind tokens that a program may begin with
unfoldable pub reach : State → List Token → Option State
reach s [] = Some s
reach s (t ∷ ts) = elim (step s t) [ go next ↦ reach next ts | left_out w ↦ None | stuck ↦ None ]

-- the program that these tokens go on with
unfoldable pub run : State → List Token → Option Items
run s [] = finish s
run s (t ∷ ts) = elim (step s t) [ go next ↦ run next ts | left_out w ↦ None | stuck ↦ None ]

-- a fault, at the token or the end where it stands
pub data Refusal : Type 0 where
  syntax_at : Place → Refusal
  nesting_at : Place → Refusal
  left_out_at : Place → List ℕ → Refusal

-- the most constructs that may stand open
abbrev pub most_open : ℕ
most_open = 200

-- one token, judged: of a form that is left out, then that it may stand here, then how many constructs stand open
unfoldable pub judge_move : Place → Move → Result State Refusal
judge_move at (go next) = if nat_lt most_open (open_count next) then Err (nesting_at at) else Ok next
judge_move at (left_out w) = Err (left_out_at at w)
judge_move at stuck = Err (syntax_at at)

unfoldable pub judge_end : Place → Option Items → Result Items Refusal
judge_end end (Some all) = Ok all
judge_end end None = Err (syntax_at end)

-- the program that these tokens go on with, or the first fault, at a text that ends at this place
unfoldable pub outcome : State → List Token → Place → Result Items Refusal
outcome s [] end = judge_end end (finish s)
outcome s (t ∷ ts) end = elim (judge_move t.at (step s t)) [ Ok next ↦ outcome next ts end | Err fault ↦ Err fault ]

-- what tokens are
abbrev pub outcome_of : List Token → Place → Result Items Refusal
outcome_of tokens end = outcome start tokens end
