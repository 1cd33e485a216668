-- What the next token does where an expression stands or has ended. Each decision is on the token alone.
use Rattle.std.specs.Prelude.{ℕ, suc, Bool, true, false, List, Option, Some, None, if◌then◌else◌, codes}
use Rattle.scad_fault.specs.declared.place.Place.{Place}
use Rattle.scad_lex.specs.declared.token.Token.{Token}
use Rattle.scad_lex.specs.declared.token.TokenKind.{TokenKind}
use Rattle.scad_lex.specs.declared.token.TokenKind.TheVariants.{Number, Str, Key}
use Rattle.scad_lex.specs.declared.token.Sign.TheVariants.{OpenRound, CloseRound, OpenSquare, CloseSquare, Semicolon}
use Rattle.scad_lex.specs.declared.token.Sign.TheVariants.{Comma, Colon, Question, Assign, Plus, Minus, Caret, Bang}
use Rattle.scad_lex.specs.declared.token.Sign.TheVariants.{Dot}
use Rattle.scad_lex.specs.declared.token.Key.TheVariants.{Function, If, Else, For, Let, Assert, Echo, Each, True}
use Rattle.scad_lex.specs.declared.token.Key.TheVariants.{False, Undef}
use Rattle.scad_ast.specs.declared.operator.UnOp.TheVariants.{Not, Plus as UnaryPlus, Minus as UnaryMinus}
use Rattle.scad_ast.specs.declared.operator.BinOp.{BinOp}
use Rattle.scad_ast.specs.Tree.{no_items, Expression, undef, boolean, number, string, name, vector, range, stepped}
use Rattle.scad_ast.specs.Tree.{unary, binary, choose, index, member, call, Arguments, no_arguments, Elements}
use Rattle.scad_ast.specs.Tree.{no_elements, Element, item, each, for_each, for_loop, if_element, if_else, Parameter}
use Rattle.scad_ast.specs.Tree.{assignment, function_of}
use Rattle.scad_grammar.specs.Tokens.{is_sign, is_key, word_of, operator}
use Rattle.scad_grammar.specs.Lists.{with_argument, with_element, with_parameter, with_item, let_of}
use Rattle.scad_grammar.specs.Grammar.{ends_arguments}
use Rattle.scad_grammar.specs.Behind.{letting, asserting, echoing, keyed_tree, a_module, a_function, module_body}
use Rattle.scad_grammar.specs.Behind.{child_of, held_child, BehindParameters, defined, BehindOperand, prefixed}
use Rattle.scad_grammar.specs.Behind.{first_of, right_of, tested, BehindExpression, in_round, in_index, chosen, other}
use Rattle.scad_grammar.specs.Behind.{body_of, argument_of, plain_item, range_second, range_third, loop_test}
use Rattle.scad_grammar.specs.Behind.{element_test, default_of, assigned_to, function_body, statement_test}
use Rattle.scad_grammar.specs.Behind.{BehindElement, in_vector, each_of, for_of, loop_of, let_body, held_element}
use Rattle.scad_grammar.specs.Behind.{other_element, BehindArguments, of_call, of_keyed, of_for, of_steps, of_let}
use Rattle.scad_grammar.specs.Behind.{of_statement}
use Rattle.scad_grammar.specs.State.{State, want_expression, want_unary, want_operand, opened, have_name, have_post}
use Rattle.scad_grammar.specs.State.{want_member, want_arguments, in_arguments, have_word, want_element, want_test}
use Rattle.scad_grammar.specs.State.{in_elements, have_items, want_statement, want_child, want_assign, in_parameters}
use Rattle.scad_grammar.specs.Move.{Move, go, left_out, stuck}

-- only this sign may stand here
abbrev pub only : Bool → State → Move
only right s = if right then go s else stuck

-- NUMBER, STRING, "true", "false", "undef"
abbrev pub literal_kind : Place → TokenKind → Option Expression
literal_kind at (Number z) = Some (number at z)
literal_kind at (Str chars) = Some (string at chars)
literal_kind at (Key True) = Some (boolean at true)
literal_kind at (Key False) = Some (boolean at false)
literal_kind at (Key Undef) = Some (undef at)
literal_kind at _ = None

abbrev pub literal : Token → Option Expression
literal t = literal_kind t.at t.kind

-- where an operand of the grammar's `prim` begins
abbrev pub word_step : Token → Option (List ℕ) → BehindOperand → Move
word_step t (Some w) k = go (have_name t.at w k)
word_step t None k = stuck

abbrev pub literal_step : Token → Option Expression → BehindOperand → Move
literal_step t (Some e) k = go (have_post 0 e k)
literal_step t None k = word_step t (word_of t) k

unfoldable pub prim_step : Token → BehindOperand → Move
prim_step t k =
    if is_sign OpenRound t then go (want_expression (in_round k))
    else (if is_sign OpenSquare t then go (in_elements t.at no_elements k)
    else literal_step t (literal t) k)

-- where a `unary` begins
unfoldable pub unary_step : Token → BehindOperand → Move
unary_step t k =
    if is_sign Bang t then go (want_unary (prefixed t.at Not k))
    else (if is_sign Plus t then go (want_unary (prefixed t.at UnaryPlus k))
    else (if is_sign Minus t then go (want_unary (prefixed t.at UnaryMinus k))
    else prim_step t k))

-- where an expression begins
unfoldable pub expression_step : Token → BehindExpression → Move
expression_step t k =
    if is_key Function t then left_out (codes "function")
    else (if is_key Let t then go (want_arguments (of_keyed letting t.at k))
    else (if is_key Assert t then go (want_arguments (of_keyed asserting t.at k))
    else (if is_key Echo t then go (want_arguments (of_keyed echoing t.at k))
    else unary_step t (opened 6 (tested k)))))

-- where an element of a vector begins
unfoldable pub element_step : Token → BehindElement → Move
element_step t k =
    if is_key For t then go (want_arguments (of_for t.at k))
    else (if is_key Each t then go (want_element (each_of t.at k))
    else (if is_key If t then go (want_test t.at k)
    else (if is_key Let t then go (want_arguments (of_let t.at k))
    else expression_step t (plain_item k))))

-- the end of arguments: `)`, and `;` where a `for` may have three parts
unfoldable pub end_arguments : Arguments → BehindArguments → Token → Move
end_arguments all (of_call at w k) t = only (is_sign CloseRound t) (have_post 0 (call at w all) k)
end_arguments all (of_keyed what at k) t = only (is_sign CloseRound t) (want_expression (body_of what at all k))
end_arguments all (of_for at k) t =
    if is_sign CloseRound t then go (want_element (for_of at all k))
    else only (is_sign Semicolon t) (want_expression (loop_test at all k))
end_arguments all (of_steps at starts e k) t = only (is_sign CloseRound t) (want_element (loop_of at starts e all k))
end_arguments all (of_let at k) t = only (is_sign CloseRound t) (want_element (let_body at all k))
end_arguments all (of_statement at m w a k) t = only (is_sign CloseRound t) (want_child (child_of at m w all a k))

-- behind an argument
unfoldable pub after_argument_step : Arguments → BehindArguments → Token → Move
after_argument_step all k t = if is_sign Comma t then go (in_arguments all k) else end_arguments all k t

abbrev pub argument_step : Token → Option (List ℕ) → Arguments → BehindArguments → Move
argument_step t (Some w) all k = go (have_word t.at w all k)
argument_step t None all k = expression_step t (argument_of None all k)

-- where an argument or the end of the arguments may stand
unfoldable pub arguments_step : Token → Arguments → BehindArguments → Move
arguments_step t all k = if ends_arguments t then end_arguments all k t else argument_step t (word_of t) all k

-- the end of parameters
unfoldable pub end_parameters : List Parameter → BehindParameters → Token → Move
end_parameters all (defined a_module at w a k) t =
    only (is_sign CloseRound t) (want_statement true no_items (module_body at w all a k))
end_parameters all (defined a_function at w a k) t = only (is_sign CloseRound t) (want_assign at w all a k)

-- behind a parameter
unfoldable pub after_parameter_step : List Parameter → BehindParameters → Token → Move
after_parameter_step all k t = if is_sign Comma t then go (in_parameters all k) else end_parameters all k t

-- `,` or `]` behind an element
unfoldable pub after_one_step : Place → Elements → BehindOperand → Token → Move
after_one_step at all k t =
    if is_sign Comma t then go (in_elements at all k)
    else only (is_sign CloseSquare t) (have_post 0 (vector at all) k)

-- the first part of a range: an expression that stands first between the brackets
abbrev pub range_start : Elements → Element → Option Expression
range_start no_elements (item e) = Some e
range_start _ _ = None

abbrev pub range_step : Place → Option Expression → BehindOperand → Move
range_step at (Some e) k = go (want_expression (range_second at e k))
range_step at None k = stuck

unfoldable pub member_step : Place → Elements → Element → BehindOperand → Token → Move
member_step at all el k t =
    if is_sign Colon t then range_step at (range_start all el) k
    else after_one_step at (with_element all el) k t

-- behind an element
unfoldable pub after_element : Element → BehindElement → Token → Move
after_element el (in_vector at all k) t = member_step at all el k t
after_element el (each_of at k) t = after_element (each at el) k t
after_element el (for_of at all k) t = after_element (for_each at all el) k t
after_element el (loop_of at starts e steps k) t = after_element (for_loop at starts e steps el) k t
after_element el (let_body at all k) t = after_element (let_of at all el) k t
after_element el (held_element at e k) t =
    if is_key Else t then go (want_element (other_element at e el k)) else after_element (if_element at e el) k t
after_element el (other_element at e held k) t = after_element (if_else at e held el) k t

-- behind an expression
unfoldable pub after_expression : Expression → BehindExpression → Token → Move
after_expression e (in_round k) t = only (is_sign CloseRound t) (have_post 0 e k)
after_expression e (in_index at a count k) t = only (is_sign CloseSquare t) (have_post (suc count) (index at a e) k)
after_expression e (chosen at a k) t = only (is_sign Colon t) (want_expression (other at a e k))
after_expression e (other at a b k) t = after_expression (choose at a b e) k t
after_expression e (body_of what at all k) t = after_expression (keyed_tree what at all e) k t
after_expression e (argument_of called all k) t = after_argument_step (with_argument all called e) k t
after_expression e (plain_item k) t = after_element (item e) k t
after_expression e (range_second at a k) t =
    if is_sign Colon t then go (want_expression (range_third at a e k))
    else only (is_sign CloseSquare t) (have_post 0 (range at a e) k)
after_expression e (range_third at a b k) t = only (is_sign CloseSquare t) (have_post 0 (stepped at a b e) k)
after_expression e (loop_test at all k) t =
    only (is_sign Semicolon t) (in_arguments no_arguments (of_steps at all e k))
after_expression e (element_test at k) t = only (is_sign CloseRound t) (want_element (held_element at e k))
after_expression e (default_of w all k) t = after_parameter_step (with_parameter all w (Some e)) k t
after_expression e (assigned_to at w a k) t =
    only (is_sign Semicolon t) (have_items (with_item a (assignment at w e)) k)
after_expression e (function_body at w all a k) t =
    only (is_sign Semicolon t) (have_items (with_item a (function_of at w all e)) k)
after_expression e (statement_test at m a k) t = only (is_sign CloseRound t) (want_child (held_child at m e a k))

-- behind a whole `or`
unfoldable pub tested_step : Expression → BehindExpression → Token → Move
tested_step e k t = if is_sign Question t then go (want_expression (chosen t.at e k)) else after_expression e k t

-- an operator that goes on with a line, otherwise what this token does behind the line
abbrev pub link_step : ℕ → ℕ → Expression → BehindOperand → Token → Option BinOp → Move → Move
link_step n count a k t (Some op) behind = go (want_operand n (right_of n (suc count) a op t.at k))
link_step n count a k t None behind = behind

-- behind an operand
unfoldable pub after_operand : Expression → BehindOperand → Token → Move
after_operand e (prefixed at op k) t = after_operand (unary at op e) k t
after_operand e (first_of n k) t = link_step n 0 e k t (operator n t) (after_operand e k t)
after_operand e (right_of n count a op at k) t =
    link_step n count (binary at op a e) k t (operator n t) (after_operand (binary at op a e) k t)
after_operand e (tested k) t = tested_step e k t

-- behind a `prim` and its posts
unfoldable pub post_step : ℕ → Expression → BehindOperand → Token → Move
post_step count e k t =
    if is_sign OpenSquare t then go (want_expression (in_index t.at e count k))
    else (if is_sign Dot t then go (want_member t.at e count k)
    else (if is_sign Caret t then left_out (codes "^")
    else after_operand e k t))

-- behind a WORD that begins an operand
unfoldable pub name_step : Place → List ℕ → BehindOperand → Token → Move
name_step at w k t =
    if is_sign OpenRound t then go (in_arguments no_arguments (of_call at w k)) else post_step 0 (name at w) k t

-- behind a WORD that begins an argument
unfoldable pub word_argument : Place → List ℕ → Arguments → BehindArguments → Token → Move
word_argument at w all k t =
    if is_sign Assign t then go (want_expression (argument_of (Some w) all k))
    else name_step at w (opened 6 (tested (argument_of None all k))) t

abbrev pub member_name : Place → Expression → ℕ → BehindOperand → Option (List ℕ) → Move
member_name at e count k (Some w) = go (have_post (suc count) (member at e w) k)
member_name at e count k None = stuck
