-- The shortest text of each thing that is open goes on to a whole program.
use Rattle.std.proofs.Common.{◌≡◌, ℕ, zero, suc, pos, false, List, [], ◌∷◌, Some, refl}
use Rattle.scad_fault.specs.declared.place.Place.{Place}
use Rattle.scad_lex.specs.declared.token.Token.{Token}
use Rattle.scad_lex.specs.declared.token.Sign.TheVariants.{OpenRound, CloseRound, CloseSquare, CloseCurly, Semicolon}
use Rattle.scad_lex.specs.declared.token.Sign.TheVariants.{Colon, Question, Assign}
use Rattle.scad_lex.specs.declared.token.Key.TheVariants.{Else}
use Rattle.scad_ast.specs.Tree.{Expression, number, vector, range, stepped, unary, binary, choose, index, call}
use Rattle.scad_ast.specs.Tree.{Arguments, no_arguments, Element, item, each, for_each, for_loop, if_else, Parameter}
use Rattle.scad_ast.specs.Tree.{Items, no_items, assignment, module_of, function_of, call_of, choice}
use Rattle.scad_grammar.specs.Tokens.{sign, key, numeral, begins_with}
use Rattle.scad_grammar.specs.Lists.{with_argument, with_element, with_parameter, with_item, let_of, with_statement}
use Rattle.scad_grammar.specs.Grammar.{Expr, test, no_choice, Operand, tightest, line, Links, no_link, post, Posts}
use Rattle.scad_grammar.specs.Grammar.{no_post, a_number, two_parts, no_args, MoreArgs, last_arg, last_elem, plain}
use Rattle.scad_grammar.specs.Grammar.{an_else, MoreParams, last_param}
use Rattle.scad_grammar.specs.Statements.{nothing, no_statement, otherwise, no_child}
use Rattle.scad_grammar.specs.Behind.{keyed_tree, a_module, a_function, BehindItems, in_program, in_group}
use Rattle.scad_grammar.specs.Behind.{module_body, child_of, held_child, other_child, BehindParameters, defined}
use Rattle.scad_grammar.specs.Behind.{BehindOperand, prefixed, first_of, right_of, tested, BehindExpression, in_round}
use Rattle.scad_grammar.specs.Behind.{in_index, chosen, other, body_of, argument_of, plain_item, range_second}
use Rattle.scad_grammar.specs.Behind.{range_third, loop_test, element_test, default_of, assigned_to, function_body}
use Rattle.scad_grammar.specs.Behind.{statement_test, BehindElement, in_vector, each_of, for_of, loop_of, let_body}
use Rattle.scad_grammar.specs.Behind.{held_element, other_element, BehindArguments, of_call, of_keyed, of_for}
use Rattle.scad_grammar.specs.Behind.{of_steps, of_let, of_statement}
use Rattle.scad_grammar.proofs.reader.Goes

-- some place
abbrev pub here : Place
here = record { line = 0; col = 0 }

-- the first token goes on with no operand
pub data Quiet : List Token → Type 0 where
  quiet_round : {ts : List Token} → Quiet (sign CloseRound here ∷ ts)
  quiet_square : {ts : List Token} → Quiet (sign CloseSquare here ∷ ts)
  quiet_semicolon : {ts : List Token} → Quiet (sign Semicolon here ∷ ts)
  quiet_colon : {ts : List Token} → Quiet (sign Colon here ∷ ts)
  quiet_else : {ts : List Token} → Quiet (key Else here ∷ ts)

pub quiet_posts : {ts : List Token} (a : Expression) → Quiet ts → Posts a ts ts a
quiet_posts a quiet_round = no_post refl refl refl
quiet_posts a quiet_square = no_post refl refl refl
quiet_posts a quiet_semicolon = no_post refl refl refl
quiet_posts a quiet_colon = no_post refl refl refl
quiet_posts a quiet_else = no_post refl refl refl

pub quiet_links : {ts : List Token} (n : ℕ) (a : Expression) → Quiet ts → Links n a ts ts a
quiet_links n a quiet_round = no_link refl
quiet_links n a quiet_square = no_link refl
quiet_links n a quiet_semicolon = no_link refl
quiet_links n a quiet_colon = no_link refl
quiet_links n a quiet_else = no_link refl

pub quiet_question : {ts : List Token} → Quiet ts → begins_with Question ts ≡ false
quiet_question quiet_round = refl
quiet_question quiet_square = refl
quiet_question quiet_semicolon = refl
quiet_question quiet_colon = refl
quiet_question quiet_else = refl

pub quiet_name : {ts : List Token} → Quiet ts → begins_with OpenRound ts ≡ false
quiet_name quiet_round = refl
quiet_name quiet_square = refl
quiet_name quiet_semicolon = refl
quiet_name quiet_colon = refl
quiet_name quiet_else = refl

pub quiet_assign : {ts : List Token} → Quiet ts → begins_with Assign ts ≡ false
quiet_assign quiet_round = refl
quiet_assign quiet_square = refl
quiet_assign quiet_semicolon = refl
quiet_assign quiet_colon = refl
quiet_assign quiet_else = refl

-- the shortest expression
abbrev pub zero_token : Token
zero_token = numeral (pos 0) here

abbrev pub zero_tree : Expression
zero_tree = number here (pos 0)

zero_operand : {ts : List Token} (n : ℕ) → Quiet ts → Operand n (zero_token ∷ ts) ts zero_tree
zero_operand zero q = tightest (post a_number (quiet_posts zero_tree q))
zero_operand (suc n) q = line (zero_operand n q) (quiet_links n zero_tree q)

pub zero_expr : {ts : List Token} → Quiet ts → Expr (zero_token ∷ ts) ts zero_tree
zero_expr q = test (zero_operand 6 q) (no_choice (quiet_question q))

-- tokens that go on to a program
pub record Reaches (goes_on : List Token → Items → Type 0) : Type 0 where
  pub ts : List Token
  pub p : Items
  pub goes : goes_on ts p

reaches : {goes_on : List Token → Items → Type 0} (p : Items) (ts : List Token) → goes_on ts p → Reaches goes_on
reaches p ts goes = record { ts = ts; p = p; goes = goes }

abbrev pub ItemsEnd : Items → BehindItems → Type 0
ItemsEnd a k = Reaches (Goes.ItemsGoes a k)

-- and whose first goes on with no operand
pub record Ends (goes_on : List Token → Items → Type 0) : Type 0 where
  pub ts : List Token
  pub p : Items
  pub quiet : Quiet ts
  pub goes : goes_on ts p

ends : {goes_on : List Token → Items → Type 0} (p : Items) (ts : List Token) → Quiet ts → goes_on ts p → Ends goes_on
ends p ts quiet goes = record { ts = ts; p = p; quiet = quiet; goes = goes }

-- and at whose first a list has ended
pub record Closes (may_end : List Token → Type 0) (goes_on : List Token → Items → Type 0) : Type 0 where
  pub ts : List Token
  pub p : Items
  pub quiet : Quiet ts
  pub last : may_end ts
  pub goes : goes_on ts p

closes : {may_end : List Token → Type 0} {goes_on : List Token → Items → Type 0} (p : Items) (ts : List Token) →
    Quiet ts → may_end ts → goes_on ts p → Closes may_end goes_on
closes p ts quiet last goes = record { ts = ts; p = p; quiet = quiet; last = last; goes = goes }

pub end_items : (k : BehindItems) (a : Items) → ItemsEnd a k
end_items in_program a = reaches _ [] (Goes.goes_program no_statement)
end_items (in_group d k) a =
    let r = end_items k a in
    reaches _ (sign CloseCurly here ∷ r.ts) (Goes.goes_group no_statement r.goes)
end_items (module_body at w all outer k) a =
    let r = end_items k (with_item outer (module_of at w all a)) in
    reaches _ r.ts (Goes.goes_module r.goes)
end_items (child_of at m w all outer k) a =
    let r = end_items k (with_statement m outer (call_of at m.percent m.hash w all a)) in
    reaches _ r.ts (Goes.goes_child r.goes)
end_items (held_child at m e outer k) a =
    let r = end_items k (with_statement m outer (choice at m.percent m.hash e a no_items)) in
    reaches _ (key Else here ∷ sign Semicolon here ∷ r.ts) (Goes.goes_held (otherwise no_child) r.goes)
end_items (other_child at m e held outer k) a =
    let r = end_items k (with_statement m outer (choice at m.percent m.hash e held a)) in
    reaches _ r.ts (Goes.goes_other r.goes)

abbrev pub ParametersEnd : List Parameter → BehindParameters → Type 0
ParametersEnd all k = Closes (λ ts. MoreParams all ts ts all) (Goes.ParametersGoes all k)

pub end_parameters : (k : BehindParameters) (all : List Parameter) → ParametersEnd all k
end_parameters (defined a_module at w a k) all =
    let r = end_items k (with_item a (module_of at w all no_items)) in
    closes _ (sign CloseRound here ∷ sign Semicolon here ∷ r.ts) quiet_round last_param
    (Goes.goes_defined nothing r.goes)
end_parameters (defined a_function at w a k) all =
    let r = end_items k (with_item a (function_of at w all zero_tree)) in
    closes _ (sign CloseRound here ∷ sign Assign here ∷ zero_token ∷ sign Semicolon here ∷ r.ts) quiet_round
    last_param (Goes.goes_function (zero_expr quiet_semicolon) r.goes)

abbrev pub OperandEnd : Expression → BehindOperand → Type 0
OperandEnd e k = Ends (Goes.OperandGoes e k)

abbrev pub ExpressionEnd : Expression → BehindExpression → Type 0
ExpressionEnd e k = Ends (Goes.ExpressionGoes e k)

abbrev pub ElementEnd : Element → BehindElement → Type 0
ElementEnd el k = Ends (Goes.ElementGoes el k)

abbrev pub ArgumentsEnd : Arguments → BehindArguments → Type 0
ArgumentsEnd all k = Closes (λ ts. MoreArgs all ts ts all) (Goes.ArgumentsGoes all k)

mutual
  pub end_operand : (k : BehindOperand) (e : Expression) → OperandEnd e k
  end_operand (prefixed at op k) e =
      let r = end_operand k (unary at op e) in
      ends _ r.ts r.quiet (Goes.goes_prefixed r.goes)
  end_operand (first_of n k) e =
      let r = end_operand k e in
      ends _ r.ts r.quiet (Goes.goes_first (quiet_links n e r.quiet) r.goes)
  end_operand (right_of n count a op at k) e =
      let r = end_operand k (binary at op a e) in
      ends _ r.ts r.quiet (Goes.goes_right (quiet_links n (binary at op a e) r.quiet) r.goes)
  end_operand (tested k) e =
      let r = end_expression k e in
      ends _ r.ts r.quiet (Goes.goes_tested (no_choice (quiet_question r.quiet)) r.goes)

  pub end_expression : (k : BehindExpression) (e : Expression) → ExpressionEnd e k
  end_expression (in_round k) e =
      let r = end_operand k e in
      ends _ (sign CloseRound here ∷ r.ts) quiet_round (Goes.goes_round (quiet_posts e r.quiet) r.goes)
  end_expression (in_index at a count k) e =
      let r = end_operand k (index at a e) in
      ends _ (sign CloseSquare here ∷ r.ts) quiet_square (Goes.goes_index (quiet_posts (index at a e) r.quiet) r.goes)
  end_expression (chosen at a k) e =
      let r = end_expression k (choose at a e zero_tree) in
      ends _ (sign Colon here ∷ zero_token ∷ r.ts) quiet_colon (Goes.goes_chosen (zero_expr r.quiet) r.goes)
  end_expression (other at a b k) e =
      let r = end_expression k (choose at a b e) in
      ends _ r.ts r.quiet (Goes.goes_last r.goes)
  end_expression (body_of what at all k) e =
      let r = end_expression k (keyed_tree what at all e) in
      ends _ r.ts r.quiet (Goes.goes_body r.goes)
  end_expression (argument_of o a k) e =
      let r = end_arguments k (with_argument a o e) in
      ends _ r.ts r.quiet (Goes.goes_argument r.last r.goes)
  end_expression (plain_item k) e = let r = end_element k (item e) in ends _ r.ts r.quiet (Goes.goes_item r.goes)
  end_expression (range_second at a k) e =
      let r = end_operand k (range at a e) in
      ends _ (sign CloseSquare here ∷ r.ts) quiet_square
      (Goes.goes_second two_parts (quiet_posts (range at a e) r.quiet) r.goes)
  end_expression (range_third at a b k) e =
      let r = end_operand k (stepped at a b e) in
      ends _ (sign CloseSquare here ∷ r.ts) quiet_square
      (Goes.goes_third (quiet_posts (stepped at a b e) r.quiet) r.goes)
  end_expression (loop_test at all k) e =
      let r = end_element k (for_loop at all e no_arguments (item zero_tree)) in
      ends _ (sign Semicolon here ∷ sign CloseRound here ∷ zero_token ∷ r.ts) quiet_semicolon
      (Goes.goes_loop (no_args refl) (plain (zero_expr r.quiet)) r.goes)
  end_expression (element_test at k) e =
      let r = end_element k (if_else at e (item zero_tree) (item zero_tree)) in
      ends _ (sign CloseRound here ∷ zero_token ∷ key Else here ∷ zero_token ∷ r.ts) quiet_round
      (Goes.goes_test (plain (zero_expr quiet_else)) (an_else (plain (zero_expr r.quiet))) r.goes)
  end_expression (default_of w a k) e =
      let r = end_parameters k (with_parameter a w (Some e)) in
      ends _ r.ts r.quiet (Goes.goes_default r.last r.goes)
  end_expression (assigned_to at w a k) e =
      let r = end_items k (with_item a (assignment at w e)) in
      ends _ (sign Semicolon here ∷ r.ts) quiet_semicolon (Goes.goes_assigned r.goes)
  end_expression (function_body at w all a k) e =
      let r = end_items k (with_item a (function_of at w all e)) in
      ends _ (sign Semicolon here ∷ r.ts) quiet_semicolon (Goes.goes_result r.goes)
  end_expression (statement_test at m a k) e =
      let r = end_items k (with_statement m a (choice at m.percent m.hash e no_items no_items)) in
      ends _ (sign CloseRound here ∷ sign Semicolon here ∷ key Else here ∷ sign Semicolon here ∷ r.ts) quiet_round
      (Goes.goes_choice no_child (otherwise no_child) r.goes)

  pub end_element : (k : BehindElement) (el : Element) → ElementEnd el k
  end_element (in_vector at a k) el =
      let r = end_operand k (vector at (with_element a el)) in
      ends _ (sign CloseSquare here ∷ r.ts) quiet_square
      (Goes.goes_member last_elem (quiet_posts (vector at (with_element a el)) r.quiet) r.goes)
  end_element (each_of at k) el =
      let r = end_element k (each at el) in
      ends _ r.ts r.quiet (Goes.goes_each r.goes)
  end_element (for_of at all k) el =
      let r = end_element k (for_each at all el) in
      ends _ r.ts r.quiet (Goes.goes_for r.goes)
  end_element (loop_of at starts e steps k) el =
      let r = end_element k (for_loop at starts e steps el) in
      ends _ r.ts r.quiet (Goes.goes_turns r.goes)
  end_element (let_body at all k) el =
      let r = end_element k (let_of at all el) in
      ends _ r.ts r.quiet (Goes.goes_let r.goes)
  end_element (held_element at e k) el =
      let r = end_element k (if_else at e el (item zero_tree)) in
      ends _ (key Else here ∷ zero_token ∷ r.ts) quiet_else
      (Goes.goes_if (an_else (plain (zero_expr r.quiet))) r.goes)
  end_element (other_element at e held k) el =
      let r = end_element k (if_else at e held el) in
      ends _ r.ts r.quiet (Goes.goes_else r.goes)

  pub end_arguments : (k : BehindArguments) (all : Arguments) → ArgumentsEnd all k
  end_arguments (of_call at w k) all =
      let r = end_operand k (call at w all) in
      closes _ (sign CloseRound here ∷ r.ts) quiet_round (last_arg refl)
      (Goes.goes_call (quiet_posts (call at w all) r.quiet) r.goes)
  end_arguments (of_keyed what at k) all =
      let r = end_expression k (keyed_tree what at all zero_tree) in
      closes _ (sign CloseRound here ∷ zero_token ∷ r.ts) quiet_round (last_arg refl)
      (Goes.goes_keyed (zero_expr r.quiet) r.goes)
  end_arguments (of_for at k) all =
      let r = end_element k (for_each at all (item zero_tree)) in
      closes _ (sign CloseRound here ∷ zero_token ∷ r.ts) quiet_round (last_arg refl)
      (Goes.goes_for_each (plain (zero_expr r.quiet)) r.goes)
  end_arguments (of_steps at starts e k) all =
      let r = end_element k (for_loop at starts e all (item zero_tree)) in
      closes _ (sign CloseRound here ∷ zero_token ∷ r.ts) quiet_round (last_arg refl)
      (Goes.goes_steps (plain (zero_expr r.quiet)) r.goes)
  end_arguments (of_let at k) all =
      let r = end_element k (let_of at all (item zero_tree)) in
      closes _ (sign CloseRound here ∷ zero_token ∷ r.ts) quiet_round (last_arg refl)
      (Goes.goes_let_args (plain (zero_expr r.quiet)) r.goes)
  end_arguments (of_statement at m w a k) all =
      let r = end_items k (with_statement m a (call_of at m.percent m.hash w all no_items)) in
      closes _ (sign CloseRound here ∷ sign Semicolon here ∷ r.ts) quiet_round (last_arg refl)
      (Goes.goes_statement no_child r.goes)
