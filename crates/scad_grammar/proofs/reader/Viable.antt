-- Wherever a reader stands, some tokens go on to a whole program: the shortest text of each thing that is open.
use Rattle.std.proofs.Common.{List, [], ◌∷◌, Some, None, refl}
use Rattle.scad_lex.specs.declared.token.Token.{Token}
use Rattle.scad_lex.specs.declared.token.Sign.TheVariants.{OpenRound, CloseRound, CloseSquare, Semicolon, Assign}
use Rattle.scad_ast.specs.Tree.{name, vector, member, no_arguments, item, Items, no_items, assignment, function_of}
use Rattle.scad_ast.specs.Tree.{call_of}
use Rattle.scad_grammar.specs.Tokens.{sign, word}
use Rattle.scad_grammar.specs.Lists.{with_argument, with_parameter, with_item, with_statement}
use Rattle.scad_grammar.specs.Grammar.{post, a_number, a_name, no_args, named, no_elems, last_elem, plain, no_default}
use Rattle.scad_grammar.specs.Grammar.{params}
use Rattle.scad_grammar.specs.Statements.{nothing, assign, a_call, call_word, no_child}
use Rattle.scad_grammar.specs.Behind.{defined, element_test, statement_test}
use Rattle.scad_grammar.specs.State.{State, want_expression, have_expression, want_unary, have_operand, have_name}
use Rattle.scad_grammar.specs.State.{have_post, want_member, have_links, want_arguments, in_arguments, have_word}
use Rattle.scad_grammar.specs.State.{after_argument, have_arguments, want_element, have_element, want_test}
use Rattle.scad_grammar.specs.State.{in_elements, after_one, have_elements, want_statement, have_items, have_start}
use Rattle.scad_grammar.specs.State.{want_marked, want_choice, want_child, want_defined, want_parameters}
use Rattle.scad_grammar.specs.State.{in_parameters, have_parameter, after_parameter, have_parameters, want_assign}
use Rattle.scad_grammar.proofs.reader.Goes
use Rattle.scad_grammar.proofs.reader.Shortest.{here, quiet_posts, quiet_links, quiet_name, quiet_assign}
use Rattle.scad_grammar.proofs.reader.Shortest.{quiet_semicolon, zero_token, zero_tree, zero_expr, end_items}
use Rattle.scad_grammar.proofs.reader.Shortest.{end_parameters, end_operand, end_expression, end_element}
use Rattle.scad_grammar.proofs.reader.Shortest.{end_arguments}

-- tokens that go on from a state
pub record Ending (s : State) : Type 0 where
  pub ts : List Token
  pub p : Items
  pub goes : Goes.Goes s ts p

pub viable : (s : State) → Ending s
viable (want_expression k) =
    let r = end_expression k zero_tree in
    record { ts = zero_token ∷ r.ts; p = r.p; goes = Goes.wants_expression (zero_expr r.quiet) r.goes }
viable (have_expression e k) =
    let r = end_expression k e in record { ts = r.ts; p = r.p; goes = Goes.has_expression r.goes }
viable (want_unary k) =
    let r = end_operand k zero_tree in
    record {
      ts = zero_token ∷ r.ts;
      p = r.p;
      goes =
          Goes.wants_unary (post a_number (quiet_posts zero_tree r.quiet)) r.goes;
    }
viable (have_operand e k) =
    let r = end_operand k e in record { ts = r.ts; p = r.p; goes = Goes.has_operand r.goes }
viable (have_name at w k) =
    let r = end_operand k (name at w) in
    record {
      ts = r.ts;
      p = r.p;
      goes = Goes.has_name (Goes.wants_unary
          (post (a_name (quiet_name r.quiet)) (quiet_posts (name at w) r.quiet)) r.goes);
    }
viable (have_post count e k) =
    let r = end_operand k e in record { ts = r.ts; p = r.p; goes = Goes.has_post (quiet_posts e r.quiet) r.goes }
viable (want_member at e count k) =
    let r = end_operand k (member at e []) in
    record {
      ts = word [] here ∷ r.ts;
      p = r.p;
      goes =
          Goes.wants_member (quiet_posts (member at e []) r.quiet) r.goes;
    }
viable (have_links n count e k) =
    let r = end_operand k e in record { ts = r.ts; p = r.p; goes = Goes.has_links (quiet_links n e r.quiet) r.goes }
viable (want_arguments k) =
    let r = end_arguments k (with_argument no_arguments (Some []) zero_tree) in
    record {
      ts = sign OpenRound here ∷ word [] here ∷ sign Assign here ∷ zero_token ∷ r.ts;
      p = r.p;
      goes = Goes.wants_arguments (named (zero_expr r.quiet) r.last) r.goes;
    }
viable (in_arguments a k) =
    let r = end_arguments k (with_argument a (Some []) zero_tree) in
    record {
      ts = word [] here ∷ sign Assign here ∷ zero_token ∷ r.ts;
      p = r.p;
      goes = Goes.is_in_arguments (named (zero_expr r.quiet) r.last) r.goes;
    }
viable (have_word at w a k) =
    let r = end_arguments k (with_argument a (Some w) zero_tree) in
    record {
      ts = sign Assign here ∷ zero_token ∷ r.ts;
      p = r.p;
      goes = Goes.has_word (Goes.is_in_arguments (named (zero_expr r.quiet) r.last) r.goes);
    }
viable (after_argument a k) =
    let r = end_arguments k a in record { ts = r.ts; p = r.p; goes = Goes.is_after_argument r.last r.goes }
viable (have_arguments all k) =
    let r = end_arguments k all in record { ts = r.ts; p = r.p; goes = Goes.has_arguments r.goes }
viable (want_element k) =
    let r = end_element k (item zero_tree) in
    record { ts = zero_token ∷ r.ts; p = r.p; goes = Goes.wants_element (plain (zero_expr r.quiet)) r.goes }
viable (have_element el k) =
    let r = end_element k el in record { ts = r.ts; p = r.p; goes = Goes.has_element r.goes }
viable (want_test at k) =
    let r = end_expression (element_test at k) zero_tree in
    record {
      ts = sign OpenRound here ∷ zero_token ∷ r.ts;
      p = r.p;
      goes =
          Goes.wants_test (zero_expr r.quiet) r.goes;
    }
viable (in_elements at a k) =
    let r = end_operand k (vector at a) in
    record {
      ts = sign CloseSquare here ∷ r.ts;
      p = r.p;
      goes =
          Goes.is_in_elements no_elems (quiet_posts (vector at a) r.quiet) r.goes;
    }
viable (after_one at a k) =
    let r = end_operand k (vector at a) in
    record {
      ts = sign CloseSquare here ∷ r.ts;
      p = r.p;
      goes =
          Goes.is_after_one last_elem (quiet_posts (vector at a) r.quiet) r.goes;
    }
viable (have_elements at a k) =
    let r = end_operand k (vector at a) in
    record {
      ts = sign CloseSquare here ∷ r.ts;
      p = r.p;
      goes =
          Goes.has_elements (quiet_posts (vector at a) r.quiet) r.goes;
    }
viable (want_statement d a k) =
    let r = end_items k a in
    record { ts = sign Semicolon here ∷ r.ts; p = r.p; goes = Goes.wants_statement nothing r.goes }
viable (have_items a k) =
    let r = end_items k a in record { ts = r.ts; p = r.p; goes = Goes.has_items r.goes }
viable (have_start d at w a k) =
    let r = end_items k (with_item a (assignment at w zero_tree)) in
    record {
      ts = sign Assign here ∷ zero_token ∷ sign Semicolon here ∷ r.ts;
      p = r.p;
      goes = Goes.has_start (Goes.wants_statement (assign (zero_expr quiet_semicolon)) r.goes);
    }
viable (want_marked m a k) =
    let r = end_items k (with_statement m a (call_of here m.percent m.hash [] no_arguments no_items)) in
    record {
      ts = word [] here ∷ sign OpenRound here ∷ sign CloseRound here ∷ sign Semicolon here ∷ r.ts;
      p = r.p;
      goes = Goes.wants_marked (a_call call_word (no_args refl) no_child) r.goes;
    }
viable (want_choice at m a k) =
    let r = end_expression (statement_test at m a k) zero_tree in
    record {
      ts = sign OpenRound here ∷ zero_token ∷ r.ts;
      p = r.p;
      goes =
          Goes.wants_choice (zero_expr r.quiet) r.goes;
    }
viable (want_child k) =
    let r = end_items k no_items in
    record { ts = sign Semicolon here ∷ r.ts; p = r.p; goes = Goes.wants_child no_child r.goes }
viable (want_defined what at a k) =
    let r = end_parameters (defined what at [] a k) (with_parameter [] [] None) in
    record {
      ts = word [] here ∷ sign OpenRound here ∷ word [] here ∷ r.ts;
      p = r.p;
      goes = Goes.wants_defined (Goes.wants_parameters (params (no_default (quiet_assign r.quiet)) r.last) r.goes);
    }
viable (want_parameters k) =
    let r = end_parameters k (with_parameter [] [] None) in
    record {
      ts = sign OpenRound here ∷ word [] here ∷ r.ts;
      p = r.p;
      goes = Goes.wants_parameters (params (no_default (quiet_assign r.quiet)) r.last) r.goes;
    }
viable (in_parameters a k) =
    let r = end_parameters k (with_parameter a [] None) in
    record {
      ts = word [] here ∷ r.ts;
      p = r.p;
      goes =
          Goes.is_in_parameters (params (no_default (quiet_assign r.quiet)) r.last) r.goes;
    }
viable (have_parameter w a k) =
    let r = end_parameters k (with_parameter a w None) in
    record { ts = r.ts; p = r.p; goes = Goes.has_parameter (no_default (quiet_assign r.quiet)) r.last r.goes }
viable (after_parameter a k) =
    let r = end_parameters k a in record { ts = r.ts; p = r.p; goes = Goes.is_after_parameter r.last r.goes }
viable (have_parameters all k) =
    let r = end_parameters k all in record { ts = r.ts; p = r.p; goes = Goes.has_parameters r.goes }
viable (want_assign at w all a k) =
    let r = end_items k (with_item a (function_of at w all zero_tree)) in
    record {
      ts = sign Assign here ∷ zero_token ∷ sign Semicolon here ∷ r.ts;
      p = r.p;
      goes = Goes.wants_assign (zero_expr quiet_semicolon) r.goes;
    }
