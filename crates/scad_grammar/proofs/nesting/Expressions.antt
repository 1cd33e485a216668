-- What a reader keeps open over an expression is what its derivation has open.
use Rattle.std.proofs.Common.{ℕ, suc, ◌+◌, List, ◌∷◌, Option, Some, None, refl, ap, arith}
use Rattle.scad_fault.specs.declared.place.Place.{Place}
use Rattle.scad_lex.specs.declared.token.Token.{Token}
use Rattle.scad_lex.specs.declared.token.Sign.TheVariants.{CloseSquare}
use Rattle.scad_ast.specs.declared.operator.UnOp.TheVariants.{Not, Plus as UnaryPlus, Minus as UnaryMinus}
use Rattle.scad_ast.specs.declared.operator.BinOp.{BinOp}
use Rattle.scad_ast.specs.Tree.{Expression, no_elements, Arguments, Elements, Element, item}
use Rattle.scad_grammar.specs.Tokens.{sign}
use Rattle.scad_grammar.specs.Grammar.{Expr, let_expr, assert_expr, echo_expr, test, Choice, no_choice, choice}
use Rattle.scad_grammar.specs.Grammar.{Operand, tightest, line, Links, no_link, link, Unary, not_unary, plus_unary}
use Rattle.scad_grammar.specs.Grammar.{minus_unary, post, Posts, no_post, an_index, a_member, Prim, a_number}
use Rattle.scad_grammar.specs.Grammar.{a_string, a_true, a_false, an_undef, a_name, a_call, a_group, a_range}
use Rattle.scad_grammar.specs.Grammar.{a_vector, RangeEnd, two_parts, three_parts, Args, no_args, unnamed, named}
use Rattle.scad_grammar.specs.Grammar.{MoreArgs, last_arg, comma_arg, Elems, no_elems, elems, MoreElems, last_elem}
use Rattle.scad_grammar.specs.Grammar.{comma_elem, Elem, comp, plain, Comp, a_for, a_loop, an_each, let_comp, an_if}
use Rattle.scad_grammar.specs.Grammar.{Else, no_else, an_else}
use Rattle.scad_grammar.specs.Behind.{letting, asserting, echoing, BehindOperand, prefixed, first_of, right_of}
use Rattle.scad_grammar.specs.Behind.{tested, BehindExpression, in_round, in_index, chosen, other, body_of}
use Rattle.scad_grammar.specs.Behind.{argument_of, plain_item, range_second, range_third, loop_test, element_test}
use Rattle.scad_grammar.specs.Behind.{BehindElement, in_vector, each_of, for_of, loop_of, let_body, held_element}
use Rattle.scad_grammar.specs.Behind.{other_element, BehindArguments, of_call, of_keyed, of_for, of_steps, of_let}
use Rattle.scad_grammar.specs.Behind.{open_operand, open_expression, open_element, open_arguments}
use Rattle.scad_grammar.specs.State.{want_expression, have_expression, want_unary, want_operand, have_operand}
use Rattle.scad_grammar.specs.State.{have_post, have_links, in_arguments, after_argument, have_arguments}
use Rattle.scad_grammar.specs.State.{want_element, have_element, in_elements, after_one, have_elements}
use Rattle.scad_grammar.specs.Steps.{prim_step, unary_step, expression_step, element_step, end_arguments}
use Rattle.scad_grammar.specs.Steps.{after_argument_step, arguments_step, after_one_step, member_step, after_element}
use Rattle.scad_grammar.specs.Steps.{after_expression, tested_step, after_operand, post_step, name_step}
use Rattle.scad_grammar.specs.Steps.{word_argument, link_step}
use Rattle.scad_grammar.specs.Machine.{step}
use Rattle.scad_grammar.specs.Nesting.{in_expr, in_choice, in_operand, in_links, in_unary, in_posts, in_prim}
use Rattle.scad_grammar.specs.Nesting.{in_range, in_args, in_more_args, in_elems, in_more_elems, in_elem, in_comp}
use Rattle.scad_grammar.specs.Nesting.{in_else}
use Rattle.scad_grammar.proofs.reader.Openings.{operand_opening}
use Rattle.scad_grammar.proofs.reader.Expressions.{comp_let}
use Rattle.scad_grammar.proofs.nesting.OpenRest.{kept_link, kept_operand}
use Rattle.scad_grammar.proofs.nesting.PartEnd.{ended_links, ended_test, ended_posts, ended_name, ended_arguments}
use Rattle.scad_grammar.proofs.nesting.PartEnd.{ended_argument, ended_if, ended_element}
use Rattle.scad_grammar.proofs.nesting.Openings.{opens_expression, opens_element, opens_elements_expr}
use Rattle.scad_grammar.proofs.nesting.Openings.{opens_elements_elem, opens_argument}
use Rattle.scad_grammar.proofs.nesting.Places.{by_first}
use Rattle.scad_grammar.proofs.nesting.Tracks.{Tracks, nothing_read, one_token, then_part, part_then, then_token}
use Rattle.scad_grammar.proofs.nesting.Tracks.{part_token, token_part, token_then, construct_part, construct_then}
use Rattle.scad_grammar.proofs.nesting.Tracks.{from_alike, to_here, to_alike, outside_is}

mutual
  unfolding step prim_step unary_step expression_step element_step end_arguments after_argument_step arguments_step
      after_one_step member_step after_element after_expression tested_step after_operand post_step name_step
      word_argument

  pub over_expr : {ts us : List Token} {e : Expression} → (d : Expr ts us e) → (k : BehindExpression) →
      Tracks (want_expression k) ts us (have_expression e k) (in_expr d) (open_expression k)
  over_expr (let_expr {all = all} d b) k =
      to_alike
      (construct_then refl refl refl (then_part
      (construct_then refl refl refl (then_token (over_args d (of_keyed letting _ k)) refl refl))
      (over_expr b (body_of letting _ all k))))
      (λ t. refl) (λ us. refl)
  over_expr (assert_expr {all = all} d b) k =
      to_alike
      (construct_then refl refl refl (then_part
      (construct_then refl refl refl (then_token (over_args d (of_keyed asserting _ k)) refl refl))
      (over_expr b (body_of asserting _ all k))))
      (λ t. refl) (λ us. refl)
  over_expr (echo_expr {all = all} d b) k =
      to_alike
      (construct_then refl refl refl (then_part
      (construct_then refl refl refl (then_token (over_args d (of_keyed echoing _ k)) refl refl))
      (over_expr b (body_of echoing _ all k))))
      (λ t. refl) (λ us. refl)
  over_expr (test d c) k =
      then_part (from_alike (opens_expression (operand_opening d) k) (over_operand d (tested k))) (over_choice c k)

  pub over_choice : {a e : Expression} {ts us : List Token} → (c : Choice a ts us e) → (k : BehindExpression) →
      Tracks (have_operand a (tested k)) ts us (have_expression e k) (in_choice c) (open_expression k)
  over_choice (no_choice {a = a} {ts = ts} h) k =
      nothing_read (have_operand a (tested k)) (have_expression a k) ts (open_expression k) (ended_test a k ts h)
  over_choice (choice {at = at} {a = a} {b = b} d e) k =
      to_alike
      (construct_then refl refl refl
      (then_part (then_token (over_expr d (chosen at a k)) refl refl) (over_expr e (other at a b k))))
      (λ t. refl) (λ us. refl)

  pub over_operand : {n : ℕ} {ts us : List Token} {e : Expression} → (d : Operand n ts us e) → (k : BehindOperand) →
      Tracks (want_operand n k) ts us (have_operand e k) (in_operand d) (open_operand k)
  over_operand (tightest d) k = over_unary d k
  over_operand (line {n = n} d l) k =
      then_part (to_alike (over_operand d (first_of n k)) (λ t. refl) (λ us. refl))
      (outside_is (omega arith) (over_links l 0 k))

  pub over_links : {n : ℕ} {a e : Expression} {ts us : List Token} → (l : Links n a ts us e) →
      (count : ℕ) (k : BehindOperand) →
      Tracks (have_links n count a k) ts us (have_operand e k) (in_links l) (count + open_operand k)
  over_links (no_link {n = n} {a = a} {ts = ts} h) count k =
      nothing_read (have_links n count a k) (have_operand a k) ts (count + open_operand k)
      (ended_links n count a k ts h)
  over_links (link {n = n} {op = op} {a = a} {t = t} {ts = ts} h d l) count k =
      construct_then (ap (λ (o : Option BinOp). link_step n count a k t o (after_operand a k t)) h)
      (ap (λ (o : Option BinOp). kept_link o (count + open_operand k) (kept_operand k (t ∷ ts))) h) (omega arith)
      (then_part (to_alike (over_operand d (right_of n (suc count) a op t.at k)) (λ t. refl) (λ us. refl))
      (over_links l (suc count) k))

  pub over_unary : {ts us : List Token} {e : Expression} → (d : Unary ts us e) → (k : BehindOperand) →
      Tracks (want_unary k) ts us (have_operand e k) (in_unary d) (open_operand k)
  over_unary (not_unary {at = at} d) k =
      to_alike (construct_then refl refl refl (over_unary d (prefixed at Not k))) (λ t. refl) (λ us. refl)
  over_unary (plus_unary {at = at} d) k =
      to_alike (construct_then refl refl refl (over_unary d (prefixed at UnaryPlus k))) (λ t. refl) (λ us. refl)
  over_unary (minus_unary {at = at} d) k =
      to_alike (construct_then refl refl refl (over_unary d (prefixed at UnaryMinus k))) (λ t. refl) (λ us. refl)
  over_unary (post d l) k = then_part (over_prim d k) (outside_is (omega arith) (over_posts l 0 k))

  pub over_posts : {a e : Expression} {ts us : List Token} → (l : Posts a ts us e) → (count : ℕ) (k : BehindOperand) →
      Tracks (have_post count a k) ts us (have_operand e k) (in_posts l) (count + open_operand k)
  over_posts (no_post {a = a} {ts = ts} h₁ h₂ h₃) count k =
      nothing_read (have_post count a k) (have_operand a k) ts (count + open_operand k)
      (ended_posts count a k ts h₁ h₂ h₃)
  over_posts (an_index {at = at} {a = a} d l) count k =
      record {
        part = construct_part (omega arith) (part_then
            (construct_part (omega arith)
            (part_token (token_part refl (over_expr d (in_index at a count k))) refl refl))
            (over_posts l (suc count) k));
        start = λ h. refl;
      }
  over_posts (a_member {at = at} {w = w} {a = a} l) count k =
      construct_then refl refl (omega arith) (token_then refl (omega arith) (over_posts l (suc count) k))

  pub over_prim : {ts us : List Token} {e : Expression} → (d : Prim ts us e) → (k : BehindOperand) →
      Tracks (want_unary k) ts us (have_post 0 e k) (in_prim d) (open_operand k)
  over_prim a_number k = one_token _ _ _ _ (open_operand k) refl refl
  over_prim a_string k = one_token _ _ _ _ (open_operand k) refl refl
  over_prim a_true k = one_token _ _ _ _ (open_operand k) refl refl
  over_prim a_false k = one_token _ _ _ _ (open_operand k) refl refl
  over_prim an_undef k = one_token _ _ _ _ (open_operand k) refl refl
  over_prim (a_name {at = at} {w = w} {ts = ts} h) k =
      token_then refl refl (nothing_read _ _ ts (open_operand k) (ended_name at w k ts h))
  over_prim (a_call {at = at} {w = w} d) k =
      token_then refl refl (construct_then refl refl refl (then_token (over_args d (of_call at w k)) refl refl))
  over_prim (a_group d) k = construct_then refl refl refl (then_token (over_expr d (in_round k)) refl refl)
  over_prim (a_range {at = at} {a = a} d e r) k =
      construct_then refl refl refl (then_part
      (then_token (from_alike (opens_elements_expr d at no_elements k) (over_item d (in_vector at no_elements k)))
      refl refl)
      (then_part (over_expr e (range_second at a k)) (over_range r k)))
  over_prim (a_vector {at = at} d) k = construct_then refl refl refl (then_token (over_elems d at k) refl refl)

  pub over_range : {at : Place} {a b e : Expression} {ts us : List Token} → (r : RangeEnd at a b ts us e) →
      (k : BehindOperand) →
      Tracks (have_expression b (range_second at a k)) ts us (have_post 0 e k) (in_range r) (1 + open_operand k)
  over_range two_parts k = one_token _ _ _ _ (1 + open_operand k) refl refl
  over_range (three_parts {at = at} {a = a} {b = b} d) k =
      token_then refl refl (then_token (over_expr d (range_third at a b k)) refl refl)

  pub over_args : {a all : Arguments} {ts us : List Token} → (d : Args a ts us all) → (k : BehindArguments) →
      Tracks (in_arguments a k) ts us (have_arguments all k) (in_args d) (1 + open_arguments k)
  over_args (no_args {all = all} {ts = ts} h) k =
      nothing_read _ _ ts (1 + open_arguments k) (ended_arguments all k ts h)
  over_args (unnamed {a = a} h d m) k =
      then_part (to_alike (from_alike (opens_argument d h a k) (over_expr d (argument_of None a k))) (λ t. refl)
      (λ us. refl))
      (over_more_args m k)
  over_args (named {w = w} {a = a} d m) k =
      token_then refl refl (token_then refl refl
      (then_part (to_alike (over_expr d (argument_of (Some w) a k)) (λ t. refl) (λ us. refl)) (over_more_args m k)))

  pub over_more_args : {a all : Arguments} {ts us : List Token} → (m : MoreArgs a ts us all) → (k : BehindArguments) →
      Tracks (after_argument a k) ts us (have_arguments all k) (in_more_args m) (1 + open_arguments k)
  over_more_args (last_arg {all = all} {ts = ts} h) k =
      nothing_read _ _ ts (1 + open_arguments k) (ended_argument all k ts h)
  over_more_args (comma_arg d) k = token_then refl refl (over_args d k)

  pub over_elems : {a all : Elements} {ts us : List Token} → (d : Elems a ts us all) →
      (at : Place) (k : BehindOperand) →
      Tracks (in_elements at a k) ts us (have_elements at all k) (in_elems d) (1 + open_operand k)
  over_elems (no_elems {q = q} {all = all} {ts = ts}) at k =
      nothing_read _ _ _ (1 + open_operand k)
      (by_first (in_elements at all k) (have_elements at all k) (sign CloseSquare q ∷ ts) refl refl)
  over_elems (elems {a = a} {el = el} d m) at k =
      then_part
      (to_here (from_alike (opens_elements_elem d at a k) (over_elem d (in_vector at a k)))
      (ended_element m a el refl at k))
      (over_more_elems m at k)

  pub over_more_elems : {a all : Elements} {ts us : List Token} → (m : MoreElems a ts us all) →
      (at : Place) (k : BehindOperand) →
      Tracks (after_one at a k) ts us (have_elements at all k) (in_more_elems m) (1 + open_operand k)
  over_more_elems (last_elem {q = q} {all = all} {ts = ts}) at k =
      nothing_read _ _ _ (1 + open_operand k)
      (by_first (after_one at all k) (have_elements at all k) (sign CloseSquare q ∷ ts) refl refl)
  over_more_elems (comma_elem d) at k = token_then refl refl (over_elems d at k)

  pub over_elem : {ts us : List Token} {el : Element} → (d : Elem ts us el) → (k : BehindElement) →
      Tracks (want_element k) ts us (have_element el k) (in_elem d) (open_element k)
  over_elem (comp d) k = over_comp d k
  over_elem (plain d) k = over_item d k

  -- an expression where an element may begin
  pub over_item : {ts us : List Token} {e : Expression} → (d : Expr ts us e) → (k : BehindElement) →
      Tracks (want_element k) ts us (have_element (item e) k) (in_expr d) (open_element k)
  over_item (let_expr {at = at} {all = all} d b) k =
      to_alike
      (construct_then refl refl refl (then_part
      (construct_then refl refl refl (then_token (over_args d (of_let at k)) refl refl))
      (over_item b (let_body at all k))))
      (λ t. refl) (λ us. refl)
  over_item (assert_expr {at = at} {all = all} d b) k =
      to_alike
      (construct_then refl refl refl (then_part
      (construct_then refl refl refl (then_token (over_args d (of_keyed asserting at (plain_item k))) refl refl))
      (over_expr b (body_of asserting at all (plain_item k)))))
      (λ t. refl) (λ us. refl)
  over_item (echo_expr {at = at} {all = all} d b) k =
      to_alike
      (construct_then refl refl refl (then_part
      (construct_then refl refl refl (then_token (over_args d (of_keyed echoing at (plain_item k))) refl refl))
      (over_expr b (body_of echoing at all (plain_item k)))))
      (λ t. refl) (λ us. refl)
  over_item (test d c) k =
      to_alike
      (then_part (from_alike (opens_element (operand_opening d) k) (over_operand d (tested (plain_item k))))
      (over_choice c (plain_item k)))
      (λ t. refl) (λ us. refl)

  pub over_comp : {ts us : List Token} {el : Element} → (d : Comp ts us el) → (k : BehindElement) →
      Tracks (want_element k) ts us (have_element el k) (in_comp d) (open_element k)
  over_comp (a_for {at = at} {all = all} d b) k =
      to_alike
      (construct_then refl refl refl (then_part
      (construct_then refl refl refl (then_token (over_args d (of_for at k)) refl refl))
      (over_elem b (for_of at all k))))
      (λ t. refl) (λ us. refl)
  over_comp (a_loop {at = at} {starts = starts} {steps = steps} {e = e} d t s b) k =
      to_alike
      (construct_then refl refl refl (then_part
      (construct_then refl refl refl (then_part (then_token (over_args d (of_for at k)) refl refl)
      (then_part (then_token (outside_is (omega arith) (over_expr t (loop_test at starts k))) refl
      (omega arith))
      (then_token (over_args s (of_steps at starts e k)) refl refl))))
      (over_elem b (loop_of at starts e steps k))))
      (λ t. refl) (λ us. refl)
  over_comp (an_each {at = at} d) k =
      to_alike (construct_then refl refl refl (over_elem d (each_of at k))) (λ t. refl) (λ us. refl)
  over_comp (let_comp {at = at} {all = all} d b) k =
      to_alike
      (construct_then refl refl refl (then_part
      (construct_then refl refl refl (then_token (over_args d (of_let at k)) refl refl))
      (over_comp b (let_body at all k))))
      (λ t. ap (λ (x : Element). after_element x k t) (comp_let b at all)) (λ us. refl)
  over_comp (an_if {at = at} {e = e} {held = held} d b o) k =
      construct_then refl refl refl (then_part
      (construct_then refl refl (omega arith) (then_token (over_expr d (element_test at k)) refl refl))
      (then_part (over_elem b (held_element at e k)) (over_else o k)))

  pub over_else : {at : Place} {e : Expression} {held el : Element} {ts us : List Token} →
      (o : Else at e held ts us el) →
      (k : BehindElement) →
      Tracks (have_element held (held_element at e k)) ts us (have_element el k) (in_else o) (1 + open_element k)
  over_else (no_else {at = at} {e = e} {held = held} {ts = ts} h) k =
      nothing_read _ _ ts (1 + open_element k) (ended_if at e held k ts h)
  over_else (an_else {at = at} {e = e} {held = held} d) k =
      to_alike (construct_then refl refl (omega arith) (over_elem d (other_element at e held k))) (λ t. refl)
      (λ us. refl)
