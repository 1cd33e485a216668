-- Each derivation of the grammar of expressions runs: the reader wants the part before its tokens, and has its tree
-- behind them.
use Rattle.std.proofs.Common.{◌≡◌, ℕ, suc, false, List, ◌∷◌, Some, None, refl, ap, sym, ◌∙◌}
use Rattle.scad_fault.specs.declared.place.Place.{Place}
use Rattle.scad_lex.specs.declared.token.Token.{Token}
use Rattle.scad_ast.specs.declared.operator.UnOp.TheVariants.{Not, Plus as UnaryPlus, Minus as UnaryMinus}
use Rattle.scad_ast.specs.Tree.{Expression, unary, binary, choose, let_in, assert_in, echo_in, Arguments, Elements}
use Rattle.scad_ast.specs.Tree.{no_elements, Element, item, each, for_each, for_loop, let_element, if_else}
use Rattle.scad_lex.specs.declared.token.Sign.TheVariants.{CloseSquare, Comma}
use Rattle.scad_grammar.specs.Tokens.{sign}
use Rattle.scad_grammar.specs.Lists.{with_argument, with_element, let_of}
use Rattle.scad_grammar.specs.Grammar.{Expr, let_expr, assert_expr, echo_expr, test, Choice, no_choice, choice}
use Rattle.scad_grammar.specs.Grammar.{Operand, tightest, line, Links, no_link, link, Unary, not_unary, plus_unary}
use Rattle.scad_grammar.specs.Grammar.{minus_unary, post, Posts, no_post, an_index, a_member, Prim, a_number}
use Rattle.scad_grammar.specs.Grammar.{a_string, a_true, a_false, an_undef, a_name, a_call, a_group, a_range}
use Rattle.scad_grammar.specs.Grammar.{a_vector, RangeEnd, two_parts, three_parts, Args, no_args, unnamed, named}
use Rattle.scad_grammar.specs.Grammar.{MoreArgs, last_arg, comma_arg, Elems, no_elems, elems, MoreElems, last_elem}
use Rattle.scad_grammar.specs.Grammar.{comma_elem, Elem, comp, plain, Comp, a_for, a_loop, an_each, let_comp, an_if}
use Rattle.scad_grammar.specs.Grammar.{Else, no_else, an_else, begins_named}
use Rattle.scad_grammar.specs.Behind.{letting, asserting, echoing, BehindOperand, prefixed, first_of, right_of}
use Rattle.scad_grammar.specs.Behind.{tested, BehindExpression, in_round, in_index, chosen, other, body_of}
use Rattle.scad_grammar.specs.Behind.{argument_of, plain_item, range_second, range_third, loop_test, element_test}
use Rattle.scad_grammar.specs.Behind.{BehindElement, in_vector, each_of, for_of, loop_of, let_body, held_element}
use Rattle.scad_grammar.specs.Behind.{other_element, BehindArguments, of_call, of_keyed, of_for, of_steps, of_let}
use Rattle.scad_grammar.specs.State.{want_expression, have_expression, want_unary, want_operand, have_operand}
use Rattle.scad_grammar.specs.State.{have_post, have_links, in_arguments, after_argument, have_arguments}
use Rattle.scad_grammar.specs.State.{want_element, have_element, in_elements, after_one, have_elements}
use Rattle.scad_grammar.specs.Steps.{prim_step, unary_step, expression_step, element_step, end_arguments}
use Rattle.scad_grammar.specs.Steps.{after_argument_step, arguments_step, after_one_step, member_step, after_element}
use Rattle.scad_grammar.specs.Steps.{after_expression, tested_step, after_operand, post_step, name_step}
use Rattle.scad_grammar.specs.Steps.{word_argument}
use Rattle.scad_grammar.specs.Machine.{step, finish, run}
use Rattle.scad_grammar.proofs.reader.Runs.{settle, ended_links, linked, ended_test, ended_posts, ended_name}
use Rattle.scad_grammar.proofs.reader.Runs.{ended_arguments, ended_argument, ended_if}
use Rattle.scad_grammar.proofs.reader.Openings.{operand_opening, opens_expression, opens_element, opens_elements_expr}
use Rattle.scad_grammar.proofs.reader.Openings.{opens_elements_elem, opens_argument}

else_let : {p : Place} {e : Expression} {held el : Element} {ts us : List Token} → Else p e held ts us el →
    (at : Place) (all : Arguments) → let_of at all el ≡ let_element at all el
else_let (no_else h) at all = refl
else_let (an_else d) at all = refl

-- behind an element no range begins where the elements go on or end
more_elements : {a all : Elements} {ts us : List Token} → MoreElems a ts us all →
    (so_far : Elements) (el : Element) → a ≡ with_element so_far el → (at : Place) (k : BehindOperand) →
    run (have_element el (in_vector at so_far k)) ts ≡ run (after_one at a k) ts
unfolding run step finish after_element member_step after_one_step
more_elements (last_elem {q = q} {ts = ts}) so_far el h at k =
    ap (λ x. run (after_one at x k) (sign CloseSquare q ∷ ts)) (sym h)
more_elements (comma_elem {p = p} {ts = ts} d) so_far el h at k =
    ap (λ x. run (after_one at x k) (sign Comma p ∷ ts)) (sym h)

-- a `let` whose body is a comprehension is an element
pub comp_let : {ts us : List Token} {el : Element} → Comp ts us el → (at : Place) (all : Arguments) →
    let_of at all el ≡ let_element at all el
comp_let (a_for d b) at all = refl
comp_let (a_loop d e s b) at all = refl
comp_let (an_each d) at all = refl
comp_let (let_comp d b) at all = refl
comp_let (an_if d b o) at all = else_let o at all

-- the last step of a `let` among elements
settle_let : (at : Place) (all : Arguments) (el : Element) (k : BehindElement) (ts : List Token) →
    run (have_element el (let_body at all k)) ts ≡ run (have_element (let_of at all el) k) ts
unfolding step finish after_element
settle_let at all el k ts =
    settle (have_element el (let_body at all k)) (have_element (let_of at all el) k) (λ t. refl) refl ts

settle_item : (e : Expression) (k : BehindElement) (ts : List Token) →
    run (have_expression e (plain_item k)) ts ≡ run (have_element (item e) k) ts
unfolding step finish after_expression
settle_item e k ts = settle (have_expression e (plain_item k)) (have_element (item e) k) (λ t. refl) refl ts

mutual
  unfolding run step finish prim_step unary_step expression_step element_step end_arguments after_argument_step
      arguments_step after_one_step member_step after_element after_expression tested_step after_operand
      post_step name_step word_argument

  pub runs_expr : {ts us : List Token} {e : Expression} → Expr ts us e → (k : BehindExpression) →
      run (want_expression k) ts ≡ run (have_expression e k) us
  runs_expr (let_expr {at = at} {vs = vs} {all = all} {e = e} d b) k =
      runs_args d (of_keyed letting at k) ∙ (runs_expr b (body_of letting at all k)
      ∙ settle (have_expression e (body_of letting at all k)) (have_expression (let_in at all e) k) (λ t. refl)
      refl vs)
  runs_expr (assert_expr {at = at} {vs = vs} {all = all} {e = e} d b) k =
      runs_args d (of_keyed asserting at k) ∙ (runs_expr b (body_of asserting at all k)
      ∙ settle (have_expression e (body_of asserting at all k)) (have_expression (assert_in at all e) k)
      (λ t. refl) refl vs)
  runs_expr (echo_expr {at = at} {vs = vs} {all = all} {e = e} d b) k =
      runs_args d (of_keyed echoing at k) ∙ (runs_expr b (body_of echoing at all k)
      ∙ settle (have_expression e (body_of echoing at all k)) (have_expression (echo_in at all e) k) (λ t. refl)
      refl vs)
  runs_expr (test d c) k =
      opens_expression (operand_opening d) k ∙ (runs_operand d (tested k) ∙ runs_choice c k)

  pub runs_choice : {ts us : List Token} {a e : Expression} → Choice a ts us e → (k : BehindExpression) →
      run (have_operand a (tested k)) ts ≡ run (have_expression e k) us
  runs_choice (no_choice {a = a} {ts = ts} h) k = ended_test a k ts h
  runs_choice (choice {at = at} {a = a} {b = b} {c = c} {vs = vs} d e) k =
      runs_expr d (chosen at a k) ∙ (runs_expr e (other at a b k)
      ∙ settle (have_expression c (other at a b k)) (have_expression (choose at a b c) k) (λ t. refl) refl vs)

  pub runs_operand : {n : ℕ} {ts us : List Token} {e : Expression} → Operand n ts us e → (k : BehindOperand) →
      run (want_operand n k) ts ≡ run (have_operand e k) us
  runs_operand (tightest d) k = runs_unary d k
  runs_operand (line {n = n} {us = us} {a = a} d l) k =
      runs_operand d (first_of n k)
      ∙ (settle (have_operand a (first_of n k)) (have_links n 0 a k) (λ t. refl) refl us ∙ runs_links l 0 k)

  pub runs_links : {n : ℕ} {a e : Expression} {ts us : List Token} → Links n a ts us e →
      (count : ℕ) (k : BehindOperand) →
      run (have_links n count a k) ts ≡ run (have_operand e k) us
  runs_links (no_link {n = n} {a = a} {ts = ts} h) count k = ended_links n count a k ts h
  runs_links (link {n = n} {op = op} {a = a} {b = b} {t = t} {ts = ts} {us = us} h d l) count k =
      linked n count op a k t ts h ∙ (runs_operand d (right_of n (suc count) a op t.at k)
      ∙ (settle (have_operand b (right_of n (suc count) a op t.at k))
      (have_links n (suc count) (binary t.at op a b) k) (λ t. refl) refl us
      ∙ runs_links l (suc count) k))

  pub runs_unary : {ts us : List Token} {e : Expression} → Unary ts us e → (k : BehindOperand) →
      run (want_unary k) ts ≡ run (have_operand e k) us
  runs_unary (not_unary {at = at} {us = us} {e = e} d) k =
      runs_unary d (prefixed at Not k)
      ∙ settle (have_operand e (prefixed at Not k)) (have_operand (unary at Not e) k) (λ t. refl) refl us
  runs_unary (plus_unary {at = at} {us = us} {e = e} d) k =
      runs_unary d (prefixed at UnaryPlus k)
      ∙ settle (have_operand e (prefixed at UnaryPlus k)) (have_operand (unary at UnaryPlus e) k) (λ t. refl) refl us
  runs_unary (minus_unary {at = at} {us = us} {e = e} d) k =
      runs_unary d (prefixed at UnaryMinus k)
      ∙ settle (have_operand e (prefixed at UnaryMinus k)) (have_operand (unary at UnaryMinus e) k) (λ t. refl)
      refl us
  runs_unary (post d l) k = runs_prim d k ∙ runs_posts l 0 k

  pub runs_posts : {a e : Expression} {ts us : List Token} → Posts a ts us e → (count : ℕ) (k : BehindOperand) →
      run (have_post count a k) ts ≡ run (have_operand e k) us
  runs_posts (no_post {a = a} {ts = ts} h₁ h₂ h₃) count k = ended_posts count a k ts h₁ h₂ h₃
  runs_posts (an_index {at = at} {a = a} d l) count k = runs_expr d (in_index at a count k)
      ∙ runs_posts l (suc count) k
  runs_posts (a_member l) count k = runs_posts l (suc count) k

  pub runs_prim : {ts us : List Token} {e : Expression} → Prim ts us e → (k : BehindOperand) →
      run (want_unary k) ts ≡ run (have_post 0 e k) us
  runs_prim a_number k = refl
  runs_prim a_string k = refl
  runs_prim a_true k = refl
  runs_prim a_false k = refl
  runs_prim an_undef k = refl
  runs_prim (a_name {at = at} {w = w} {ts = ts} h) k = ended_name at w k ts h
  runs_prim (a_call {at = at} {w = w} d) k = runs_args d (of_call at w k)
  runs_prim (a_group d) k = runs_expr d (in_round k)
  runs_prim (a_range {at = at} {a = a} d e r) k =
      opens_elements_expr d at no_elements k ∙ (runs_item d (in_vector at no_elements k)
      ∙ (runs_expr e (range_second at a k) ∙ runs_range r k))
  runs_prim (a_vector {at = at} d) k = runs_elems d at k

  pub runs_range : {at : Place} {a b e : Expression} {ts us : List Token} → RangeEnd at a b ts us e →
      (k : BehindOperand) →
      run (have_expression b (range_second at a k)) ts ≡ run (have_post 0 e k) us
  runs_range two_parts k = refl
  runs_range (three_parts {at = at} {a = a} {b = b} d) k = runs_expr d (range_third at a b k)

  pub runs_args : {a all : Arguments} {ts us : List Token} → Args a ts us all → (k : BehindArguments) →
      run (in_arguments a k) ts ≡ run (have_arguments all k) us
  runs_args (no_args {all = all} {ts = ts} h) k = ended_arguments all k ts h
  runs_args (unnamed {a = a} {e = e} {us = us} h d m) k =
      runs_unnamed d h a k
      ∙ (settle (have_expression e (argument_of None a k)) (after_argument (with_argument a None e) k)
      (λ t. refl) refl us
      ∙ runs_more_args m k)
  runs_args (named {w = w} {a = a} {e = e} {us = us} d m) k =
      runs_expr d (argument_of (Some w) a k)
      ∙ (settle (have_expression e (argument_of (Some w) a k)) (after_argument (with_argument a (Some w) e) k)
      (λ t. refl) refl us
      ∙ runs_more_args m k)

  -- an expression where an argument may begin
  pub runs_unnamed : {ts us : List Token} {e : Expression} → Expr ts us e → begins_named ts ≡ false →
      (a : Arguments) (k : BehindArguments) →
      run (in_arguments a k) ts ≡ run (have_expression e (argument_of None a k)) us
  runs_unnamed (let_expr {at = at} {vs = vs} {all = all} {e = e} d b) h a k =
      runs_args d (of_keyed letting at (argument_of None a k))
      ∙ (runs_expr b (body_of letting at all (argument_of None a k))
      ∙ settle (have_expression e (body_of letting at all (argument_of None a k)))
      (have_expression (let_in at all e) (argument_of None a k)) (λ t. refl) refl vs)
  runs_unnamed (assert_expr {at = at} {vs = vs} {all = all} {e = e} d b) h a k =
      runs_args d (of_keyed asserting at (argument_of None a k))
      ∙ (runs_expr b (body_of asserting at all (argument_of None a k))
      ∙ settle (have_expression e (body_of asserting at all (argument_of None a k)))
      (have_expression (assert_in at all e) (argument_of None a k)) (λ t. refl) refl vs)
  runs_unnamed (echo_expr {at = at} {vs = vs} {all = all} {e = e} d b) h a k =
      runs_args d (of_keyed echoing at (argument_of None a k))
      ∙ (runs_expr b (body_of echoing at all (argument_of None a k))
      ∙ settle (have_expression e (body_of echoing at all (argument_of None a k)))
      (have_expression (echo_in at all e) (argument_of None a k)) (λ t. refl) refl vs)
  runs_unnamed (test d c) h a k =
      opens_argument (operand_opening d) h a k
      ∙ (runs_operand d (tested (argument_of None a k)) ∙ runs_choice c (argument_of None a k))

  pub runs_more_args : {a all : Arguments} {ts us : List Token} → MoreArgs a ts us all → (k : BehindArguments) →
      run (after_argument a k) ts ≡ run (have_arguments all k) us
  runs_more_args (last_arg {all = all} {ts = ts} h) k = ended_argument all k ts h
  runs_more_args (comma_arg d) k = runs_args d k

  pub runs_elems : {a all : Elements} {ts us : List Token} → Elems a ts us all → (at : Place) (k : BehindOperand) →
      run (in_elements at a k) ts ≡ run (have_elements at all k) us
  runs_elems no_elems at k = refl
  runs_elems (elems {a = a} {el = el} d m) at k =
      opens_elements_elem d at a k ∙ (runs_elem d (in_vector at a k)
      ∙ (more_elements m a el refl at k ∙ runs_more_elems m at k))

  pub runs_more_elems : {a all : Elements} {ts us : List Token} → MoreElems a ts us all →
      (at : Place) (k : BehindOperand) →
      run (after_one at a k) ts ≡ run (have_elements at all k) us
  runs_more_elems last_elem at k = refl
  runs_more_elems (comma_elem d) at k = runs_elems d at k

  pub runs_elem : {ts us : List Token} {el : Element} → Elem ts us el → (k : BehindElement) →
      run (want_element k) ts ≡ run (have_element el k) us
  runs_elem (comp d) k = runs_comp d k
  runs_elem (plain d) k = runs_item d k

  -- an expression where an element may begin
  pub runs_item : {ts us : List Token} {e : Expression} → Expr ts us e → (k : BehindElement) →
      run (want_element k) ts ≡ run (have_element (item e) k) us
  runs_item (let_expr {at = at} {vs = vs} {all = all} {e = e} d b) k =
      runs_args d (of_let at k) ∙ (runs_item b (let_body at all k) ∙ settle_let at all (item e) k vs)
  runs_item (assert_expr {at = at} {vs = vs} {all = all} {e = e} d b) k =
      runs_args d (of_keyed asserting at (plain_item k)) ∙ (runs_expr b (body_of asserting at all (plain_item k))
      ∙ settle (have_expression e (body_of asserting at all (plain_item k)))
      (have_element (item (assert_in at all e)) k) (λ t. refl) refl vs)
  runs_item (echo_expr {at = at} {vs = vs} {all = all} {e = e} d b) k =
      runs_args d (of_keyed echoing at (plain_item k)) ∙ (runs_expr b (body_of echoing at all (plain_item k))
      ∙ settle (have_expression e (body_of echoing at all (plain_item k)))
      (have_element (item (echo_in at all e)) k) (λ t. refl) refl vs)
  runs_item (test {vs = vs} {e = e} d c) k =
      opens_element (operand_opening d) k
      ∙ (runs_operand d (tested (plain_item k)) ∙ (runs_choice c (plain_item k) ∙ settle_item e k vs))

  pub runs_comp : {ts us : List Token} {el : Element} → Comp ts us el → (k : BehindElement) →
      run (want_element k) ts ≡ run (have_element el k) us
  runs_comp (a_for {at = at} {all = all} {el = el} {vs = vs} d b) k =
      runs_args d (of_for at k) ∙ (runs_elem b (for_of at all k)
      ∙ settle (have_element el (for_of at all k)) (have_element (for_each at all el) k) (λ t. refl) refl vs)
  runs_comp (a_loop {at = at} {starts = starts} {steps = steps} {e = e} {el = el} {xs = xs} d t s b) k =
      runs_args d (of_for at k) ∙ (runs_expr t (loop_test at starts k)
      ∙ (runs_args s (of_steps at starts e k) ∙ (runs_elem b (loop_of at starts e steps k)
      ∙ settle (have_element el (loop_of at starts e steps k)) (have_element (for_loop at starts e steps el) k)
      (λ t. refl) refl xs)))
  runs_comp (an_each {at = at} {el = el} {us = us} d) k =
      runs_elem d (each_of at k)
      ∙ settle (have_element el (each_of at k)) (have_element (each at el) k) (λ t. refl) refl us
  runs_comp (let_comp {at = at} {all = all} {el = el} {vs = vs} d b) k =
      runs_args d (of_let at k) ∙ (runs_comp b (let_body at all k)
      ∙ (settle_let at all el k vs ∙ ap (λ x. run (have_element x k) vs) (comp_let b at all)))
  runs_comp (an_if {at = at} {e = e} {held = held} d b o) k =
      runs_expr d (element_test at k) ∙ (runs_elem b (held_element at e k) ∙ runs_else o k)

  pub runs_else : {at : Place} {e : Expression} {held el : Element} {ts us : List Token} → Else at e held ts us el →
      (k : BehindElement) → run (have_element held (held_element at e k)) ts ≡ run (have_element el k) us
  runs_else (no_else {at = at} {e = e} {held = held} {ts = ts} h) k = ended_if at e held k ts h
  runs_else (an_else {at = at} {e = e} {held = held} {other = o} {us = us} d) k =
      runs_elem d (other_element at e held k)
      ∙ settle (have_element o (other_element at e held k)) (have_element (if_else at e held o) k) (λ t. refl) refl us
