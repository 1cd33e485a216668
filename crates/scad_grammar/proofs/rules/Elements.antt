-- The rules of vectors, ranges and elements give the reader's outcome, and so do all rules of expressions.
use Rattle.std.proofs.Common.{◌≡◌, ℕ, zero, suc, ◌+◌, ◌<◌, ◌≤◌, List, [], ◌∷◌, Option, Some, None, Result, Ok, Err}
use Rattle.std.proofs.Common.{length, refl, ap, sym, ◌∙◌, arith}
use Rattle.scad_fault.specs.declared.place.Place.{Place}
use Rattle.scad_lex.specs.declared.token.Token.{Token}
use Rattle.scad_lex.specs.declared.token.Sign.TheVariants.{OpenRound, CloseRound, CloseSquare, Semicolon, Comma}
use Rattle.scad_lex.specs.declared.token.Sign.TheVariants.{Colon}
use Rattle.scad_lex.specs.declared.token.Key.TheVariants.{If, Else, For, Let, Each}
use Rattle.scad_ast.specs.Tree.{Expression, vector, range, stepped, index, Arguments, no_arguments, Elements}
use Rattle.scad_ast.specs.Tree.{no_elements, Element, item, each, for_each, for_loop, if_element, if_else, Items}
use Rattle.scad_grammar.specs.Tokens.{is_sign, is_key}
use Rattle.scad_grammar.specs.Lists.{with_element, let_of}
use Rattle.scad_grammar.specs.Behind.{BehindOperand, in_index, plain_item, range_second, range_third, loop_test}
use Rattle.scad_grammar.specs.Behind.{element_test, BehindElement, in_vector, each_of, for_of, loop_of, let_body}
use Rattle.scad_grammar.specs.Behind.{held_element, other_element, of_for, of_steps, of_let, open_operand}
use Rattle.scad_grammar.specs.Behind.{open_element}
use Rattle.scad_grammar.specs.State.{State, open_count, want_expression, have_expression, have_post, want_arguments}
use Rattle.scad_grammar.specs.State.{in_arguments, have_arguments, want_element, have_element, want_test, in_elements}
use Rattle.scad_grammar.specs.Move.{go, stuck}
use Rattle.scad_grammar.specs.Steps.{only, element_step, end_arguments, after_expression, after_element, member_step}
use Rattle.scad_grammar.specs.Steps.{after_one_step, range_step, range_start}
use Rattle.scad_grammar.specs.Machine.{step, finish, Refusal, syntax_at, most_open, outcome}
use Rattle.scad_grammar.specs.Rules.{Read, then_read, Head, for_all, for_steps, headed, Rules, deeper, expr_to}
use Rattle.scad_grammar.specs.Rules.{expr_of, args_of, args_closed_of, in_round_of, range_end, range_by}
use Rattle.scad_grammar.specs.Rules.{more_elements, else_of, elem_of, elements_of, head_end, for_head_of}
use Rattle.scad_grammar.specs.Rules.{for_behind_of, above, rules}
use Rattle.scad_grammar.proofs.rules.Turns.{follow, answered, by_outcome, goes, goes_nowhere, ends_none, if_gives}
use Rattle.scad_grammar.proofs.rules.Turns.{then_gives, settle}
use Rattle.scad_grammar.proofs.rules.Fewer.{BelowFewer}
use Rattle.scad_grammar.proofs.rules.FewerElements.{elem_leaves, rules_fewer}
use Rattle.scad_grammar.proofs.rules.Outcome.{Linked, Below, deeper_gives, behind_head}
use Rattle.scad_grammar.proofs.rules.Operands.{expr_to_gives, over_expr, over_operand, over_links, over_unary}
use Rattle.scad_grammar.proofs.rules.Operands.{over_posts}
use Rattle.scad_grammar.proofs.rules.Arguments.{then_gives_on, over_args, over_closed}

module _ (end : Place) (n : ℕ) (below : Option Rules) (linked : Below end n below) (few : BelowFewer below) where
  -- `(` and what stands behind it
  in_round_gives : {A : Type 0} (s next : State) (f : Rules → List Token → Read A)
      (then : A → List Token → Result Items Refusal) (ts : List Token) →
      finish s ≡ None → ((t : Token) → step s t ≡ only (is_sign OpenRound t) next) → open_count s + n ≡ most_open →
      open_count next ≡ 1 + open_count s →
      ((m : ℕ) (r : Rules) → Linked end m r → (1 + open_count s) + m ≡ most_open → (us : List Token) →
      outcome next us end ≡ follow (f r us) then) →
      outcome s ts end ≡ follow (in_round_of end below f ts) then
  in_round_gives s next f then [] none enters room opens inside = ends_none s end none
  in_round_gives s next f then (t ∷ ts) none enters room opens inside =
      by_outcome s t ts end ∙ (ap (answered end t.at ts) (enters t)
      ∙ if_gives (is_sign OpenRound t) (go next) stuck (deeper below t.at (λ r. f r ts))
      (Err (syntax_at t.at)) then end t.at ts
      (deeper_gives end n below linked next t.at ts (λ r. f r ts) then (open_count s) room opens
      (λ m r l fits. inside m r l fits ts))
      (goes_nowhere t.at ts end))

  over_range_end : (at : Place) (a b : Expression) (ts : List Token) (k : BehindOperand) →
      (1 + open_operand k) + n ≡ most_open →
      outcome (have_expression b (range_second at a k)) ts end ≡ follow (range_end end below at a b ts)
      (λ e us. outcome (have_post 0 e k) us end)
  unfolding step finish after_expression
  over_range_end at a b [] k room = ends_none (have_expression b (range_second at a k)) end refl
  over_range_end at a b (t ∷ ts) k room =
      by_outcome (have_expression b (range_second at a k)) t ts end
      ∙ if_gives (is_sign Colon t) _ _ _ _ _ end t.at ts
      (goes (want_expression (range_third at a b k)) t.at ts end (omega (arith, room))
      ∙ then_gives _ (expr_to end CloseSquare (expr_of end below) ts) (λ c us. Ok (stepped at a b c, us))
      (λ c us. outcome (have_post 0 (stepped at a b c) k) us end) _
      (expr_to_gives end CloseSquare (expr_of end below) ts (range_third at a b k)
      (λ c. have_post 0 (stepped at a b c) k)
      (over_expr end n below linked ts (range_third at a b k) room) (λ e t. refl) (λ e. omega (arith, room)))
      (λ c us. refl))
      (if_gives (is_sign CloseSquare t) (go (have_post 0 (range at a b) k)) stuck (Ok (range at a b, ts))
      (Err (syntax_at t.at)) _ end t.at ts
      (goes (have_post 0 (range at a b) k) t.at ts end (omega (arith, room))) (goes_nowhere t.at ts end))

  range_gives : (at colon : Place) (o : Option Expression) (ts : List Token) (k : BehindOperand) →
      (1 + open_operand k) + n ≡ most_open →
      answered end colon ts (range_step at o k) ≡ follow (range_by end below at colon o ts)
      (λ e us. outcome (have_post 0 e k) us end)
  range_gives at colon (Some a) ts k room =
      goes (want_expression (range_second at a k)) colon ts end (omega (arith, room))
      ∙ then_gives _ (expr_of end below ts) (range_end end below at a)
      (λ b us. outcome (have_expression b (range_second at a k)) us end) _
      (over_expr end n below linked ts (range_second at a k) room) (λ b us. over_range_end at a b us k room)
  range_gives at colon None ts k room = goes_nowhere colon ts end

  more_gives : (at : Place) (all : Elements) (el : Element) (us : List Token) (k : BehindOperand)
      (go_on : List Token → Read Expression) →
      (1 + open_operand k) + n ≡ most_open →
      ((vs : List Token) → length vs < length us →
      outcome (in_elements at (with_element all el) k) vs end
      ≡ follow (go_on vs) (λ e ws. outcome (have_post 0 e k) ws end)) →
      outcome (have_element el (in_vector at all k)) us end ≡ follow (more_elements end below go_on at all el us)
      (λ e ws. outcome (have_post 0 e k) ws end)
  unfolding step finish after_element member_step after_one_step
  more_gives at all el [] k go_on room later = ends_none (have_element el (in_vector at all k)) end refl
  more_gives at all el (t ∷ us) k go_on room later =
      by_outcome (have_element el (in_vector at all k)) t us end
      ∙ if_gives (is_sign Colon t) _ _ _ _ _ end t.at us (range_gives at t.at (range_start all el) us k room)
      (if_gives (is_sign Comma t) _ _ _ _ _ end t.at us
      (goes (in_elements at (with_element all el) k) t.at us end (omega (arith, room)) ∙ later us (omega arith))
      (if_gives (is_sign CloseSquare t) (go (have_post 0 (vector at (with_element all el)) k)) stuck
      (Ok (vector at (with_element all el), us)) (Err (syntax_at t.at)) _ end t.at us
      (goes (have_post 0 (vector at (with_element all el)) k) t.at us end (omega (arith, room)))
      (goes_nowhere t.at us end)))

  over_else : (at : Place) (e : Expression) (held : Element) (ts : List Token) (k : BehindElement) →
      (1 + open_element k) + n ≡ most_open →
      outcome (have_element held (held_element at e k)) ts end ≡ follow (else_of below at e held ts)
      (λ el us. outcome (have_element el k) us end)
  unfolding step finish after_element outcome
  over_else at e held [] k room = refl
  over_else at e held (t ∷ ts) k room =
      by_outcome (have_element held (held_element at e k)) t ts end
      ∙ if_gives (is_key Else t) _ _ _ _ _ end t.at ts
      (deeper_gives end n below linked (want_element (other_element at e held k)) t.at ts
      (λ r. then_read (r.elem ts) (λ o us. Ok (if_else at e held o, us)))
      (λ el us. outcome (have_element el k) us end) (1 + open_element k) room (omega arith)
      (λ m r l fits. then_gives _ (r.elem ts) (λ o us. Ok (if_else at e held o, us))
      (λ o us. outcome (have_element o (other_element at e held k)) us end) _
      (l.elem ts (other_element at e held k) (omega (arith, fits)))
      (λ o us. settle (have_element o (other_element at e held k)) (have_element (if_else at e held o) k)
      (λ t. refl) refl us end)))
      (sym (by_outcome (have_element (if_element at e held) k) t ts end))

  over_elem : (ts : List Token) (k : BehindElement) → open_element k + n ≡ most_open →
      outcome (want_element k) ts end ≡ follow (elem_of end below ts) (λ el us. outcome (have_element el k) us end)
  unfolding step element_step elem_of finish after_element after_expression end_arguments
  over_elem [] k room = ends_none (want_element k) end refl
  over_elem (t ∷ ts) k room =
      by_outcome (want_element k) t ts end
      ∙ if_gives (is_key For t) _ _ _ _ _ end t.at ts
      (deeper_gives end n below linked (want_arguments (of_for t.at k)) t.at ts (λ r. r.for_behind t.at ts)
      (λ el us. outcome (have_element el k) us end)
      (open_element k) room refl (λ m r l fits. l.for_behind t.at ts k fits))
      (if_gives (is_key Each t) _ _ _ _ _ end t.at ts
      (deeper_gives end n below linked (want_element (each_of t.at k)) t.at ts
      (λ r. then_read (r.elem ts) (λ el us. Ok (each t.at el, us)))
      (λ el us. outcome (have_element el k) us end) (open_element k) room refl
      (λ m r l fits. then_gives _ (r.elem ts) (λ el us. Ok (each t.at el, us))
      (λ el us. outcome (have_element el (each_of t.at k)) us end) _
      (l.elem ts (each_of t.at k) fits)
      (λ el us. settle (have_element el (each_of t.at k)) (have_element (each t.at el) k)
      (λ t. refl) refl us end)))
      (if_gives (is_key If t) _ _ _ _ _ end t.at ts
      (deeper_gives end n below linked (want_test t.at k) t.at ts
      (λ r. then_read (r.round_expr ts) (λ e us. then_read (r.elem us) (r.else_end t.at e)))
      (λ el us. outcome (have_element el k) us end) (open_element k) room refl
      (λ m r l fits. then_gives _ (r.round_expr ts) _
      (λ e us. outcome (want_element (held_element t.at e k)) us end) _
      (l.round_expr ts (want_test t.at k) (element_test t.at k)
      (λ e. want_element (held_element t.at e k)) refl (λ t. refl) (λ e t. refl)
      (λ e. omega (arith, fits)) (omega arith) fits)
      (λ e us. then_gives _ (r.elem us) (r.else_end t.at e)
      (λ held vs. outcome (have_element held (held_element t.at e k)) vs end) _
      (l.elem us (held_element t.at e k) fits) (λ held vs. l.else_end t.at e held vs k fits))))
      (if_gives (is_key Let t) _ _ _ _ _ end t.at ts
      (deeper_gives end n below linked (want_arguments (of_let t.at k)) t.at ts
      (λ r. then_read (r.round_args ts) (λ all us. then_read (r.elem us) (λ el vs. Ok (let_of t.at all el, vs))))
      (λ el us. outcome (have_element el k) us end)
      (open_element k) room refl
      (λ m r l fits. then_gives _ (r.round_args ts) _
      (λ all us. outcome (want_element (let_body t.at all k)) us end) _
      (l.round_args ts (of_let t.at k) (λ all. want_element (let_body t.at all k)) (λ all t. refl)
      (λ all. omega (arith, fits)) fits)
      (λ all us. then_gives _ (r.elem us) (λ el vs. Ok (let_of t.at all el, vs))
      (λ el vs. outcome (have_element el (let_body t.at all k)) vs end) _
      (l.elem us (let_body t.at all k) fits)
      (λ el vs. settle (have_element el (let_body t.at all k)) (have_element (let_of t.at all el) k)
      (λ t. refl) refl vs end))))
      (sym (by_outcome (want_expression (plain_item k)) t ts end)
      ∙ then_gives _ (expr_of end below (t ∷ ts)) (λ e us. Ok (item e, us))
      (λ e us. outcome (have_expression e (plain_item k)) us end) _
      (over_expr end n below linked (t ∷ ts) (plain_item k) room)
      (λ e us. settle (have_expression e (plain_item k)) (have_element (item e) k) (λ t. refl) refl us end)))))

  over_elements : (turns : ℕ) (at : Place) (k : BehindOperand) → (1 + open_operand k) + n ≡ most_open →
      (all : Elements) (ts : List Token) → length ts ≤ turns →
      outcome (in_elements at all k) ts end ≡ follow (elements_of end below turns at all ts)
      (λ e us. outcome (have_post 0 e k) us end)
  unfolding step finish elements_of
  over_elements zero at k room all [] long = ends_none (in_elements at all k) end refl
  over_elements (suc turns) at k room all [] long = ends_none (in_elements at all k) end refl
  over_elements zero at k room all (t ∷ ts) long = absurd (omega arith)
  over_elements (suc turns) at k room all (t ∷ ts) long =
      let later = over_elements turns at k room in
      by_outcome (in_elements at all k) t ts end
      ∙ if_gives (is_sign CloseSquare t) _ _ _ _ _ end t.at ts
      (goes (have_post 0 (vector at all) k) t.at ts end (omega (arith, room)))
      (sym (by_outcome (want_element (in_vector at all k)) t ts end)
      ∙ then_gives_on (suc (length ts)) _ (elem_of end below (t ∷ ts)) _
      (λ el us. outcome (have_element el (in_vector at all k)) us end) _
      (elem_leaves end below few (t ∷ ts)) (over_elem (t ∷ ts) (in_vector at all k) room)
      (λ el us h. more_gives at all el us k _ room
      (λ vs g. later (with_element all el) vs (omega (arith, long, h, g)))))

  over_head_end : (at : Place) (all : Arguments) (ts : List Token) (k : BehindElement) →
      (2 + open_element k) + n ≡ most_open →
      outcome (have_arguments all (of_for at k)) ts end
      ≡ follow (head_end end below all ts) (λ head us. outcome (want_element (behind_head at head k)) us end)
  unfolding step finish end_arguments after_expression
  over_head_end at all [] k room = ends_none (have_arguments all (of_for at k)) end refl
  over_head_end at all (t ∷ ts) k room =
      by_outcome (have_arguments all (of_for at k)) t ts end
      ∙ if_gives (is_sign CloseRound t) _ _ _ _ _ end t.at ts
      (goes (want_element (for_of at all k)) t.at ts end (omega (arith, room)))
      (if_gives (is_sign Semicolon t) (go (want_expression (loop_test at all k))) stuck _
      (Err (syntax_at t.at)) _ end t.at ts
      (goes (want_expression (loop_test at all k)) t.at ts end (omega (arith, room))
      ∙ then_gives _ (expr_to end Semicolon (expr_of end below) ts) _
      (λ e us. outcome (in_arguments no_arguments (of_steps at all e k)) us end) _
      (expr_to_gives end Semicolon (expr_of end below) ts (loop_test at all k)
      (λ e. in_arguments no_arguments (of_steps at all e k))
      (over_expr end n below linked ts (loop_test at all k) room) (λ e t. refl) (λ e. omega (arith, room)))
      (λ e us. then_gives _ (args_closed_of end below us) (λ last vs. Ok (for_steps all e last, vs))
      (λ last vs. outcome (want_element (loop_of at all e last k)) vs end) _
      (over_closed end n below linked few us (of_steps at all e k)
      (λ last. want_element (loop_of at all e last k)) (λ last t. refl)
      (λ last. omega (arith, room)) (omega (arith, room)))
      (λ last vs. refl)))
      (goes_nowhere t.at ts end))

  over_for_head : (at : Place) (ts : List Token) (k : BehindElement) → (2 + open_element k) + n ≡ most_open →
      outcome (in_arguments no_arguments (of_for at k)) ts end
      ≡ follow (for_head_of end below ts) (λ head us. outcome (want_element (behind_head at head k)) us end)
  over_for_head at ts k room =
      then_gives _ (args_of end below (length ts) no_arguments ts) (head_end end below)
      (λ all us. outcome (have_arguments all (of_for at k)) us end) _
      (over_args end n below linked few (length ts) (of_for at k) (omega (arith, room)) no_arguments ts (omega arith))
      (λ all us. over_head_end at all us k room)

  open_head : (at : Place) (head : Head) (k : BehindElement) →
      open_element (behind_head at head k) ≡ 1 + open_element k
  open_head at (for_all all) k = refl
  open_head at (for_steps starts e all) k = refl

  headed_done : (at : Place) (head : Head) (el : Element) (us : List Token) (k : BehindElement) →
      outcome (have_element el (behind_head at head k)) us end ≡ outcome (have_element (headed at head el) k) us end
  unfolding step finish after_element
  headed_done at (for_all all) el us k =
      settle (have_element el (for_of at all k)) (have_element (for_each at all el) k) (λ t. refl) refl us end
  headed_done at (for_steps starts e all) el us k =
      settle (have_element el (loop_of at starts e all k)) (have_element (for_loop at starts e all el) k)
      (λ t. refl) refl us end

  over_for : (at : Place) (ts : List Token) (k : BehindElement) → (1 + open_element k) + n ≡ most_open →
      outcome (want_arguments (of_for at k)) ts end ≡ follow (for_behind_of end below at ts)
      (λ el us. outcome (have_element el k) us end)
  unfolding step finish
  over_for at ts k room =
      then_gives _ (in_round_of end below (λ r us. r.for_head us) ts) _
      (λ head us. outcome (want_element (behind_head at head k)) us end) _
      (in_round_gives (want_arguments (of_for at k)) (in_arguments no_arguments (of_for at k))
      (λ r us. r.for_head us) _ ts refl (λ t. refl) room refl
      (λ m r l fits us. l.for_head at us k (omega (arith, fits))))
      (λ head us. then_gives _ (elem_of end below us) (λ el vs. Ok (headed at head el, vs))
      (λ el vs. outcome (have_element el (behind_head at head k)) vs end) _
      (over_elem us (behind_head at head k) (omega (arith, room, open_head at head k)))
      (λ el vs. headed_done at head el vs k))

  above_linked : Linked end n (above end below)
  unfolding step finish after_expression
  above_linked = record {
    expr = over_expr end n below linked;
    operand = over_operand end n below linked;
    links = over_links end n below linked;
    unary_rule = over_unary end n below linked;
    posts = over_posts end n below linked;
    indexed = λ at e count ts k room.
        deeper_gives end n below linked (want_expression (in_index at e count k)) at ts
        (λ r. expr_to end CloseSquare r.expr ts) _
        (1 + (count + open_operand k)) room (omega arith)
        (λ m r l fits. expr_to_gives end CloseSquare r.expr ts (in_index at e count k)
        (λ i. have_post (suc count) (index at e i) k)
        (l.expr ts (in_index at e count k) (omega (arith, fits))) (λ i t. refl) (λ i. omega (arith, room)));
    brackets = λ at ts k room. over_elements (length ts) at k room no_elements ts (omega arith);
    args_closed = over_closed end n below linked few;
    round_args = λ ts k next closes fits room.
        in_round_gives (want_arguments k) (in_arguments no_arguments k) (λ r us. r.args_closed us) _ ts refl
        (λ t. refl) room refl
        (λ m r l more us. l.args_closed us k next closes fits more);
    round_expr = λ ts s k next none enters closes fits opens room.
        in_round_gives s (want_expression k) (λ r us. expr_to end CloseRound r.expr us) _ ts none enters room opens
        (λ m r l more us. expr_to_gives end CloseRound r.expr us k next
        (l.expr us k (omega (arith, more, opens))) closes fits);
    elem = over_elem;
    for_head = over_for_head;
    for_behind = over_for;
    else_end = over_else;
  }

-- the rules of expressions give the reader's outcome
pub rules_linked : (end : Place) (n : ℕ) → Linked end n (rules end n)
rules_linked end zero = above_linked end zero None tt tt
rules_linked end (suc n) = above_linked end (suc n) (Some (rules end n)) (rules_linked end n) (rules_fewer end n)
