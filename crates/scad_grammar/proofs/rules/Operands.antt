-- The rules from an expression down to what stands alone give the reader's outcome.
use Rattle.std.proofs.Common.{◌≡◌, ℕ, zero, suc, ◌+◌, ◌≤◌, List, [], ◌∷◌, Option, Some, None, Ok, refl, sym, ◌∙◌}
use Rattle.std.proofs.Common.{arith}
use Rattle.std.specs.Prelude.{codes}
use Rattle.scad_fault.specs.declared.place.Place.{Place}
use Rattle.scad_lex.specs.declared.token.Token.{Token}
use Rattle.scad_lex.specs.declared.token.Sign.{Sign as SignName}
use Rattle.scad_lex.specs.declared.token.Sign.TheVariants.{OpenRound, CloseRound, OpenSquare, Colon, Question, Plus}
use Rattle.scad_lex.specs.declared.token.Sign.TheVariants.{Minus, Caret, Bang, Dot}
use Rattle.scad_lex.specs.declared.token.Key.TheVariants.{Function, Let, Assert, Echo}
use Rattle.scad_ast.specs.declared.operator.UnOp.{UnOp}
use Rattle.scad_ast.specs.declared.operator.UnOp.TheVariants.{Not, Plus as UnaryPlus, Minus as UnaryMinus}
use Rattle.scad_ast.specs.declared.operator.BinOp.{BinOp}
use Rattle.scad_ast.specs.Tree.{Expression, name, unary, binary, choose, index, member, call, no_arguments}
use Rattle.scad_ast.specs.Tree.{no_elements}
use Rattle.scad_grammar.specs.Tokens.{is_sign, is_key, word_of, operator}
use Rattle.scad_grammar.specs.Behind.{Keyed, letting, asserting, echoing, keyed_tree, BehindOperand, prefixed}
use Rattle.scad_grammar.specs.Behind.{first_of, right_of, tested, BehindExpression, in_round, in_index, chosen, other}
use Rattle.scad_grammar.specs.Behind.{body_of, of_call, of_keyed, open_operand, open_expression}
use Rattle.scad_grammar.specs.State.{State, open_count, want_expression, have_expression, want_unary, want_operand}
use Rattle.scad_grammar.specs.State.{have_operand, have_links, have_post, have_name, want_member, want_arguments}
use Rattle.scad_grammar.specs.State.{in_arguments, in_elements, opened}
use Rattle.scad_grammar.specs.Move.{go}
use Rattle.scad_grammar.specs.Steps.{only, literal, literal_step, word_step, prim_step, unary_step, expression_step}
use Rattle.scad_grammar.specs.Steps.{end_arguments, after_expression, tested_step, link_step, after_operand}
use Rattle.scad_grammar.specs.Steps.{post_step, name_step, member_name}
use Rattle.scad_grammar.specs.Machine.{step, finish, most_open, outcome}
use Rattle.scad_grammar.specs.Rules.{Read, then_read, behind_sign, Rules, deeper, expr_to, call_or_name, word_rule}
use Rattle.scad_grammar.specs.Rules.{literal_rule, prim_of, member_by, member_of, posts_of, prefixed_of, unary_of}
use Rattle.scad_grammar.specs.Rules.{link_of, links_of, operand_of, choice_of, keyed_of, expr_of}
use Rattle.scad_grammar.proofs.rules.Turns.{follow, answered, by_outcome, goes, too_deep, goes_nowhere, leaves_out}
use Rattle.scad_grammar.proofs.rules.Turns.{ends_none, if_gives, then_gives, sign_gives, settle}
use Rattle.scad_grammar.proofs.rules.Outcome.{Linked, Below, deeper_gives}

-- expr, and a sign behind it
pub expr_to_gives : (end : Place) (s : SignName) (expr : List Token → Read Expression) (ts : List Token)
    (k : BehindExpression)
    (to : Expression → State) →
    outcome (want_expression k) ts end ≡ follow (expr ts) (λ e us. outcome (have_expression e k) us end) →
    ((e : Expression) (t : Token) → after_expression e k t ≡ only (is_sign s t) (to e)) →
    ((e : Expression) → open_count (to e) ≤ most_open) →
    outcome (want_expression k) ts end ≡ follow (expr_to end s expr ts) (λ e us. outcome (to e) us end)
unfolding step finish
expr_to_gives end s expr ts k to linked closes few =
    then_gives (outcome (want_expression k) ts end) (expr ts) (λ e us. behind_sign end s us (λ vs. Ok (e, vs)))
    (λ e us. outcome (have_expression e k) us end) (λ e us. outcome (to e) us end) linked
    (λ e us. sign_gives s (have_expression e k) (to e) us (λ vs. Ok (e, vs)) (λ x vs. outcome (to x) vs end) end refl
    (closes e) (few e) (λ vs. refl))

module _ (end : Place) (n : ℕ) (below : Option Rules) (linked : Below end n below) where
  over_name : (at : Place) (w : List ℕ) (ts : List Token) (k : BehindOperand) → open_operand k + n ≡ most_open →
      outcome (have_name at w k) ts end ≡ follow (call_or_name below at w ts)
      (λ e us. outcome (have_post 0 e k) us end)
  unfolding step name_step end_arguments outcome finish
  over_name at w [] k room = refl
  over_name at w (t ∷ ts) k room =
      by_outcome (have_name at w k) t ts end
      ∙ if_gives (is_sign OpenRound t) (go (in_arguments no_arguments (of_call at w k))) (post_step 0 (name at w) k t)
      (deeper below t.at (λ r. then_read (r.args_closed ts) (λ all us. Ok (call at w all, us))))
      (Ok (name at w, t ∷ ts))
      (λ e us. outcome (have_post 0 e k) us end) end t.at ts
      (deeper_gives end n below linked (in_arguments no_arguments (of_call at w k)) t.at ts
      (λ r. then_read (r.args_closed ts) (λ all us. Ok (call at w all, us)))
      (λ e us. outcome (have_post 0 e k) us end)
      (open_operand k) room refl
      (λ m r l fits. then_gives _ (r.args_closed ts) (λ all us. Ok (call at w all, us))
      (λ all us. outcome (have_post 0 (call at w all) k) us end) _
      (l.args_closed ts (of_call at w k) (λ all. have_post 0 (call at w all) k) (λ all t. refl)
      (λ all. omega (arith, room)) fits)
      (λ all us. refl)))
      (sym (by_outcome (have_post 0 (name at w) k) t ts end))

  word_gives : (t : Token) (o : Option (List ℕ)) (ts : List Token) (k : BehindOperand) →
      open_operand k + n ≡ most_open →
      answered end t.at ts (word_step t o k) ≡ follow (word_rule below t o ts)
      (λ e us. outcome (have_post 0 e k) us end)
  word_gives t (Some w) ts k room = goes (have_name t.at w k) t.at ts end (omega (arith, room))
      ∙ over_name t.at w ts k room
  word_gives t None ts k room = goes_nowhere t.at ts end

  literal_gives : (t : Token) (o : Option Expression) (ts : List Token) (k : BehindOperand) →
      open_operand k + n ≡ most_open →
      answered end t.at ts (literal_step t o k) ≡ follow (literal_rule below t o ts)
      (λ e us. outcome (have_post 0 e k) us end)
  literal_gives t (Some e) ts k room = goes (have_post 0 e k) t.at ts end (omega (arith, room))
  literal_gives t None ts k room = word_gives t (word_of t) ts k room

  over_prim : (t : Token) (ts : List Token) (k : BehindOperand) → open_operand k + n ≡ most_open →
      answered end t.at ts (prim_step t k) ≡ follow (prim_of end below t ts)
      (λ e us. outcome (have_post 0 e k) us end)
  unfolding prim_step prim_of after_expression
  over_prim t ts k room =
      if_gives (is_sign OpenRound t) _ _ _ _ _ end t.at ts
      (deeper_gives end n below linked (want_expression (in_round k)) t.at ts (λ r. expr_to end CloseRound r.expr ts)
      (λ e us. outcome (have_post 0 e k) us end) (open_operand k) room refl
      (λ m r l fits. expr_to_gives end CloseRound r.expr ts (in_round k) (λ e. have_post 0 e k)
      (l.expr ts (in_round k) fits)
      (λ e t. refl) (λ e. omega (arith, room))))
      (if_gives (is_sign OpenSquare t) _ _ _ _ _ end t.at ts
      (deeper_gives end n below linked (in_elements t.at no_elements k) t.at ts (λ r. r.brackets t.at ts)
      (λ e us. outcome (have_post 0 e k) us end) (open_operand k) room refl
      (λ m r l fits. l.brackets t.at ts k fits))
      (literal_gives t (literal t) ts k room))

  member_gives : (m : ℕ) (r : Rules) → Linked end m r →
      (at : Place) (e : Expression) (count : ℕ) (t : Token) (o : Option (List ℕ)) (ts : List Token)
      (k : BehindOperand) → (1 + (count + open_operand k)) + m ≡ most_open →
      answered end t.at ts (member_name at e count k o) ≡ follow (member_by r at e t ts o)
      (λ x us. outcome (have_operand x k) us end)
  member_gives m r l at e count t (Some w) ts k room =
      goes (have_post (suc count) (member at e w) k) t.at ts end (omega (arith, room))
      ∙ l.posts (suc count) (member at e w) ts k (omega (arith, room))
  member_gives m r l at e count t None ts k room = goes_nowhere t.at ts end

  over_member : (m : ℕ) (r : Rules) → Linked end m r →
      (at : Place) (e : Expression) (count : ℕ) (ts : List Token) (k : BehindOperand) →
      (1 + (count + open_operand k)) + m ≡ most_open →
      outcome (want_member at e count k) ts end ≡ follow (member_of end r at e ts)
      (λ x us. outcome (have_operand x k) us end)
  unfolding step finish
  over_member m r l at e count [] k room = ends_none (want_member at e count k) end refl
  over_member m r l at e count (t ∷ ts) k room =
      by_outcome (want_member at e count k) t ts end ∙ member_gives m r l at e count t (word_of t) ts k room

  -- an index opens two constructs at once
  index_gives : (n : ℕ) (below : Option Rules) → Below end n below →
      (at : Place) (e : Expression) (count : ℕ) (ts : List Token) (k : BehindOperand) →
      (count + open_operand k) + n ≡ most_open →
      answered end at ts (go (want_expression (in_index at e count k)))
      ≡ follow (deeper below at (λ r. then_read (r.indexed at ts) (λ i us. r.posts (index at e i) us)))
      (λ x us. outcome (have_operand x k) us end)
  index_gives zero None l at e count ts k room =
      too_deep (want_expression (in_index at e count k)) at ts end (omega (arith, room))
  index_gives zero (Some r) l at e count ts k room = absurd l
  index_gives (suc m) None l at e count ts k room = absurd l
  index_gives (suc m) (Some r) l at e count ts k room =
      then_gives _ (r.indexed at ts) (λ i us. r.posts (index at e i) us)
      (λ i us. outcome (have_post (suc count) (index at e i) k) us end) _
      (l.indexed at e count ts k (omega (arith, room)))
      (λ i us. l.posts (suc count) (index at e i) us k (omega (arith, room)))

  pub over_posts : (count : ℕ) (e : Expression) (ts : List Token) (k : BehindOperand) →
      (count + open_operand k) + n ≡ most_open →
      outcome (have_post count e k) ts end ≡ follow (posts_of end below e ts)
      (λ x us. outcome (have_operand x k) us end)
  unfolding step post_step posts_of outcome finish
  over_posts count e [] k room = refl
  over_posts count e (t ∷ ts) k room =
      by_outcome (have_post count e k) t ts end
      ∙ if_gives (is_sign OpenSquare t) _ _ _ _ _ end t.at ts (index_gives n below linked t.at e count ts k room)
      (if_gives (is_sign Dot t) _ _ _ _ _ end t.at ts
      (deeper_gives end n below linked (want_member t.at e count k) t.at ts (λ r. member_of end r t.at e ts)
      (λ x us. outcome (have_operand x k) us end) (count + open_operand k) room refl
      (λ m r l fits. over_member m r l t.at e count ts k fits))
      (if_gives (is_sign Caret t) _ _ _ _ _ end t.at ts (leaves_out (codes "^") t.at ts end)
      (sym (by_outcome (have_operand e k) t ts end))))

  over_prefix : (op : UnOp) (at : Place) (ts : List Token) (k : BehindOperand) → open_operand k + n ≡ most_open →
      answered end at ts (go (want_unary (prefixed at op k))) ≡ follow (prefixed_of below at op ts)
      (λ e us. outcome (have_operand e k) us end)
  unfolding step finish after_operand
  over_prefix op at ts k room =
      deeper_gives end n below linked (want_unary (prefixed at op k)) at ts
      (λ r. then_read (r.unary_rule ts) (λ e us. Ok (unary at op e, us))) (λ e us. outcome (have_operand e k) us end)
      (open_operand k) room refl
      (λ m r l fits. then_gives _ (r.unary_rule ts) (λ e us. Ok (unary at op e, us))
      (λ e us. outcome (have_operand e (prefixed at op k)) us end) _
      (l.unary_rule ts (prefixed at op k) fits)
      (λ e us. settle (have_operand e (prefixed at op k)) (have_operand (unary at op e) k)
      (λ t. refl) refl us end))

  pub over_unary : (ts : List Token) (k : BehindOperand) → open_operand k + n ≡ most_open →
      outcome (want_unary k) ts end ≡ follow (unary_of end below ts) (λ e us. outcome (have_operand e k) us end)
  unfolding step unary_step unary_of finish
  over_unary [] k room = ends_none (want_unary k) end refl
  over_unary (t ∷ ts) k room =
      by_outcome (want_unary k) t ts end
      ∙ if_gives (is_sign Bang t) _ _ _ _ _ end t.at ts (over_prefix Not t.at ts k room)
      (if_gives (is_sign Plus t) _ _ _ _ _ end t.at ts (over_prefix UnaryPlus t.at ts k room)
      (if_gives (is_sign Minus t) _ _ _ _ _ end t.at ts (over_prefix UnaryMinus t.at ts k room)
      (then_gives _ (prim_of end below t ts) (posts_of end below) (λ e us. outcome (have_post 0 e k) us end) _
      (over_prim t ts k room) (λ e us. over_posts 0 e us k (omega (arith, room))))))

  open_opened : (line : ℕ) (k : BehindOperand) → open_operand (opened line k) ≡ open_operand k
  open_opened zero k = refl
  open_opened (suc line) k = open_opened line (first_of line k)

  link_gives : (line count : ℕ) (a : Expression) (t : Token) (ts : List Token) (k : BehindOperand)
      (o : Option BinOp) →
      (count + open_operand k) + n ≡ most_open →
      answered end t.at ts (link_step line count a k t o (after_operand a k t)) ≡ follow (link_of below line a t ts o)
      (λ e us. outcome (have_operand e k) us end)
  unfolding step finish after_operand
  link_gives line count a t ts k None room = sym (by_outcome (have_operand a k) t ts end)
  link_gives line count a t ts k (Some op) room =
      let behind : BehindOperand = right_of line (suc count) a op t.at k in
      deeper_gives end n below linked (want_operand line (right_of line (suc count) a op t.at k)) t.at ts
      (λ r. then_read (r.operand line ts) (λ b us. r.links line (binary t.at op a b) us))
      (λ e us. outcome (have_operand e k) us end)
      (count + open_operand k) room (open_opened line (right_of line (suc count) a op t.at k) ∙ omega arith)
      (λ m r l fits. then_gives _ (r.operand line ts) (λ b us. r.links line (binary t.at op a b) us)
      (λ b us. outcome (have_operand b (right_of line (suc count) a op t.at k)) us end) _
      (l.operand line ts (right_of line (suc count) a op t.at k) (omega (arith, fits)))
      (λ b us. settle (have_operand b (right_of line (suc count) a op t.at k))
      (have_links line (suc count) (binary t.at op a b) k) (λ t. refl) refl us end
      ∙ l.links line (suc count) (binary t.at op a b) us k (omega (arith, fits))))

  pub over_links : (line count : ℕ) (a : Expression) (ts : List Token) (k : BehindOperand) →
      (count + open_operand k) + n ≡ most_open →
      outcome (have_links line count a k) ts end ≡ follow (links_of below line a ts)
      (λ e us. outcome (have_operand e k) us end)
  unfolding step links_of outcome finish
  over_links line count a [] k room = refl
  over_links line count a (t ∷ ts) k room =
      by_outcome (have_links line count a k) t ts end ∙ link_gives line count a t ts k (operator line t) room

  pub over_operand : (line : ℕ) (ts : List Token) (k : BehindOperand) → open_operand k + n ≡ most_open →
      outcome (want_operand line k) ts end ≡ follow (operand_of end below line ts)
      (λ e us. outcome (have_operand e k) us end)
  unfolding step finish after_operand operand_of
  over_operand zero ts k room = over_unary ts k room
  over_operand (suc line) ts k room =
      then_gives _ (operand_of end below line ts) (links_of below line)
      (λ a us. outcome (have_operand a (first_of line k)) us end) _
      (over_operand line ts (first_of line k) room)
      (λ a us. settle (have_operand a (first_of line k)) (have_links line 0 a k) (λ t. refl) refl us end
      ∙ over_links line 0 a us k (omega (arith, room)))

  over_choice : (a : Expression) (ts : List Token) (k : BehindExpression) → open_expression k + n ≡ most_open →
      outcome (have_operand a (tested k)) ts end ≡ follow (choice_of end below a ts)
      (λ e us. outcome (have_expression e k) us end)
  unfolding step finish after_operand tested_step after_expression choice_of outcome
  over_choice a [] k room = refl
  over_choice a (t ∷ ts) k room =
      by_outcome (have_operand a (tested k)) t ts end
      ∙ if_gives (is_sign Question t) _ _ _ _ _ end t.at ts
      (deeper_gives end n below linked (want_expression (chosen t.at a k)) t.at ts
      (λ r. then_read (expr_to end Colon r.expr ts)
      (λ b us. then_read (r.expr us) (λ c vs. Ok (choose t.at a b c, vs))))
      (λ e us. outcome (have_expression e k) us end) (open_expression k) room refl
      (λ m r l fits. then_gives _ (expr_to end Colon r.expr ts) _
      (λ b us. outcome (want_expression (other t.at a b k)) us end) _
      (expr_to_gives end Colon r.expr ts (chosen t.at a k) (λ b. want_expression (other t.at a b k))
      (l.expr ts (chosen t.at a k) fits)
      (λ e t. refl) (λ e. omega (arith, fits)))
      (λ b us. then_gives _ (r.expr us) (λ c vs. Ok (choose t.at a b c, vs))
      (λ c vs. outcome (have_expression c (other t.at a b k)) vs end) _
      (l.expr us (other t.at a b k) fits)
      (λ c vs. settle (have_expression c (other t.at a b k)) (have_expression (choose t.at a b c) k)
      (λ t. refl) refl vs end))))
      (sym (by_outcome (have_expression a k) t ts end))

  over_keyed : (what : Keyed) (at : Place) (ts : List Token) (k : BehindExpression) →
      open_expression k + n ≡ most_open →
      answered end at ts (go (want_arguments (of_keyed what at k))) ≡ follow (keyed_of below what at ts)
      (λ e us. outcome (have_expression e k) us end)
  unfolding step finish after_expression end_arguments
  over_keyed what at ts k room =
      deeper_gives end n below linked (want_arguments (of_keyed what at k)) at ts
      (λ r. then_read (r.round_args ts) (λ all us. then_read (r.expr us) (λ e vs. Ok (keyed_tree what at all e, vs))))
      (λ e us. outcome (have_expression e k) us end) (open_expression k) room refl
      (λ m r l fits. then_gives _ (r.round_args ts) _
      (λ all us. outcome (want_expression (body_of what at all k)) us end) _
      (l.round_args ts (of_keyed what at k) (λ all. want_expression (body_of what at all k)) (λ all t. refl)
      (λ all. omega (arith, fits)) fits)
      (λ all us. then_gives _ (r.expr us) (λ e vs. Ok (keyed_tree what at all e, vs))
      (λ e vs. outcome (have_expression e (body_of what at all k)) vs end) _
      (l.expr us (body_of what at all k) fits)
      (λ e vs. settle (have_expression e (body_of what at all k))
      (have_expression (keyed_tree what at all e) k) (λ t. refl) refl vs end)))

  pub over_expr : (ts : List Token) (k : BehindExpression) → open_expression k + n ≡ most_open →
      outcome (want_expression k) ts end ≡ follow (expr_of end below ts)
      (λ e us. outcome (have_expression e k) us end)
  unfolding step expression_step expr_of finish
  over_expr [] k room = ends_none (want_expression k) end refl
  over_expr (t ∷ ts) k room =
      by_outcome (want_expression k) t ts end
      ∙ if_gives (is_key Function t) _ _ _ _ _ end t.at ts (leaves_out (codes "function") t.at ts end)
      (if_gives (is_key Let t) _ _ _ _ _ end t.at ts (over_keyed letting t.at ts k room)
      (if_gives (is_key Assert t) _ _ _ _ _ end t.at ts (over_keyed asserting t.at ts k room)
      (if_gives (is_key Echo t) _ _ _ _ _ end t.at ts (over_keyed echoing t.at ts k room)
      (sym (by_outcome (want_unary (opened 6 (tested k))) t ts end)
      ∙ then_gives _ (operand_of end below 6 (t ∷ ts)) (choice_of end below)
      (λ a us. outcome (have_operand a (tested k)) us end) _
      (over_operand 6 (t ∷ ts) (tested k) room) (λ a us. over_choice a us k room)))))
