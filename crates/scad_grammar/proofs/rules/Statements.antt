-- The rules of statements give the reader's outcome.
use Rattle.std.proofs.Common.{◌≡◌, ℕ, zero, suc, ◌+◌, ◌≤◌, Bool, true, false, List, [], ◌∷◌, Option}
use Rattle.std.proofs.Common.{Some, None, Result, Err, length, refl, sym, ◌∙◌, arith}
use Rattle.scad_fault.specs.declared.place.Place.{Place}
use Rattle.scad_lex.specs.declared.token.Token.{Token}
use Rattle.scad_lex.specs.declared.token.Sign.TheVariants.{OpenRound, CloseRound, OpenCurly, CloseCurly, Semicolon}
use Rattle.scad_lex.specs.declared.token.Sign.TheVariants.{Assign}
use Rattle.scad_lex.specs.declared.token.Key.TheVariants.{Module, Function}
use Rattle.scad_ast.specs.Tree.{Parameter, Items, no_items, assignment, module_of, function_of}
use Rattle.scad_grammar.specs.Tokens.{is_sign, is_key, word_of}
use Rattle.scad_grammar.specs.Lists.{with_item, no_marks}
use Rattle.scad_grammar.specs.Behind.{Defined, a_module, a_function, BehindItems, in_group, module_body}
use Rattle.scad_grammar.specs.Behind.{defined}
use Rattle.scad_grammar.specs.Behind.{assigned_to, function_body, of_statement}
use Rattle.scad_grammar.specs.Behind.{open_items}
use Rattle.scad_grammar.specs.State.{State, open_count, want_expression, want_arguments}
use Rattle.scad_grammar.specs.State.{want_statement, have_items, have_start}
use Rattle.scad_grammar.specs.State.{want_defined, want_parameters, in_parameters}
use Rattle.scad_grammar.specs.State.{want_assign}
use Rattle.scad_grammar.specs.Move.{go, stuck}
use Rattle.scad_grammar.specs.Steps.{only, after_expression, end_parameters}
use Rattle.scad_grammar.specs.StatementSteps.{definition_step, start_step}
use Rattle.scad_grammar.specs.StatementSteps.{statement_step, word_statement, after_items, finish_items}
use Rattle.scad_grammar.specs.StatementSteps.{defined_name}
use Rattle.scad_grammar.specs.Machine.{step, finish, Refusal, syntax_at, most_open, outcome}
use Rattle.scad_grammar.specs.Rules.{Read, Rules, deeper, expr_to, in_round_of, rules}
use Rattle.scad_grammar.specs.StatementRules.{StatementRules}
use Rattle.scad_grammar.specs.StatementRules.{word_behind_of, definition_of}
use Rattle.scad_grammar.specs.StatementRules.{start_of, statement_of, group_of, heading_by, heading_of}
use Rattle.scad_grammar.specs.StatementRules.{above_statements, statement_rules}
use Rattle.scad_grammar.proofs.nesting.OpenRest.{ended-le}
use Rattle.scad_grammar.proofs.rules.Turns.{follow, answered, by_outcome, goes, goes_nowhere}
use Rattle.scad_grammar.proofs.rules.Turns.{ends_none, if_gives, then_gives, sign_gives, settle}
use Rattle.scad_grammar.proofs.rules.Fewer.{Fewer}
use Rattle.scad_grammar.proofs.rules.FewerElements.{rules_fewer}
use Rattle.scad_grammar.proofs.rules.FewerStatements.{BelowFewerStatements, statement_leaves, statements_fewer}
use Rattle.scad_grammar.proofs.rules.Outcome.{Linked}
use Rattle.scad_grammar.proofs.rules.Operands.{expr_to_gives}
use Rattle.scad_grammar.proofs.rules.Arguments.{then_gives_on}
use Rattle.scad_grammar.proofs.rules.Elements.{rules_linked}
use Rattle.scad_grammar.proofs.rules.LinkedStatements.{LinkedStatements, BelowStatements, deeper_gives}
use Rattle.scad_grammar.proofs.rules.Parameters.{over_params}
use Rattle.scad_grammar.proofs.rules.Calls.{first_gives, over_call, over_choice, over_marked}

module _ (end : Place) (n : ℕ) (same : Rules) (linked : Linked end n same) (fewer : Fewer same)
    (below : Option StatementRules) (lower : BelowStatements end n below) (few : BelowFewerStatements below) where
  -- ---- statements
  over_word : (d : Bool) (at : Place) (w : List ℕ) (all : Items) (ts : List Token) (k : BehindItems) →
      (1 + open_items k) + n ≡ most_open →
      outcome (have_start d at w all k) ts end ≡ follow (word_behind_of end same below at w all ts)
      (λ b us. outcome (have_items b k) us end)
  unfolding step word_statement finish after_expression
  over_word d at w all [] k room = ends_none (have_start d at w all k) end refl
  over_word d at w all (t ∷ ts) k room =
      by_outcome (have_start d at w all k) t ts end
      ∙ if_gives (is_sign Assign t) _ _ _ _ _ end t.at ts
      (goes (want_expression (assigned_to at w all k)) t.at ts end (omega (arith, room))
      ∙ then_gives _ (expr_to end Semicolon same.expr ts) _
      (λ e us. outcome (have_items (with_item all (assignment at w e)) k) us end) _
      (expr_to_gives end Semicolon same.expr ts (assigned_to at w all k)
      (λ e. have_items (with_item all (assignment at w e)) k)
      (linked.expr ts (assigned_to at w all k) room) (λ e t. refl) (λ e. omega (arith, room, ended-le k)))
      (λ e us. refl))
      (sym (by_outcome (want_arguments (of_statement at no_marks w all k)) t ts end)
      ∙ over_call end n same linked below lower at no_marks w all (t ∷ ts) k room)

  definition_gives : (d : Bool) (t : Token) (all : Items) (ts : List Token) (k : BehindItems) →
      open_items k + n ≡ most_open →
      answered end t.at ts (definition_step d t all k) ≡ follow (definition_of d below t all ts)
      (λ b us. outcome (have_items b k) us end)
  unfolding definition_step definition_of
  definition_gives false t all ts k room = first_gives end n same linked below lower t all ts k room
  definition_gives true t all ts k room =
      if_gives (is_key Module t) _ _ _ _ _ end t.at ts
      (deeper_gives end n below lower (want_defined a_module t.at all k) t.at ts (λ r. r.module_behind t.at all ts) _
      (open_items k) room refl
      (λ m r l fits. l.module_behind t.at all ts k fits))
      (if_gives (is_key Function t) _ _ _ _ _ end t.at ts
      (deeper_gives end n below lower (want_defined a_function t.at all k) t.at ts
      (λ r. r.function_behind t.at all ts) _ (open_items k) room refl
      (λ m r l fits. l.function_behind t.at all ts k fits))
      (first_gives end n same linked below lower t all ts k room))

  start_gives : (d : Bool) (t : Token) (o : Option (List ℕ)) (all : Items) (ts : List Token) (k : BehindItems) →
      open_items k + n ≡ most_open →
      answered end t.at ts (start_step d t o all k) ≡ follow (start_of d below t o all ts)
      (λ b us. outcome (have_items b k) us end)
  start_gives d t (Some w) all ts k room =
      deeper_gives end n below lower (have_start d t.at w all k) t.at ts (λ r. r.word_behind t.at w all ts) _
      (open_items k) room refl
      (λ m r l fits. l.word_behind d t.at w all ts k fits)
  start_gives d t None all ts k room = definition_gives d t all ts k room

  over_statement : (d : Bool) (all : Items) (ts : List Token) (k : BehindItems) → open_items k + n ≡ most_open →
      outcome (want_statement d all k) ts end ≡ follow (statement_of end below d all ts)
      (λ b us. outcome (have_items b k) us end)
  unfolding step statement_step statement_of finish
  over_statement d all [] k room = ends_none (want_statement d all k) end refl
  over_statement d all (t ∷ ts) k room =
      by_outcome (want_statement d all k) t ts end
      ∙ if_gives (is_sign Semicolon t) _ _ _ _ _ end t.at ts
      (goes (have_items all k) t.at ts end (omega (arith, room, ended-le k)))
      (if_gives (is_sign OpenCurly t) _ _ _ _ _ end t.at ts
      (deeper_gives end n below lower (have_items all (in_group d k)) t.at ts (λ r. r.group d all ts) _
      (open_items k) room refl
      (λ m r l fits. l.group d all ts k fits))
      (start_gives d t (word_of t) all ts k room))

  over_group : (left : ℕ) (d : Bool) (k : BehindItems) → (1 + open_items k) + n ≡ most_open →
      (all : Items) (ts : List Token) → length ts ≤ left →
      outcome (have_items all (in_group d k)) ts end ≡ follow (group_of end below left d all ts)
      (λ b us. outcome (have_items b k) us end)
  unfolding step after_items finish finish_items group_of
  over_group zero d k room all [] long = ends_none (have_items all (in_group d k)) end refl
  over_group (suc left) d k room all [] long = ends_none (have_items all (in_group d k)) end refl
  over_group zero d k room all (t ∷ ts) long = absurd (omega arith)
  over_group (suc left) d k room all (t ∷ ts) long =
      let later = over_group left d k room in
      by_outcome (have_items all (in_group d k)) t ts end
      ∙ if_gives (is_sign CloseCurly t) _ _ _ _ _ end t.at ts
      (goes (have_items all k) t.at ts end (omega (arith, room, ended-le k)))
      (sym (by_outcome (want_statement d all (in_group d k)) t ts end)
      ∙ then_gives_on (suc (length ts)) _ (statement_of end below d all (t ∷ ts)) _
      (λ b us. outcome (have_items b (in_group d k)) us end) _
      (statement_leaves end same fewer below few d all (t ∷ ts))
      (over_statement d all (t ∷ ts) (in_group d k) room)
      (λ b us h. later b us (omega (arith, long, h))))

  -- ---- definitions
  heading_gives : {A : Type 0} (what : Defined) (at : Place) (all : Items) (o : Option (List ℕ)) (wat : Place)
      (ts : List Token) (k : BehindItems)
      (f : List ℕ → List Parameter → List Token → Read A) (onward : A → List Token → Result Items Refusal)
      (next : List ℕ → List Parameter → State) →
      ((w : List ℕ) (ps : List Parameter) (t : Token) →
      end_parameters ps (defined what at w all k) t ≡ only (is_sign CloseRound t) (next w ps)) →
      ((w : List ℕ) (ps : List Parameter) → open_count (next w ps) ≤ most_open) → (1 + open_items k) + n ≡ most_open →
      ((w : List ℕ) (ps : List Parameter) (us : List Token) →
      outcome (next w ps) us end ≡ follow (f w ps us) onward) →
      answered end wat ts (defined_name what at o all k) ≡ follow (heading_by end below wat o f ts) onward
  unfolding step finish
  heading_gives what at all None wat ts k f onward next closes fits room inside = goes_nowhere wat ts end
  heading_gives what at all (Some w) wat ts k f onward next closes fits room inside =
      goes (want_parameters (defined what at w all k)) wat ts end (omega (arith, room))
      ∙ then_gives _ (in_round_of end below (λ r us. r.params_closed us) ts) (f w)
      (λ ps us. outcome (next w ps) us end) onward (in_round ts) (inside w)
    where
      in_round : (ts : List Token) → outcome (want_parameters (defined what at w all k)) ts end
          ≡ follow (in_round_of end below (λ r us. r.params_closed us) ts) (λ ps us. outcome (next w ps) us end)
      in_round [] = ends_none (want_parameters (defined what at w all k)) end refl
      in_round (t ∷ ts) =
          by_outcome (want_parameters (defined what at w all k)) t ts end
          ∙ if_gives (is_sign OpenRound t) (go (in_parameters [] (defined what at w all k))) stuck
          (deeper below t.at (λ r. r.params_closed ts)) (Err (syntax_at t.at)) _ end t.at ts
          (deeper_gives end n below lower (in_parameters [] (defined what at w all k)) t.at ts
          (λ r. r.params_closed ts) _ (1 + open_items k) room refl
          (λ m r l more. l.params_closed ts (defined what at w all k) (next w) (closes w) (fits w) more))
          (goes_nowhere t.at ts end)

  over_heading : {A : Type 0} (what : Defined) (at : Place) (all : Items) (ts : List Token) (k : BehindItems)
      (f : List ℕ → List Parameter → List Token → Read A) (onward : A → List Token → Result Items Refusal)
      (next : List ℕ → List Parameter → State) →
      ((w : List ℕ) (ps : List Parameter) (t : Token) →
      end_parameters ps (defined what at w all k) t ≡ only (is_sign CloseRound t) (next w ps)) →
      ((w : List ℕ) (ps : List Parameter) → open_count (next w ps) ≤ most_open) → (1 + open_items k) + n ≡ most_open →
      ((w : List ℕ) (ps : List Parameter) (us : List Token) →
      outcome (next w ps) us end ≡ follow (f w ps us) onward) →
      outcome (want_defined what at all k) ts end ≡ follow (heading_of end below f ts) onward
  unfolding step finish
  over_heading what at all [] k f onward next closes fits room inside =
      ends_none (want_defined what at all k) end refl
  over_heading what at all (t ∷ ts) k f onward next closes fits room inside =
      by_outcome (want_defined what at all k) t ts end
      ∙ heading_gives what at all (word_of t) t.at ts k f onward next closes fits room inside

  above_linked : LinkedStatements end n (above_statements end same below)
  unfolding step finish end_parameters after_items finish_items after_expression
  above_linked = record {
    statement = over_statement;
    group = λ d all ts k room. over_group (length ts) d k room all ts (omega arith);
    word_behind = over_word;
    marked = over_marked end n same linked below lower;
    call_behind = over_call end n same linked below lower;
    choice_behind = over_choice end n same linked below lower;
    module_behind = λ at all ts k room.
        over_heading a_module at all ts k _ _ (λ w ps. want_statement true no_items (module_body at w ps all k))
        (λ w ps t. refl)
        (λ w ps. omega (arith, room)) room
        (λ w ps us. then_gives _ (statement_of end below true no_items us) _
        (λ body vs. outcome (have_items body (module_body at w ps all k)) vs end) _
        (over_statement true no_items us (module_body at w ps all k) room)
        (λ body vs. settle (have_items body (module_body at w ps all k))
        (have_items (with_item all (module_of at w ps body)) k) (λ t. refl) refl vs end));
    function_behind = λ at all ts k room.
        over_heading a_function at all ts k _ _ (λ w ps. want_assign at w ps all k) (λ w ps t. refl)
        (λ w ps. omega (arith, room)) room
        (λ w ps us. sign_gives Assign (want_assign at w ps all k) (want_expression (function_body at w ps all k)) us _
        _ end refl (λ t. refl) (omega (arith, room))
        (λ vs. then_gives _ (expr_to end Semicolon same.expr vs) _
        (λ e ws. outcome (have_items (with_item all (function_of at w ps e)) k) ws end) _
        (expr_to_gives end Semicolon same.expr vs (function_body at w ps all k)
        (λ e. have_items (with_item all (function_of at w ps e)) k)
        (linked.expr vs (function_body at w ps all k) room) (λ e t. refl)
        (λ e. omega (arith, room, ended-le k)))
        (λ e ws. refl)));
    params_closed = λ ts k next closes fits room. over_params end n same linked fewer
        (length ts) k next closes fits room [] ts (omega arith);
  }

-- the rules of statements give the reader's outcome
pub statements_linked : (end : Place) (n : ℕ) → LinkedStatements end n (statement_rules end n)
statements_linked end zero =
    above_linked end zero (rules end zero) (rules_linked end zero) (rules_fewer end zero) None tt tt
statements_linked end (suc n) =
    above_linked end (suc n) (rules end (suc n)) (rules_linked end (suc n)) (rules_fewer end (suc n))
    (Some (statement_rules end n))
    (statements_linked end n) (statements_fewer end n)
