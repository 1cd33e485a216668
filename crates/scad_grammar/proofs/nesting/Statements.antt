-- What a reader keeps open over statements is what their derivation has open.
use Rattle.std.proofs.Common.{◌≡◌, ℕ, ◌+◌, ◌<◌, Bool, true, false, List, ◌∷◌, Option, length, refl, sym, ◌∙◌, arith}
use Rattle.scad_fault.specs.declared.place.Place.{Place}
use Rattle.scad_lex.specs.declared.token.Token.{Token}
use Rattle.scad_lex.specs.declared.token.Sign.TheVariants.{OpenRound, CloseRound}
use Rattle.scad_ast.specs.Tree.{Expression, Parameter, Items, no_items, choice}
use Rattle.scad_grammar.specs.Tokens.{sign, word}
use Rattle.scad_grammar.specs.Lists.{with_parameter, with_statement, Marks, no_marks}
use Rattle.scad_grammar.specs.Grammar.{Default, no_default, default, Params, no_params, params, MoreParams}
use Rattle.scad_grammar.specs.Grammar.{last_param, comma_param}
use Rattle.scad_grammar.specs.Statements.{Callee, call_word, call_for, call_let, call_echo, call_assert, Statement}
use Rattle.scad_grammar.specs.Statements.{nothing, a_group, assign, a_module, a_function, inst, Statements}
use Rattle.scad_grammar.specs.Statements.{no_statement, statement, Inst, star_mark, percent_mark, hash_mark, a_call}
use Rattle.scad_grammar.specs.Statements.{a_choice, Otherwise, no_otherwise, otherwise, Child, no_child, children}
use Rattle.scad_grammar.specs.Statements.{one_child}
use Rattle.scad_grammar.specs.Behind.{a_module as the_module, a_function as the_function, BehindItems, in_program}
use Rattle.scad_grammar.specs.Behind.{in_group, module_body, child_of, held_child, other_child, BehindParameters}
use Rattle.scad_grammar.specs.Behind.{defined, default_of, assigned_to, function_body, statement_test, of_statement}
use Rattle.scad_grammar.specs.Behind.{open_items, open_parameters}
use Rattle.scad_grammar.specs.State.{want_arguments, want_statement, have_items, want_marked, want_child}
use Rattle.scad_grammar.specs.State.{in_parameters, have_parameter, after_parameter, have_parameters, have_start}
use Rattle.scad_grammar.specs.Steps.{end_arguments, after_expression, after_parameter_step, end_parameters}
use Rattle.scad_grammar.specs.StatementSteps.{marked_step, first_step, definition_step, statement_step}
use Rattle.scad_grammar.specs.StatementSteps.{word_statement, child_step, after_items, parameters_step}
use Rattle.scad_grammar.specs.Move.{go}
use Rattle.scad_grammar.specs.Machine.{step}
use Rattle.scad_grammar.specs.Nesting.{in_default, in_params, in_more_params, in_statement, in_statements, in_inst}
use Rattle.scad_grammar.specs.Nesting.{in_otherwise, in_child}
use Rattle.scad_grammar.proofs.nesting.PartEnd.{ended_parameter, ended_choice}
use Rattle.scad_grammar.proofs.nesting.Expressions.{over_expr, over_args}
use Rattle.scad_grammar.proofs.nesting.Places.{Alike, FirstAlike, past_to, by_first}
use Rattle.scad_grammar.proofs.nesting.Tracks.{Tracks, AlikeBehind, behind_first, from_behind, nothing_read}
use Rattle.scad_grammar.proofs.nesting.Tracks.{one_token, then_part, then_token, token_then, construct_part}
use Rattle.scad_grammar.proofs.nesting.Tracks.{construct_then, from_alike, to_alike}

over_default : {ts us : List Token} {d : Option Expression} → (x : Default ts us d) →
    (w : List ℕ) (all : List Parameter) (k : BehindParameters) →
    Tracks (have_parameter w all k) ts us (after_parameter (with_parameter all w d) k) (in_default x)
    (1 + open_parameters k)
unfolding step after_expression
over_default (no_default {ts = ts} h) w all k =
    nothing_read _ _ ts (1 + open_parameters k) (ended_parameter w all k ts h)
over_default (default d) w all k =
    token_then refl refl (to_alike (over_expr d (default_of w all k)) (λ t. refl) (λ us. refl))

mutual
  unfolding step after_parameter_step parameters_step

  over_params : {a all : List Parameter} {ts us : List Token} → (d : Params a ts us all) → (k : BehindParameters) →
      Tracks (in_parameters a k) ts us (have_parameters all k) (in_params d) (1 + open_parameters k)
  over_params (no_params {q = q} {all = all} {ts = ts}) k =
      nothing_read _ _ _ (1 + open_parameters k)
      (by_first (in_parameters all k) (have_parameters all k) (sign CloseRound q ∷ ts) refl refl)
  over_params (params {w = w} {a = a} d m) k =
      token_then refl refl (then_part (over_default d w a k) (over_more_params m k))

  over_more_params : {a all : List Parameter} {ts us : List Token} → (m : MoreParams a ts us all) →
      (k : BehindParameters) →
      Tracks (after_parameter a k) ts us (have_parameters all k) (in_more_params m) (1 + open_parameters k)
  over_more_params (last_param {q = q} {all = all} {ts = ts}) k =
      nothing_read _ _ _ (1 + open_parameters k)
      (by_first (after_parameter all k) (have_parameters all k) (sign CloseRound q ∷ ts) refl refl)
  over_more_params (comma_param d) k = token_then refl refl (over_params d k)

-- behind a WORD that a call begins with
start_alike : (d : Bool) (at p : Place) (w : List ℕ) (a : Items) (k : BehindItems) (ts : List Token) →
    Alike (have_start d at w a k) (want_arguments (of_statement at no_marks w a k)) (sign OpenRound p ∷ ts)
unfolding step word_statement
start_alike d at p w a k ts =
    by_first (have_start d at w a k) (want_arguments (of_statement at no_marks w a k))
    (sign OpenRound p ∷ ts) refl refl

word_at_statement : (d : Bool) (at p : Place) (w : List ℕ) (a : Items) (k : BehindItems) (ts : List Token) →
    AlikeBehind (want_statement d a k) (want_marked no_marks a k) (word w at ∷ sign OpenRound p ∷ ts)
unfolding step marked_step statement_step
word_at_statement d at p w a k ts v h =
    past_to (want_statement d a k) (have_start d at w a k) (word w at) (sign OpenRound p ∷ ts) v (omega arith) refl
    ∙ (start_alike d at p w a k ts v (omega arith)
    ∙ sym (past_to (want_marked no_marks a k) (want_arguments (of_statement at no_marks w a k)) (word w at)
    (sign OpenRound p ∷ ts) v (omega arith) refl))

-- at a statement and at a child a call or an `if` begins as behind marks
inst_at_statement : {a all : Items} {ts us : List Token} → Inst no_marks a ts us all → (d : Bool) (k : BehindItems) →
    AlikeBehind (want_statement d a k) (want_marked no_marks a k) ts
unfolding step marked_step first_step definition_step statement_step
inst_at_statement {a = a} {ts = ts} (star_mark i) false k =
    behind_first (want_statement false a k) (want_marked no_marks a k) ts refl
inst_at_statement {a = a} {ts = ts} (star_mark i) true k =
    behind_first (want_statement true a k) (want_marked no_marks a k) ts refl
inst_at_statement {a = a} {ts = ts} (percent_mark i) false k =
    behind_first (want_statement false a k) (want_marked no_marks a k) ts refl
inst_at_statement {a = a} {ts = ts} (percent_mark i) true k =
    behind_first (want_statement true a k) (want_marked no_marks a k) ts refl
inst_at_statement {a = a} {ts = ts} (hash_mark i) false k =
    behind_first (want_statement false a k) (want_marked no_marks a k) ts refl
inst_at_statement {a = a} {ts = ts} (hash_mark i) true k =
    behind_first (want_statement true a k) (want_marked no_marks a k) ts refl
inst_at_statement {a = a} {ts = ts} (a_call call_for e c) false k =
    behind_first (want_statement false a k) (want_marked no_marks a k) ts refl
inst_at_statement {a = a} {ts = ts} (a_call call_for e c) true k =
    behind_first (want_statement true a k) (want_marked no_marks a k) ts refl
inst_at_statement {a = a} {ts = ts} (a_call call_let e c) false k =
    behind_first (want_statement false a k) (want_marked no_marks a k) ts refl
inst_at_statement {a = a} {ts = ts} (a_call call_let e c) true k =
    behind_first (want_statement true a k) (want_marked no_marks a k) ts refl
inst_at_statement {a = a} {ts = ts} (a_call call_echo e c) false k =
    behind_first (want_statement false a k) (want_marked no_marks a k) ts refl
inst_at_statement {a = a} {ts = ts} (a_call call_echo e c) true k =
    behind_first (want_statement true a k) (want_marked no_marks a k) ts refl
inst_at_statement {a = a} {ts = ts} (a_call call_assert e c) false k =
    behind_first (want_statement false a k) (want_marked no_marks a k) ts refl
inst_at_statement {a = a} {ts = ts} (a_call call_assert e c) true k =
    behind_first (want_statement true a k) (want_marked no_marks a k) ts refl
inst_at_statement {a = a} {ts = ts} (a_choice e c o) false k =
    behind_first (want_statement false a k) (want_marked no_marks a k) ts refl
inst_at_statement {a = a} {ts = ts} (a_choice e c o) true k =
    behind_first (want_statement true a k) (want_marked no_marks a k) ts refl
inst_at_statement (a_call {a = a} {p = p} {ts = ts} (call_word {at = at} {w = w}) e c) d k =
    word_at_statement d at p w a k ts

inst_at_child : {all : Items} {ts us : List Token} → Inst no_marks no_items ts us all → (k : BehindItems) →
    FirstAlike (want_child k) (want_marked no_marks no_items k) ts
unfolding step marked_step first_step child_step
inst_at_child (star_mark i) k = refl
inst_at_child (percent_mark i) k = refl
inst_at_child (hash_mark i) k = refl
inst_at_child (a_call call_word d c) k = refl
inst_at_child (a_call call_for d c) k = refl
inst_at_child (a_call call_let d c) k = refl
inst_at_child (a_call call_echo d c) k = refl
inst_at_child (a_call call_assert d c) k = refl
inst_at_child (a_choice d c o) k = refl

-- a statement stands where a group or the program could end
inst_in_group : {a all : Items} {ts us : List Token} → Inst no_marks a ts us all → (d : Bool) (k : BehindItems) →
    FirstAlike (have_items a (in_group d k)) (want_statement d a (in_group d k)) ts
unfolding step after_items
inst_in_group (star_mark i) d k = refl
inst_in_group (percent_mark i) d k = refl
inst_in_group (hash_mark i) d k = refl
inst_in_group (a_call call_word e c) d k = refl
inst_in_group (a_call call_for e c) d k = refl
inst_in_group (a_call call_let e c) d k = refl
inst_in_group (a_call call_echo e c) d k = refl
inst_in_group (a_call call_assert e c) d k = refl
inst_in_group (a_choice e c o) d k = refl

statement_in_group : {d : Bool} {a all : Items} {ts us : List Token} → Statement d a ts us all → (k : BehindItems) →
    FirstAlike (have_items a (in_group d k)) (want_statement d a (in_group d k)) ts
unfolding step after_items
statement_in_group nothing k = refl
statement_in_group (a_group s) k = refl
statement_in_group (assign e) k = refl
statement_in_group (a_module p s) k = refl
statement_in_group (a_function p e) k = refl
statement_in_group (inst {d = d} i) k = inst_in_group i d k

group_alike : {d : Bool} {a all : Items} {ts us : List Token} → Statement d a ts us all → (k : BehindItems) →
    Alike (have_items a (in_group d k)) (want_statement d a (in_group d k)) ts
group_alike {d = d} {a = a} {ts = ts} s k =
    by_first (have_items a (in_group d k)) (want_statement d a (in_group d k)) ts (statement_in_group s k) refl

inst_in_program : {a all : Items} {ts us : List Token} → Inst no_marks a ts us all →
    FirstAlike (have_items a in_program) (want_statement true a in_program) ts
unfolding step after_items
inst_in_program (star_mark i) = refl
inst_in_program (percent_mark i) = refl
inst_in_program (hash_mark i) = refl
inst_in_program (a_call call_word e c) = refl
inst_in_program (a_call call_for e c) = refl
inst_in_program (a_call call_let e c) = refl
inst_in_program (a_call call_echo e c) = refl
inst_in_program (a_call call_assert e c) = refl
inst_in_program (a_choice e c o) = refl

statement_in_program : {a all : Items} {ts us : List Token} → Statement true a ts us all →
    FirstAlike (have_items a in_program) (want_statement true a in_program) ts
unfolding step after_items
statement_in_program nothing = refl
statement_in_program (a_group s) = refl
statement_in_program (assign e) = refl
statement_in_program (a_module p s) = refl
statement_in_program (a_function p e) = refl
statement_in_program (inst i) = inst_in_program i

program_alike : {a all : Items} {ts us : List Token} → Statement true a ts us all →
    Alike (have_items a in_program) (want_statement true a in_program) ts
program_alike {a = a} {ts = ts} s =
    by_first (have_items a in_program) (want_statement true a in_program) ts (statement_in_program s) refl

-- the word or key that a call begins with
called : {t : Token} {w : List ℕ} → Callee t w → (m : Marks) (a : Items) (k : BehindItems) →
    step (want_marked m a k) t ≡ go (want_arguments (of_statement t.at m w a k))
unfolding step marked_step
called call_word m a k = refl
called call_for m a k = refl
called call_let m a k = refl
called call_echo m a k = refl
called call_assert m a k = refl

mutual
  unfolding step end_arguments after_expression end_parameters marked_step statement_step word_statement child_step
      first_step definition_step after_items

  over_statement : {d : Bool} {a all : Items} {ts us : List Token} → (s : Statement d a ts us all) →
      (k : BehindItems) →
      Tracks (want_statement d a k) ts us (have_items all k) (in_statement s) (open_items k)
  over_statement nothing k = one_token _ _ _ _ (open_items k) refl refl
  over_statement (a_group {d = d} s) k = construct_then refl refl refl (then_token (over_group s k) refl refl)
  over_statement (assign {a = a} {at = at} {w = w} e) k =
      construct_then refl refl refl (token_then refl refl (then_token (over_expr e (assigned_to at w a k)) refl refl))
  over_statement (a_module {a = a} {at = at} {w = w} {all = all} d s) k =
      to_alike
      (construct_then refl refl refl (token_then refl refl (then_part
      (construct_then refl refl refl (then_token (over_params d (defined the_module at w a k)) refl refl))
      (over_statement s (module_body at w all a k)))))
      (λ t. refl) (λ us. refl)
  over_statement (a_function {a = a} {at = at} {w = w} {all = all} d e) k =
      construct_then refl refl refl (token_then refl refl (then_part
      (construct_then refl refl refl (then_token (over_params d (defined the_function at w a k)) refl refl))
      (token_then refl refl (then_token (over_expr e (function_body at w all a k)) refl refl))))
  over_statement (inst {d = d} i) k = record {
    part = construct_part refl (from_behind (inst_at_statement i d k) (reads_some i k) (over_inst i k).part);
    start = λ h. refl;
  }

  over_group : {d : Bool} {a all : Items} {ts us : List Token} → (s : Statements d a ts us all) → (k : BehindItems) →
      Tracks (have_items a (in_group d k)) ts us (have_items all (in_group d k)) (in_statements s) (1 + open_items k)
  over_group no_statement k = nothing_read _ _ _ (1 + open_items k) (λ v h. refl)
  over_group (statement {d = d} s l) k =
      then_part (from_alike (group_alike s k) (over_statement s (in_group d k))) (over_group l k)

  over_inst : {m : Marks} {a all : Items} {ts us : List Token} → (i : Inst m a ts us all) → (k : BehindItems) →
      Tracks (want_marked m a k) ts us (have_items all k) (in_inst i) (1 + open_items k)
  over_inst (star_mark i) k = token_then refl refl (over_inst i k)
  over_inst (percent_mark i) k = token_then refl refl (over_inst i k)
  over_inst (hash_mark i) k = token_then refl refl (over_inst i k)
  over_inst (a_call {m = m} {a = a} {t = t} {w = w} {all = all} n d c) k =
      to_alike
      (token_then (called n m a k) refl (then_part
      (construct_then refl refl refl (then_token (over_args d (of_statement t.at m w a k)) refl refl))
      (over_child c (child_of t.at m w all a k))))
      (λ t. refl) (λ us. refl)
  over_inst (a_choice {m = m} {a = a} {held = held} {at = at} {e = e} d c o) k =
      token_then refl refl (then_part
      (construct_then refl refl (omega arith) (then_token (over_expr d (statement_test at m a k)) refl refl))
      (then_part (over_child c (held_child at m e a k)) (over_otherwise o at m e held a k)))

  -- a call or an `if` has a token
  reads_some : {m : Marks} {a all : Items} {ts us : List Token} → (i : Inst m a ts us all) → (k : BehindItems) →
      length us < length ts
  reads_some (star_mark i) k = let h = (over_inst i k).part.order in omega arith
  reads_some (percent_mark i) k = let h = (over_inst i k).part.order in omega arith
  reads_some (hash_mark i) k = let h = (over_inst i k).part.order in omega arith
  reads_some (a_call {m = m} {a = a} {t = t} {w = w} {all = all} n d c) k =
      let h = (over_args d (of_statement t.at m w a k)).part.order in
      let g = (over_child c (child_of t.at m w all a k)).part.order in omega arith
  reads_some (a_choice {m = m} {a = a} {held = held} {at = at} {e = e} d c o) k =
      let h = (over_expr d (statement_test at m a k)).part.order in
      let g = (over_child c (held_child at m e a k)).part.order in
      let f = (over_otherwise o at m e held a k).part.order in omega arith

  over_otherwise : {other : Items} {ts us : List Token} → (o : Otherwise ts us other) →
      (at : Place) (m : Marks) (e : Expression) (held outer : Items) (k : BehindItems) →
      Tracks (have_items held (held_child at m e outer k)) ts us
      (have_items (with_statement m outer (choice at m.percent m.hash e held other)) k) (in_otherwise o)
      (1 + open_items k)
  over_otherwise (no_otherwise {ts = ts} h) at m e held outer k =
      nothing_read _ _ ts (1 + open_items k) (ended_choice at m e held outer k ts h)
  over_otherwise (otherwise c) at m e held outer k =
      to_alike (token_then refl refl (over_child c (other_child at m e held outer k))) (λ t. refl) (λ us. refl)

  over_child : {all : Items} {ts us : List Token} → (c : Child ts us all) → (k : BehindItems) →
      Tracks (want_child k) ts us (have_items all k) (in_child c) (open_items k)
  over_child no_child k = one_token _ _ _ _ (open_items k) refl refl
  over_child (children s) k = construct_then refl refl refl (then_token (over_group s k) refl refl)
  over_child (one_child {ts = ts} i) k = record {
    part = construct_part refl
        (from_behind (behind_first (want_child k) (want_marked no_marks no_items k) ts (inst_at_child i k))
        (reads_some i k) (over_inst i k).part);
    start = λ h. refl;
  }

pub over_statements : {a all : Items} {ts us : List Token} → (s : Statements true a ts us all) →
    Tracks (have_items a in_program) ts us (have_items all in_program) (in_statements s) 0
over_statements no_statement = nothing_read _ _ _ 0 (λ v h. refl)
over_statements (statement s l) =
    then_part (from_alike (program_alike s) (over_statement s in_program)) (over_statements l)
