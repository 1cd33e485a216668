-- Each derivation of the grammar of statements runs; a program's run gives the program.
use Rattle.std.proofs.Common.{◌≡◌, ℕ, Bool, true, false, List, [], ◌∷◌, Option, Some, refl, ◌∙◌}
use Rattle.std.proofs.lemmas.Bool.{cond-false}
use Rattle.scad_fault.specs.declared.place.Place.{Place}
use Rattle.scad_lex.specs.declared.token.Token.{Token}
use Rattle.scad_lex.specs.declared.token.Sign.TheVariants.{OpenRound}
use Rattle.scad_lex.specs.declared.token.Key.TheVariants.{Else}
use Rattle.scad_ast.specs.Tree.{Expression, Parameter, Items, no_items, module_of, call_of, choice}
use Rattle.scad_grammar.specs.Tokens.{sign, begins_with_key}
use Rattle.scad_grammar.specs.Lists.{with_parameter, with_item, with_statement, Marks, no_marks}
use Rattle.scad_grammar.specs.Grammar.{Default, no_default, default, Params, no_params, params, MoreParams}
use Rattle.scad_grammar.specs.Grammar.{last_param, comma_param}
use Rattle.scad_grammar.specs.Statements.{Callee, call_word, call_for, call_let, call_echo, call_assert, Statement}
use Rattle.scad_grammar.specs.Statements.{nothing, a_group, assign, a_module, a_function, inst, Statements}
use Rattle.scad_grammar.specs.Statements.{no_statement, statement, Inst, star_mark, percent_mark, hash_mark, a_call}
use Rattle.scad_grammar.specs.Statements.{a_choice, Otherwise, no_otherwise, otherwise, Child, no_child, children}
use Rattle.scad_grammar.specs.Statements.{one_child, Derives, program}
use Rattle.scad_grammar.specs.Behind.{a_module as the_module, a_function as the_function, BehindItems, in_program}
use Rattle.scad_grammar.specs.Behind.{in_group, module_body, child_of, held_child, other_child, BehindParameters}
use Rattle.scad_grammar.specs.Behind.{defined, default_of, assigned_to, function_body, statement_test, of_statement}
use Rattle.scad_grammar.specs.State.{want_arguments, want_statement, have_items, want_marked, want_child}
use Rattle.scad_grammar.specs.State.{in_parameters, have_parameter, after_parameter, have_parameters, have_expression}
use Rattle.scad_grammar.specs.Steps.{end_arguments, after_expression, end_parameters, after_parameter_step}
use Rattle.scad_grammar.specs.StatementSteps.{marked_step, first_step, definition_step, statement_step}
use Rattle.scad_grammar.specs.StatementSteps.{word_statement, child_step, after_items, finish_items, parameters_step}
use Rattle.scad_grammar.specs.Machine.{step, finish, run, start}
use Rattle.scad_grammar.proofs.reader.Runs.{settle, same_step, ended_parameter}
use Rattle.scad_grammar.proofs.reader.Expressions.{runs_expr, runs_args}

runs_default : {ts us : List Token} {d : Option Expression} → Default ts us d →
    (w : List ℕ) (all : List Parameter) (k : BehindParameters) →
    run (have_parameter w all k) ts ≡ run (after_parameter (with_parameter all w d) k) us
unfolding run step finish after_expression
runs_default (no_default {ts = ts} h) w all k = ended_parameter w all k ts h
runs_default (default {e = e} {us = us} d) w all k =
    runs_expr d (default_of w all k)
    ∙ settle (have_expression e (default_of w all k)) (after_parameter (with_parameter all w (Some e)) k)
    (λ t. refl) refl us

mutual
  unfolding run step finish after_parameter_step parameters_step

  runs_params : {a all : List Parameter} {ts us : List Token} → Params a ts us all → (k : BehindParameters) →
      run (in_parameters a k) ts ≡ run (have_parameters all k) us
  runs_params no_params k = refl
  runs_params (params {w = w} {a = a} d m) k = runs_default d w a k ∙ runs_more_params m k

  runs_more_params : {a all : List Parameter} {ts us : List Token} → MoreParams a ts us all → (k : BehindParameters) →
      run (after_parameter a k) ts ≡ run (have_parameters all k) us
  runs_more_params last_param k = refl
  runs_more_params (comma_param d) k = runs_params d k

-- behind marks, at a statement and at a child a call or an `if` begins alike
inst_at_statement : {a all : Items} {ts us : List Token} → Inst no_marks a ts us all → (d : Bool) (k : BehindItems) →
    run (want_statement d a k) ts ≡ run (want_marked no_marks a k) ts
unfolding run step marked_step first_step definition_step statement_step word_statement
inst_at_statement (star_mark i) false k = refl
inst_at_statement (star_mark i) true k = refl
inst_at_statement (percent_mark i) false k = refl
inst_at_statement (percent_mark i) true k = refl
inst_at_statement (hash_mark i) false k = refl
inst_at_statement (hash_mark i) true k = refl
inst_at_statement (a_call call_word d c) f k = refl
inst_at_statement (a_call call_for d c) false k = refl
inst_at_statement (a_call call_for d c) true k = refl
inst_at_statement (a_call call_let d c) false k = refl
inst_at_statement (a_call call_let d c) true k = refl
inst_at_statement (a_call call_echo d c) false k = refl
inst_at_statement (a_call call_echo d c) true k = refl
inst_at_statement (a_call call_assert d c) false k = refl
inst_at_statement (a_call call_assert d c) true k = refl
inst_at_statement (a_choice d c o) false k = refl
inst_at_statement (a_choice d c o) true k = refl

inst_at_child : {all : Items} {ts us : List Token} → Inst no_marks no_items ts us all → (k : BehindItems) →
    run (want_child k) ts ≡ run (want_marked no_marks no_items k) ts
unfolding run step marked_step first_step child_step
inst_at_child (star_mark i) k = refl
inst_at_child (percent_mark i) k = refl
inst_at_child (hash_mark i) k = refl
inst_at_child (a_call call_word d c) k = refl
inst_at_child (a_call call_for d c) k = refl
inst_at_child (a_call call_let d c) k = refl
inst_at_child (a_call call_echo d c) k = refl
inst_at_child (a_call call_assert d c) k = refl
inst_at_child (a_choice d c o) k = refl

-- a statement stands where a group could end
inst_in_group : {a all : Items} {ts us : List Token} → Inst no_marks a ts us all → (d : Bool) (k : BehindItems) →
    run (have_items a (in_group d k)) ts ≡ run (want_statement d a (in_group d k)) ts
unfolding run step after_items
inst_in_group (star_mark i) d k = refl
inst_in_group (percent_mark i) d k = refl
inst_in_group (hash_mark i) d k = refl
inst_in_group (a_call call_word e c) d k = refl
inst_in_group (a_call call_for e c) d k = refl
inst_in_group (a_call call_let e c) d k = refl
inst_in_group (a_call call_echo e c) d k = refl
inst_in_group (a_call call_assert e c) d k = refl
inst_in_group (a_choice e c o) d k = refl

statement_in_group : {d : Bool} {a all : Items} {ts us : List Token} → Statement d a ts us all → (k : BehindItems) →
    run (have_items a (in_group d k)) ts ≡ run (want_statement d a (in_group d k)) ts
unfolding run step after_items
statement_in_group nothing k = refl
statement_in_group (a_group s) k = refl
statement_in_group (assign e) k = refl
statement_in_group (a_module p s) k = refl
statement_in_group (a_function p e) k = refl
statement_in_group (inst {d = d} i) k = inst_in_group i d k

-- a call whose arguments are open
called : {t : Token} {w : List ℕ} → Callee t w →
    (m : Marks) (a : Items) (k : BehindItems) (p : Place) (ts : List Token) →
    run (want_marked m a k) (t ∷ sign OpenRound p ∷ ts)
    ≡ run (want_arguments (of_statement t.at m w a k)) (sign OpenRound p ∷ ts)
unfolding run step marked_step
called call_word m a k p ts = refl
called call_for m a k p ts = refl
called call_let m a k p ts = refl
called call_echo m a k p ts = refl
called call_assert m a k p ts = refl

runs_no_otherwise : (at : Place) (m : Marks) (e : Expression) (a outer : Items) (k : BehindItems) (ts : List Token) →
    begins_with_key Else ts ≡ false →
    run (have_items a (held_child at m e outer k)) ts
    ≡ run (have_items (with_statement m outer (choice at m.percent m.hash e a no_items)) k) ts
unfolding run step finish after_items finish_items
runs_no_otherwise at m e a outer k [] h = refl
runs_no_otherwise at m e a outer k (t ∷ ts) h =
    same_step (have_items a (held_child at m e outer k))
    (have_items (with_statement m outer (choice at m.percent m.hash e a no_items)) k) t ts (cond-false _ _ _ h)

mutual
  unfolding run step finish end_arguments after_expression end_parameters marked_step first_step definition_step
      statement_step word_statement child_step after_items finish_items

  pub runs_statement : {d : Bool} {a all : Items} {ts us : List Token} → Statement d a ts us all → (k : BehindItems) →
      run (want_statement d a k) ts ≡ run (have_items all k) us
  runs_statement nothing k = refl
  runs_statement (a_group {d = d} s) k = runs_group s k
  runs_statement (assign {a = a} {at = at} {w = w} e) k = runs_expr e (assigned_to at w a k)
  runs_statement (a_module {a = a} {body = body} {at = at} {w = w} {all = all} {vs = vs} p s) k =
      runs_params p (defined the_module at w a k)
      ∙ (runs_statement s (module_body at w all a k)
      ∙ settle (have_items body (module_body at w all a k))
      (have_items (with_item a (module_of at w all body)) k) (λ t. refl) refl vs)
  runs_statement (a_function {a = a} {at = at} {w = w} {all = all} p e) k =
      runs_params p (defined the_function at w a k) ∙ runs_expr e (function_body at w all a k)
  runs_statement (inst {d = d} i) k = inst_at_statement i d k ∙ runs_inst i k

  pub runs_group : {d : Bool} {a all : Items} {ts us : List Token} → Statements d a ts us all → (k : BehindItems) →
      run (have_items a (in_group d k)) ts ≡ run (have_items all (in_group d k)) us
  runs_group no_statement k = refl
  runs_group (statement {d = d} s l) k =
      statement_in_group s k ∙ (runs_statement s (in_group d k) ∙ runs_group l k)

  pub runs_inst : {m : Marks} {a all : Items} {ts us : List Token} → Inst m a ts us all → (k : BehindItems) →
      run (want_marked m a k) ts ≡ run (have_items all k) us
  runs_inst (star_mark i) k = runs_inst i k
  runs_inst (percent_mark i) k = runs_inst i k
  runs_inst (hash_mark i) k = runs_inst i k
  runs_inst (a_call {m = m} {a = a} {children = cs} {t = t} {w = w} {p = p} {all = all} {ts = ts} {vs = vs} n d c) k =
      called n m a k p ts
      ∙ (runs_args d (of_statement t.at m w a k)
      ∙ (runs_child c (child_of t.at m w all a k)
      ∙ settle (have_items cs (child_of t.at m w all a k))
      (have_items (with_statement m a (call_of t.at m.percent m.hash w all cs)) k) (λ t. refl) refl vs))
  runs_inst (a_choice {m = m} {a = a} {held = held} {at = at} {e = e} d c o) k =
      runs_expr d (statement_test at m a k)
      ∙ (runs_child c (held_child at m e a k) ∙ runs_otherwise o at m e held a k)

  pub runs_otherwise : {other : Items} {ts us : List Token} → Otherwise ts us other →
      (at : Place) (m : Marks) (e : Expression) (held outer : Items) (k : BehindItems) →
      run (have_items held (held_child at m e outer k)) ts
      ≡ run (have_items (with_statement m outer (choice at m.percent m.hash e held other)) k) us
  runs_otherwise (no_otherwise {ts = ts} h) at m e held outer k = runs_no_otherwise at m e held outer k ts h
  runs_otherwise (otherwise {other = other} {us = us} c) at m e held outer k =
      runs_child c (other_child at m e held outer k)
      ∙ settle (have_items other (other_child at m e held outer k))
      (have_items (with_statement m outer (choice at m.percent m.hash e held other)) k) (λ t. refl) refl us

  pub runs_child : {all : Items} {ts us : List Token} → Child ts us all → (k : BehindItems) →
      run (want_child k) ts ≡ run (have_items all k) us
  runs_child no_child k = refl
  runs_child (children s) k = runs_group s k
  runs_child (one_child i) k = inst_at_child i k ∙ runs_inst i k

inst_in_program : {a all : Items} {ts us : List Token} → Inst no_marks a ts us all →
    run (have_items a in_program) ts ≡ run (want_statement true a in_program) ts
unfolding run step after_items
inst_in_program (star_mark i) = refl
inst_in_program (percent_mark i) = refl
inst_in_program (hash_mark i) = refl
inst_in_program (a_call call_word e c) = refl
inst_in_program (a_call call_for e c) = refl
inst_in_program (a_call call_let e c) = refl
inst_in_program (a_call call_echo e c) = refl
inst_in_program (a_call call_assert e c) = refl
inst_in_program (a_choice e c o) = refl

statement_in_program : {a all : Items} {ts us : List Token} → Statement true a ts us all →
    run (have_items a in_program) ts ≡ run (want_statement true a in_program) ts
unfolding run step after_items
statement_in_program nothing = refl
statement_in_program (a_group s) = refl
statement_in_program (assign e) = refl
statement_in_program (a_module p s) = refl
statement_in_program (a_function p e) = refl
statement_in_program (inst i) = inst_in_program i

runs_statements : {a all : Items} {ts us : List Token} → Statements true a ts us all →
    run (have_items a in_program) ts ≡ run (have_items all in_program) us
unfolding run step after_items
runs_statements no_statement = refl
runs_statements (statement s l) =
    statement_in_program s ∙ (runs_statement s in_program ∙ runs_statements l)

-- a program that some tokens derive is what their run gives
pub runs_program : {ts : List Token} {all : Items} → Derives ts all → run start ts ≡ Some all
unfolding run finish finish_items
runs_program (program s) = runs_statements s
