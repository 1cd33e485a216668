-- A rule of statements leaves fewer tokens than it begins with.
use Rattle.std.proofs.Common.{ℕ, zero, suc, ◌<◌, Bool, true, false, List, [], ◌∷◌, Option, Some, None, length, arith}
use Rattle.scad_fault.specs.declared.place.Place.{Place}
use Rattle.scad_lex.specs.declared.token.Token.{Token}
use Rattle.scad_lex.specs.declared.token.Sign.TheVariants.{OpenRound, CloseRound, OpenCurly, CloseCurly, Semicolon}
use Rattle.scad_lex.specs.declared.token.Sign.TheVariants.{Comma, Assign, Star, Percent, Hash, Bang}
use Rattle.scad_lex.specs.declared.token.Key.TheVariants.{Module, Function, If, Else, Include, Use}
use Rattle.scad_ast.specs.Tree.{Expression, Parameter, Items, no_items}
use Rattle.scad_grammar.specs.Tokens.{is_sign, is_key, word_of}
use Rattle.scad_grammar.specs.Lists.{with_parameter, Marks, no_marks, starred, percented, hashed}
use Rattle.scad_grammar.specs.StatementSteps.{callee}
use Rattle.scad_grammar.specs.Rules.{Read, Rules, deeper, expr_to, in_round_of, rules}
use Rattle.scad_grammar.specs.StatementRules.{StatementRules, more_params, param_of, param_by, params_of, call_first}
use Rattle.scad_grammar.specs.StatementRules.{marked_first, first_of, child_of, call_behind_of, otherwise_of}
use Rattle.scad_grammar.specs.StatementRules.{choice_behind_of, call_by, marked_of, word_behind_of, definition_of}
use Rattle.scad_grammar.specs.StatementRules.{start_of, statement_of, group_of, heading_by, heading_of}
use Rattle.scad_grammar.specs.StatementRules.{above_statements, statement_rules}
use Rattle.scad_grammar.proofs.rules.Fewer.{Leaves, wider, then_leaves, either, sign_leaves, Fewer, expr_to_leaves}
use Rattle.scad_grammar.proofs.rules.FewerElements.{rules_fewer}

pub record FewerStatements (r : StatementRules) : Type 0 where
  pub statement : (d : Bool) (all : Items) (ts : List Token) → Leaves (length ts) (r.statement d all ts)
  pub group : (d : Bool) (all : Items) (ts : List Token) → Leaves (length ts) (r.group d all ts)
  pub word_behind : (at : Place) (w : List ℕ) (all : Items) (ts : List Token) →
      Leaves (length ts) (r.word_behind at w all ts)
  pub marked : (m : Marks) (all : Items) (ts : List Token) → Leaves (length ts) (r.marked m all ts)
  pub call_behind : (at : Place) (m : Marks) (w : List ℕ) (all : Items) (ts : List Token) →
      Leaves (length ts) (r.call_behind at m w all ts)
  pub choice_behind : (at : Place) (m : Marks) (all : Items) (ts : List Token) →
      Leaves (length ts) (r.choice_behind at m all ts)
  pub module_behind : (at : Place) (all : Items) (ts : List Token) → Leaves (length ts) (r.module_behind at all ts)
  pub function_behind : (at : Place) (all : Items) (ts : List Token) →
      Leaves (length ts) (r.function_behind at all ts)
  pub params_closed : (ts : List Token) → Leaves (length ts) (r.params_closed ts)

abbrev pub BelowFewerStatements : Option StatementRules → Type 0
BelowFewerStatements None = Unit {0}
BelowFewerStatements (Some r) = FewerStatements r

deeper_leaves : {A : Type 0} (n : ℕ) (below : Option StatementRules) → BelowFewerStatements below →
    (at : Place) (f : StatementRules → Read A) →
    ((r : StatementRules) → FewerStatements r → Leaves n (f r)) → Leaves n (deeper below at f)
deeper_leaves n None few at f go_on = tt
deeper_leaves n (Some r) few at f go_on = go_on r few

module _ (end : Place) (same : Rules) (fewer : Fewer same) (below : Option StatementRules)
    (few : BelowFewerStatements below) where
  -- parameters
  more_leave : (n : ℕ) (go_on : List Token → Read (List Parameter)) (all : List Parameter) (us : List Token) →
      length us < n →
      ((vs : List Token) → length vs < n → Leaves n (go_on vs)) → Leaves n (more_params end go_on all us)
  more_leave n go_on all [] h later = tt
  more_leave n go_on all (t ∷ us) h later =
      either n (is_sign Comma t) _ _ (later us (omega arith)) (either n (is_sign CloseRound t) _ _ (omega arith) tt)

  param_leaves : (n : ℕ) (f : Option Expression → List Token → Read (List Parameter)) (ts : List Token) →
      length ts < n →
      ((d : Option Expression) (us : List Token) → length us < n → Leaves n (f d us)) →
      Leaves n (param_of end same f ts)
  param_leaves n f [] h later = tt
  param_leaves n f (t ∷ ts) h later =
      either n (is_sign Assign t) _ _
      (then_leaves (length ts) n (same.expr ts) _ (fewer.expr ts) (λ e us g. later (Some e) us (omega (arith, h, g))))
      (later None (t ∷ ts) h)

  word_param : (n : ℕ) (at : Place) (o : Option (List ℕ))
      (f : List ℕ → Option Expression → List Token → Read (List Parameter)) (ts : List Token) →
      length ts < n → ((w : List ℕ) (d : Option Expression) (us : List Token) → length us < n → Leaves n (f w d us)) →
      Leaves n (param_by end same at o f ts)
  word_param n at (Some w) f ts h later = param_leaves n (f w) ts h (later w)
  word_param n at None f ts h later = tt

  params_leave : (left : ℕ) (all : List Parameter) (ts : List Token) →
      Leaves (length ts) (params_of end same left all ts)
  unfolding params_of
  params_leave zero all [] = tt
  params_leave (suc left) all [] = tt
  params_leave zero all (t ∷ ts) = either _ (is_sign CloseRound t) _ _ (omega arith) tt
  params_leave (suc left) all (t ∷ ts) =
      let later = params_leave left in
      either _ (is_sign CloseRound t) _ _ (omega arith)
      (word_param (suc (length ts)) t.at (word_of t) _ ts (omega arith)
      (λ w d us h. more_leave (suc (length ts)) _ (with_parameter all w d) us h
      (λ vs g. wider (length vs) (suc (length ts)) _ (omega arith) (later (with_parameter all w d) vs))))

  -- calls, `if` and children
  call_leaves : (t : Token) (o : Option (List ℕ)) (all : Items) (ts : List Token) →
      Leaves (length ts) (call_first below t o all ts)
  call_leaves t (Some w) all ts = deeper_leaves _ below few t.at _ (λ r h. h.call_behind t.at no_marks w all ts)
  call_leaves t None all ts = tt

  first_leaves : (t : Token) (all : Items) (ts : List Token) → Leaves (length ts) (first_of below t all ts)
  unfolding first_of marked_first
  first_leaves t all ts =
      either _ (is_key Include t) _ _ tt (either _ (is_key Use t) _ _ tt
      (either _ (is_sign Star t) _ _ (deeper_leaves _ below few t.at _ (λ r h. h.marked (starred no_marks) all ts))
      (either _ (is_sign Percent t) _ _
      (deeper_leaves _ below few t.at _ (λ r h. h.marked (percented no_marks) all ts))
      (either _ (is_sign Hash t) _ _ (deeper_leaves _ below few t.at _ (λ r h. h.marked (hashed no_marks) all ts))
      (either _ (is_sign Bang t) _ _ tt
      (either _ (is_key If t) _ _ (deeper_leaves _ below few t.at _ (λ r h. h.choice_behind t.at no_marks all ts))
      (call_leaves t (callee t) all ts)))))))

  child_leaves : (ts : List Token) → Leaves (length ts) (child_of end below ts)
  unfolding child_of
  child_leaves [] = tt
  child_leaves (t ∷ ts) =
      either _ (is_sign Semicolon t) _ _ (omega arith)
      (either _ (is_sign OpenCurly t) _ _
      (deeper_leaves _ below few t.at _ (λ r h. wider (length ts) _ _ (omega arith) (h.group false no_items ts)))
      (wider (length ts) _ _ (omega arith) (first_leaves t no_items ts)))

  call_behind_leaves : (at : Place) (m : Marks) (w : List ℕ) (all : Items) (ts : List Token) →
      Leaves (length ts) (call_behind_of end same below at m w all ts)
  call_behind_leaves at m w all ts =
      then_leaves (length ts) _ (same.round_args ts) _ (fewer.round_args ts)
      (λ args us h. then_leaves (length us) _ (child_of end below us) _ (child_leaves us)
      (λ c vs g. omega (arith, h, g)))

  otherwise_leaves : (at : Place) (m : Marks) (e : Expression) (all held : Items) (ts : List Token) →
      Leaves (suc (length ts)) (otherwise_of end below at m e all held ts)
  otherwise_leaves at m e all held [] = omega arith
  otherwise_leaves at m e all held (t ∷ ts) =
      either _ (is_key Else t) _ _
      (then_leaves (length ts) _ (child_of end below ts) _ (child_leaves ts) (λ o us h. omega (arith, h)))
      (omega arith)

  choice_behind_leaves : (at : Place) (m : Marks) (all : Items) (ts : List Token) →
      Leaves (length ts) (choice_behind_of end same below at m all ts)
  choice_behind_leaves at m all ts =
      then_leaves (length ts) _ (same.round_expr ts) _ (fewer.round_expr ts)
      (λ e us h. then_leaves (length us) _ (child_of end below us) _ (child_leaves us)
      (λ held vs g. wider (suc (length vs)) _ _ (omega (arith, h, g)) (otherwise_leaves at m e all held vs)))

  call_by_leaves : (t : Token) (o : Option (List ℕ)) (m : Marks) (all : Items) (ts : List Token) →
      Leaves (length ts) (call_by end same below t o m all ts)
  call_by_leaves t (Some w) m all ts = call_behind_leaves t.at m w all ts
  call_by_leaves t None m all ts = tt

  marked_leave : (m : Marks) (all : Items) (ts : List Token) → Leaves (length ts) (marked_of end same below m all ts)
  unfolding marked_of
  marked_leave m all [] = tt
  marked_leave m all (t ∷ ts) =
      either _ (is_sign Star t) _ _ (wider (length ts) _ _ (omega arith) (marked_leave (starred m) all ts))
      (either _ (is_sign Percent t) _ _ (wider (length ts) _ _ (omega arith) (marked_leave (percented m) all ts))
      (either _ (is_sign Hash t) _ _ (wider (length ts) _ _ (omega arith) (marked_leave (hashed m) all ts))
      (either _ (is_sign Bang t) _ _ tt
      (either _ (is_key If t) _ _ (wider (length ts) _ _ (omega arith) (choice_behind_leaves t.at m all ts))
      (wider (length ts) _ _ (omega arith) (call_by_leaves t (callee t) m all ts))))))

  -- statements
  word_behind_leaves : (at : Place) (w : List ℕ) (all : Items) (ts : List Token) →
      Leaves (length ts) (word_behind_of end same below at w all ts)
  word_behind_leaves at w all [] = tt
  word_behind_leaves at w all (t ∷ ts) =
      either _ (is_sign Assign t) _ _
      (then_leaves (length ts) _ (expr_to end Semicolon same.expr ts) _
      (expr_to_leaves end Semicolon same.expr ts (fewer.expr ts)) (λ e us h. omega (arith, h)))
      (call_behind_leaves at no_marks w all (t ∷ ts))

  definition_leaves : (d : Bool) (t : Token) (all : Items) (ts : List Token) →
      Leaves (length ts) (definition_of d below t all ts)
  unfolding definition_of
  definition_leaves false t all ts = first_leaves t all ts
  definition_leaves true t all ts =
      either _ (is_key Module t) _ _ (deeper_leaves _ below few t.at _ (λ r h. h.module_behind t.at all ts))
      (either _ (is_key Function t) _ _ (deeper_leaves _ below few t.at _ (λ r h. h.function_behind t.at all ts))
      (first_leaves t all ts))

  start_leaves : (d : Bool) (t : Token) (o : Option (List ℕ)) (all : Items) (ts : List Token) →
      Leaves (length ts) (start_of d below t o all ts)
  start_leaves d t (Some w) all ts = deeper_leaves _ below few t.at _ (λ r h. h.word_behind t.at w all ts)
  start_leaves d t None all ts = definition_leaves d t all ts

  pub statement_leaves : (d : Bool) (all : Items) (ts : List Token) →
      Leaves (length ts) (statement_of end below d all ts)
  unfolding statement_of
  statement_leaves d all [] = tt
  statement_leaves d all (t ∷ ts) =
      either _ (is_sign Semicolon t) _ _ (omega arith)
      (either _ (is_sign OpenCurly t) _ _
      (deeper_leaves _ below few t.at _ (λ r h. wider (length ts) _ _ (omega arith) (h.group d all ts)))
      (wider (length ts) _ _ (omega arith) (start_leaves d t (word_of t) all ts)))

  group_leaves : (left : ℕ) (d : Bool) (all : Items) (ts : List Token) →
      Leaves (length ts) (group_of end below left d all ts)
  unfolding group_of
  group_leaves zero d all [] = tt
  group_leaves (suc left) d all [] = tt
  group_leaves zero d all (t ∷ ts) = either _ (is_sign CloseCurly t) _ _ (omega arith) tt
  group_leaves (suc left) d all (t ∷ ts) =
      let later = group_leaves left d in
      either _ (is_sign CloseCurly t) _ _ (omega arith)
      (then_leaves (suc (length ts)) _ (statement_of end below d all (t ∷ ts)) _ (statement_leaves d all (t ∷ ts))
      (λ b us h. wider (length us) _ _ (omega arith) (later b us)))

  round_params : (ts : List Token) → Leaves (length ts) (in_round_of end below (λ r us. r.params_closed us) ts)
  round_params [] = tt
  round_params (t ∷ ts) =
      either _ (is_sign OpenRound t) _ _
      (deeper_leaves _ below few t.at _ (λ r h. wider (length ts) _ _ (omega arith) (h.params_closed ts))) tt

  heading_word : {A : Type 0} (n : ℕ) (at : Place) (o : Option (List ℕ))
      (f : List ℕ → List Parameter → List Token → Read A) (ts : List Token) →
      length ts < n → ((w : List ℕ) (ps : List Parameter) (us : List Token) → length us < n → Leaves n (f w ps us)) →
      Leaves n (heading_by end below at o f ts)
  heading_word n at (Some w) f ts h later =
      then_leaves (length ts) n (in_round_of end below (λ r us. r.params_closed us) ts) _ (round_params ts)
      (λ ps us g. later w ps us (omega (arith, h, g)))
  heading_word n at None f ts h later = tt

  heading_leaves : {A : Type 0} (f : List ℕ → List Parameter → List Token → Read A) (ts : List Token) →
      ((w : List ℕ) (ps : List Parameter) (us : List Token) → length us < length ts →
      Leaves (length ts) (f w ps us)) →
      Leaves (length ts) (heading_of end below f ts)
  heading_leaves f [] later = tt
  heading_leaves f (t ∷ ts) later = heading_word (suc (length ts)) t.at (word_of t) f ts (omega arith) later

  above_fewer : FewerStatements (above_statements end same below)
  above_fewer = record {
    statement = statement_leaves;
    group = λ d all ts. group_leaves (length ts) d all ts;
    word_behind = word_behind_leaves;
    marked = marked_leave;
    call_behind = call_behind_leaves;
    choice_behind = choice_behind_leaves;
    module_behind = λ at all ts. heading_leaves _ ts (λ w ps us h.
        then_leaves (length us) _ (statement_of end below true no_items us) _ (statement_leaves true no_items us)
        (λ body vs g. omega (arith, h, g)));
    function_behind = λ at all ts. heading_leaves _ ts (λ w ps us h.
        sign_leaves end _ Assign us _ (λ vs g.
        then_leaves (length vs) _ (expr_to end Semicolon same.expr vs) _
        (expr_to_leaves end Semicolon same.expr vs (fewer.expr vs)) (λ e ws f. omega (arith, h, g, f))));
    params_closed = λ ts. params_leave (length ts) [] ts;
  }

pub statements_fewer : (end : Place) (n : ℕ) → FewerStatements (statement_rules end n)
statements_fewer end zero = above_fewer end (rules end zero) (rules_fewer end zero) None tt
statements_fewer end (suc n) =
    above_fewer end (rules end (suc n)) (rules_fewer end (suc n)) (Some (statement_rules end n))
    (statements_fewer end n)
