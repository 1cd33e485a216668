-- The rules of parameters give the reader's outcome.
use Rattle.std.proofs.Common.{◌≡◌, ℕ, zero, suc, ◌+◌, ◌≤◌, Bool, true, false, if◌then◌else◌, List, [], ◌∷◌, Option}
use Rattle.std.proofs.Common.{Some, None, Ok, Err, length, refl, ap, sym, ◌∙◌, arith}
use Rattle.scad_fault.specs.declared.place.Place.{Place}
use Rattle.scad_lex.specs.declared.token.Token.{Token}
use Rattle.scad_lex.specs.declared.token.Sign.TheVariants.{CloseRound}
use Rattle.scad_lex.specs.declared.token.Sign.TheVariants.{Comma, Assign}
use Rattle.scad_ast.specs.Tree.{Parameter}
use Rattle.scad_grammar.specs.Tokens.{is_sign, word_of}
use Rattle.scad_grammar.specs.Lists.{with_parameter}
use Rattle.scad_grammar.specs.Behind.{BehindParameters}
use Rattle.scad_grammar.specs.Behind.{default_of}
use Rattle.scad_grammar.specs.Behind.{open_parameters}
use Rattle.scad_grammar.specs.State.{State, open_count, want_expression, have_expression}
use Rattle.scad_grammar.specs.State.{in_parameters, have_parameter, after_parameter}
use Rattle.scad_grammar.specs.Move.{go, stuck}
use Rattle.scad_grammar.specs.Steps.{only, after_expression, end_parameters, after_parameter_step}
use Rattle.scad_grammar.specs.StatementSteps.{parameter_step, parameters_step}
use Rattle.scad_grammar.specs.Machine.{step, finish, syntax_at, most_open, outcome}
use Rattle.scad_grammar.specs.Rules.{Rules}
use Rattle.scad_grammar.specs.StatementRules.{more_params, param_of, param_by, params_of}
use Rattle.scad_grammar.proofs.rules.Turns.{follow, answered, by_outcome, goes, goes_nowhere}
use Rattle.scad_grammar.proofs.rules.Turns.{ends_none, if_gives, settle}
use Rattle.scad_grammar.proofs.rules.Fewer.{Fewer}
use Rattle.scad_grammar.proofs.rules.Outcome.{Linked}
use Rattle.scad_grammar.proofs.rules.Arguments.{then_gives_on}

module _ (end : Place) (n : ℕ) (same : Rules) (linked : Linked end n same) (fewer : Fewer same) where
  abbrev Later : ℕ → BehindParameters → (List Parameter → State) → Type 0
  Later left k next =
      (all : List Parameter) (vs : List Token) → length vs ≤ left →
      outcome (in_parameters all k) vs end ≡ follow (params_of end same left all vs) (λ x ws. outcome (next x) ws end)

  more_gives : (left : ℕ) (all : List Parameter) (us : List Token) (k : BehindParameters)
      (next : List Parameter → State) →
      ((all : List Parameter) (t : Token) → end_parameters all k t ≡ only (is_sign CloseRound t) (next all)) →
      ((all : List Parameter) → open_count (next all) ≤ most_open) → (1 + open_parameters k) + n ≡ most_open →
      length us ≤ suc left → Later left k next →
      outcome (after_parameter all k) us end ≡ follow (more_params end (params_of end same left all) all us)
      (λ x ws. outcome (next x) ws end)
  unfolding step finish after_parameter_step
  more_gives left all [] k next closes fits room long later = ends_none (after_parameter all k) end refl
  more_gives left all (t ∷ us) k next closes fits room long later =
      by_outcome (after_parameter all k) t us end
      ∙ if_gives (is_sign Comma t) _ _ _ _ _ end t.at us
      (goes (in_parameters all k) t.at us end (omega (arith, room)) ∙ later all us (omega (arith, long)))
      (ap (answered end t.at us) (closes all t)
      ∙ if_gives (is_sign CloseRound t) (go (next all)) stuck (Ok (all, us)) (Err (syntax_at t.at)) _ end t.at us
      (goes (next all) t.at us end (fits all)) (goes_nowhere t.at us end))

  param_gives : (left : ℕ) (w : List ℕ) (all : List Parameter) (ts : List Token) (k : BehindParameters)
      (next : List Parameter → State) →
      ((all : List Parameter) (t : Token) → end_parameters all k t ≡ only (is_sign CloseRound t) (next all)) →
      ((all : List Parameter) → open_count (next all) ≤ most_open) → (1 + open_parameters k) + n ≡ most_open →
      length ts ≤ left → Later left k next →
      outcome (have_parameter w all k) ts end
      ≡ follow (param_of end same
      (λ d us. more_params end (params_of end same left (with_parameter all w d)) (with_parameter all w d) us) ts)
      (λ x ws. outcome (next x) ws end)
  unfolding step finish after_expression
  param_gives left w all [] k next closes fits room long later = ends_none (have_parameter w all k) end refl
  param_gives left w all (t ∷ ts) k next closes fits room long later =
      by_outcome (have_parameter w all k) t ts end
      ∙ if_gives (is_sign Assign t) _ _ _ _ _ end t.at ts
      (goes (want_expression (default_of w all k)) t.at ts end (omega (arith, room))
      ∙ then_gives_on (length ts) _ (same.expr ts) _
      (λ e us. outcome (have_expression e (default_of w all k)) us end) _ (fewer.expr ts)
      (linked.expr ts (default_of w all k) room)
      (λ e us h. settle (have_expression e (default_of w all k))
      (after_parameter (with_parameter all w (Some e)) k) (λ t. refl) refl us end
      ∙ more_gives left (with_parameter all w (Some e)) us k next closes fits room
      (omega (arith, long, h)) later))
      (sym (by_outcome (after_parameter (with_parameter all w None) k) t ts end)
      ∙ more_gives left (with_parameter all w None) (t ∷ ts) k next closes fits room (omega (arith, long)) later)

  word_gives : (left : ℕ) (at : Place) (o : Option (List ℕ)) (all : List Parameter) (ts : List Token)
      (k : BehindParameters) (next : List Parameter → State) →
      ((all : List Parameter) (t : Token) → end_parameters all k t ≡ only (is_sign CloseRound t) (next all)) →
      ((all : List Parameter) → open_count (next all) ≤ most_open) → (1 + open_parameters k) + n ≡ most_open →
      length ts ≤ left → Later left k next →
      answered end at ts (parameter_step o all k)
      ≡ follow (param_by end same at o
      (λ w d us. more_params end (params_of end same left (with_parameter all w d)) (with_parameter all w d) us)
      ts)
      (λ x ws. outcome (next x) ws end)
  word_gives left at (Some w) all ts k next closes fits room long later =
      goes (have_parameter w all k) at ts end (omega (arith, room))
      ∙ param_gives left w all ts k next closes fits room long later
  word_gives left at None all ts k next closes fits room long later = goes_nowhere at ts end

  pub over_params : (left : ℕ) (k : BehindParameters) (next : List Parameter → State) →
      ((all : List Parameter) (t : Token) → end_parameters all k t ≡ only (is_sign CloseRound t) (next all)) →
      ((all : List Parameter) → open_count (next all) ≤ most_open) → (1 + open_parameters k) + n ≡ most_open →
      Later left k next
  unfolding step parameters_step params_of finish
  over_params zero k next closes fits room all [] long = ends_none (in_parameters all k) end refl
  over_params (suc left) k next closes fits room all [] long = ends_none (in_parameters all k) end refl
  over_params zero k next closes fits room all (t ∷ ts) long = absurd (omega arith)
  over_params (suc left) k next closes fits room all (t ∷ ts) long =
      let later = over_params left k next closes fits room in
      by_outcome (in_parameters all k) t ts end
      ∙ closing (is_sign CloseRound t) refl later
    where
      closing : (b : Bool) → is_sign CloseRound t ≡ b → Later left k next →
          answered end t.at ts (if b then end_parameters all k t else parameter_step (word_of t) all k)
          ≡ follow (if b then Ok (all, ts) else param_by end same t.at (word_of t) (λ w d us.
          more_params end (params_of end same left (with_parameter all w d)) (with_parameter all w d) us) ts)
          (λ x ws. outcome (next x) ws end)
      closing true h later =
          ap (answered end t.at ts) (closes all t ∙ ap (λ (b : Bool). only b (next all)) h)
          ∙ goes (next all) t.at ts end (fits all)
      closing false h later =
          word_gives left t.at (word_of t) all ts k next closes fits room (omega (arith, long)) later
