-- The turns of the loop over the parameters of a definition.
use Rattle.std.proofs.Common.{◌≡◌, ℕ, zero, suc, ◌<◌, ◌≤◌, ◌++◌, map, Bool, true, false, List, [], ◌∷◌, Option, Some}
use Rattle.std.proofs.Common.{None, Ok, Err, length, refl, sym, ap, subst, ◌∙◌, arith}
use Rattle.std.specs.Prelude.{if◌then◌else◌}
use Rattle.std.proofs.lemmas.Bool.{cond-true, cond-false}
use Rattle.scad_fault.specs.declared.place.Place.{Place}
use Rattle.scad_lex.specs.declared.token.Token.{Token}
use Rattle.scad_lex.specs.declared.token.Sign.TheVariants.{Comma, CloseRound, Assign}
use Rattle.scad_ast.specs.Tree.{Expression, Parameter}
use Rattle.scad_ast.specs.Scope.{parameter}
use Rattle.scad_ast.specs.declared.statement.Param.{Param}
use Rattle.scad_grammar.specs.Tokens.{is_sign, begins_with, word_of}
use Rattle.scad_grammar.specs.Lists.{with_parameter}
use Rattle.scad_grammar.specs.Machine.{Refusal, syntax_at}
use Rattle.scad_grammar.specs.Rules.{Read, then_read, Rules, expr_of}
use Rattle.scad_grammar.specs.StatementRules.{params_of, param_of, param_by, more_params}
use Rattle.scad_grammar.proofs.rules.Fewer.{Leaves, then_leaves, either}
use Rattle.scad_parse.specs.Reading.{below, rules_at, behind, comma_or, no_value}
use Rattle.scad_parse.specs.ReadingStatements.{parameter_of, parameter_by, default_of}
use Rattle.scad_parse.specs.declared.reader.Reader.{Reader}
use Rattle.scad_parse.specs.Standing.{Reads, Turn, standing, nothing_read, lacks, passed}
use Rattle.scad_parse.proofs.loops.Going.{Going, going_begins, going_on, going_ends, fewer_to_come, more_sign}
use Rattle.scad_parse.proofs.loops.Going.{last_sign}
use Rattle.scad_parse.proofs.loops.Going.{turn_passed}
use Rattle.scad_parse.proofs.loops.Turns.{Goes, less, goes_on, stops, leaves, comma_leaves, fewer, to_come}

-- a parameter as the list's last
abbrev pub with_param : List Parameter → Parameter → List Parameter
with_param all p = with_parameter all p.name p.default

-- a list of parameters with one more
pub parameters_push : (xs : List Param) (p : Param) →
    map parameter (xs ++ (p ∷ [])) ≡ with_param (map parameter xs) (parameter p)
parameters_push [] p = refl
parameters_push (x ∷ xs) p = ap (λ all. parameter x ∷ all) (parameters_push xs p)

params_more : (end : Place) (same : Rules) (n : ℕ) (all : List Parameter) (us : List Token) →
    more_params end (params_of end same n all) all us
    ≡ then_read (comma_or (is_sign CloseRound) end no_value us) (λ _ vs. params_of end same n all vs)
unfolding params_of
params_more end same n all [] = refl
params_more end same n all (t ∷ us) = by n (is_sign Comma t) (is_sign CloseRound t) refl
  where
    by : (n : ℕ) (comma ends : Bool) → is_sign CloseRound t ≡ ends →
        (if comma then params_of end same n all us else (if ends then Ok (all, us) else Err (syntax_at t.at)))
        ≡ then_read
        (if comma then Ok (no_value, us) else (if ends then Ok (no_value, t ∷ us) else Err (syntax_at t.at)))
        (λ _ vs. params_of end same n all vs)
    by n true ends h = refl
    by zero false true h = sym (cond-true _ _ _ h)
    by (suc n) false true h = sym (cond-true _ _ _ h)
    by n false false h = refl

module _ (end : Place) (room : ℕ) where
  abbrev pub params_at : ℕ → List Parameter → List Token → Read (List Parameter)
  params_at n all ts = params_of end (rules_at end room) n all ts

  abbrev pub behind_param : ℕ → List Parameter → Parameter → List Token → Read (List Parameter)
  behind_param n all p us =
      then_read (comma_or (is_sign CloseRound) end no_value us) (λ _ vs. params_at n (with_param all p) vs)

  named_same : (n : ℕ) (all : List Parameter) (w : List ℕ) (ts : List Token) →
      param_of end (rules_at end room)
      (λ d us. more_params end (params_at n (with_parameter all w d)) (with_parameter all w d) us) ts
      ≡ then_read (then_read (default_of end (below end room) ts)
      (λ d us. Ok (record { name = w; default = d }, us))) (behind_param n all)
  unfolding default_of
  named_same n all w [] = refl
  named_same n all w (t ∷ ts) = by (is_sign Assign t) (expr_of end (below end room) ts)
    where
      by : (b : Bool) (r : Read Expression) →
          (if b then then_read r (λ e us.
          more_params end (params_at n (with_parameter all w (Some e))) (with_parameter all w (Some e)) us)
          else more_params end (params_at n (with_parameter all w None)) (with_parameter all w None) (t ∷ ts))
          ≡ then_read (then_read (if b then then_read r (λ e us. Ok (Some e, us)) else Ok (None, t ∷ ts))
          (λ d us. Ok (record { name = w; default = d }, us))) (behind_param n all)
      by true (Ok r) = params_more end (rules_at end room) n (with_parameter all w (Some r.0)) r.1
      by true (Err fault) = refl
      by false r = params_more end (rules_at end room) n (with_parameter all w None) (t ∷ ts)

  params_turn : (all : List Parameter) (ts : List Token) → begins_with CloseRound ts ≡ false → (n : ℕ) →
      length ts ≤ n → params_at n all ts ≡ then_read (parameter_of end (below end room) ts) (behind_param (less n) all)
  unfolding params_of parameter_of
  params_turn all [] h zero enough = refl
  params_turn all [] h (suc n) enough = refl
  params_turn all (t ∷ ts) h zero enough = absurd (let no : ⊥ = omega (arith, enough) in no)
  params_turn all (t ∷ ts) h (suc n) enough = cond-false _ _ _ h ∙ by (word_of t)
    where
      by : (o : Option (List ℕ)) → param_by end (rules_at end room) t.at o
          (λ w d us. more_params end (params_at n (with_parameter all w d)) (with_parameter all w d) us) ts
          ≡ then_read (parameter_by end (below end room) t.at o ts) (behind_param n all)
      by None = refl
      by (Some w) = named_same n all w ts

  params_last : (all : List Parameter) (ts : List Token) → begins_with CloseRound ts ≡ true → (n : ℕ) →
      length ts ≤ n → params_at n all ts ≡ Ok (all, behind ts)
  unfolding params_of
  params_last all [] h n enough = absurd (cc)
  params_last all (t ∷ ts) h zero enough = cond-true _ _ _ h
  params_last all (t ∷ ts) h (suc n) enough = cond-true _ _ _ h

  default_leaves : (ts : List Token) → Leaves (suc (length ts)) (default_of end (below end room) ts)
  unfolding default_of
  default_leaves [] = omega arith
  default_leaves (t ∷ ts) =
      either _ (is_sign Assign t) _ _
      (then_leaves (length ts) _ (expr_of end (below end room) ts) _ ((fewer end room).expr ts)
      (λ e us h. omega (arith, h))) (omega arith)

  parameter_leaves : (ts : List Token) → Leaves (length ts) (parameter_of end (below end room) ts)
  unfolding parameter_of
  parameter_leaves [] = tt
  parameter_leaves (t ∷ ts) = by (word_of t)
    where
      by : (o : Option (List ℕ)) → Leaves (suc (length ts)) (parameter_by end (below end room) t.at o ts)
      by None = tt
      by (Some w) = then_leaves _ _ (default_of end (below end room) ts) _ (default_leaves ts) (λ d us h. h)

  -- a parameter and what stands behind it take tokens
  pub params_fewer : (ts us vs : List Token) (p : Parameter) → parameter_of end (below end room) ts ≡ Ok (p, us) →
      comma_or (is_sign CloseRound) end no_value us ≡ Ok (no_value, vs) → length vs < length ts
  params_fewer ts us vs p read comma =
      leaves (length ts) _ no_value vs comma (comma_leaves (is_sign CloseRound) end no_value us (length ts)
      (leaves (length ts) _ p us read (parameter_leaves ts)))

  module _ (whole : Read (List Parameter)) (all : List Parameter) (ts : List Token)
      (more : begins_with CloseRound ts ≡ false) (g : Goes params_at whole all ts) where
    pub params_go : (us vs : List Token) (p : Parameter) → parameter_of end (below end room) ts ≡ Ok (p, us) →
        comma_or (is_sign CloseRound) end no_value us ≡ Ok (no_value, vs) → Goes params_at whole (with_param all p) vs
    params_go us vs p read comma =
        goes_on params_at whole all (with_param all p) ts vs
        (λ n enough. params_turn all ts more n enough ∙ (ap (λ r. then_read r (behind_param (less n) all)) read
        ∙ ap (λ r. then_read r (λ _ ws. params_at (less n) (with_param all p) ws)) comma))
        (params_fewer ts us vs p read comma) g

    pub params_stop : (fault : Refusal) → parameter_of end (below end room) ts ≡ Err fault → whole ≡ Err fault
    params_stop fault read =
        stops params_at whole (Err fault) all ts (λ n enough. params_turn all ts more n enough
        ∙ ap (λ r. then_read r (behind_param (less n) all)) read) g

    pub params_stop_behind : (us : List Token) (p : Parameter) (fault : Refusal) →
        parameter_of end (below end room) ts ≡ Ok (p, us) → comma_or (is_sign CloseRound) end no_value us ≡ Err fault →
        whole ≡ Err fault
    params_stop_behind us p fault read comma =
        stops params_at whole (Err fault) all ts
        (λ n enough. params_turn all ts more n enough ∙ (ap (λ r. then_read r (behind_param (less n) all)) read
        ∙ ap (λ r. then_read r (λ _ ws. params_at (less n) (with_param all p) ws)) comma)) g

  pub params_end : (whole : Read (List Parameter)) (all : List Parameter) (ts : List Token) →
      begins_with CloseRound ts ≡ true → Goes params_at whole all ts → whole ≡ Ok (all, behind ts)
  params_end whole all ts h = stops params_at whole (Ok (all, behind ts)) all ts (params_last all ts h)

-- ---- the loop, as its reader goes on
pub record ParametersGo (room : ℕ) (q r : Reader) (all : List Param) : Type 0 where
  pub ends : r.end ≡ q.end
  pub going : Going (params_at q.end room) [] (standing q) (map parameter all) (standing r)

pub parameters_begin : (room : ℕ) (q : Reader) (all : List Param) → all ≡ [] → ParametersGo room q q all
parameters_begin room q all none = record {
  ends = refl;
  going = going_begins (params_at q.end room) []
      (map parameter all) (standing q) (ap (map parameter) none);
}

module _ (room : ℕ) {q r r1 r2 r3 : Reader} (all after : List Param) (x : Param) (g : ParametersGo room q r all)
    (more : lacks (is_sign CloseRound) (standing r) ≡ true)
    (read : Reads (λ e ts. parameter_of e (below e room) ts) r r1 (parameter x))
    (push : Reads (nothing_read (all ++ (x ∷ []))) r1 r2 after)
    (comma : Reads (λ e ts. comma_or (is_sign CloseRound) e no_value ts) r2 r3 no_value) where
  abbrev read_here : Turn (parameter_of q.end (below q.end room)) (standing r) (standing r1) (parameter x)
  read_here = subst (λ e. Turn (parameter_of e (below e room)) (standing r) (standing r1) (parameter x)) g.ends
      read.turn

  abbrev comma_here : Turn (comma_or (is_sign CloseRound) q.end no_value) (standing r2) (standing r3) no_value
  comma_here = subst (λ e. Turn (comma_or (is_sign CloseRound) e no_value) (standing r2) (standing r3) no_value)
      (push.ends ∙ (read.ends ∙ g.ends)) comma.turn

  pub parameters_go : ParametersGo room q r3 after
  parameters_go = record {
    ends = comma.ends ∙ (push.ends ∙ (read.ends ∙ g.ends));
    going = going_on (params_at q.end room) [] (map parameter) (parameter_of q.end (below q.end room))
        (comma_or (is_sign CloseRound) q.end no_value) all (all ++ (x ∷ [])) after (parameter x) (standing q)
        (standing r)
        (standing r1) (standing r2) (standing r3) g.going read_here push.turn comma_here
        (λ ts0 ts us ws here there is end h. subst (λ xs. Goes (params_at q.end room)
        (params_at q.end room (length ts0) [] ts0) xs ws) (sym (parameters_push all x))
        (params_go q.end room (params_at q.end room (length ts0) [] ts0) (map parameter all) ts
        (more_sign CloseRound (standing r) ts more here) h us ws (parameter x) is end))
        (λ ts0 ts fault here is h. params_stop q.end room (params_at q.end room (length ts0) [] ts0)
        (map parameter all) ts
        (more_sign CloseRound (standing r) ts more here) h fault is)
        (λ ts0 ts us fault here there is end h. params_stop_behind q.end room (params_at q.end room (length ts0) [] ts0)
        (map parameter all) ts (more_sign CloseRound (standing r) ts more here) h us (parameter x) fault is end);
  }

  pub parameters_fewer : to_come (standing r3) < to_come (standing r)
  parameters_fewer = fewer_to_come (params_at q.end room) [] (map parameter) (parameter_of q.end (below q.end room))
      (comma_or (is_sign CloseRound) q.end no_value) all (all ++ (x ∷ [])) after (parameter x) (is_sign CloseRound)
      (standing r) (standing r1) (standing r2) (standing r3) more read_here push.turn comma_here
      (λ ts us ws is end. params_fewer q.end room ts us ws (parameter x) is end)

pub parameters_ended : (room : ℕ) {q r s : Reader} (all : List Param) → ParametersGo room q r all →
    lacks (is_sign CloseRound) (standing r) ≡ false → s.end ≡ r.end → standing s ≡ passed (standing r) →
    Reads (λ e ts. params_of e (rules_at e room) (length ts) [] ts) q s (map parameter all)
parameters_ended room {q} {r} {s} all g last ends now = record {
  ends = ends ∙ g.ends;
  turn = going_ends (params_at q.end room) [] (map parameter all) (λ ts. Ok (map parameter all, behind ts)) (standing q)
      (standing r) (standing s) (map parameter all) g.going
      (subst (λ s. Turn (λ ts. Ok (map parameter all, behind ts)) (standing r) s (map parameter all)) (sym now)
      (turn_passed (standing r) (map parameter all))) (λ ts0 ts here h. params_end q.end room _ (map parameter all) ts
      (last_sign CloseRound (standing r) ts last here) h);
}
