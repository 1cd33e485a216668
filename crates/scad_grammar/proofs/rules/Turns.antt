-- What the reader gives behind a token, and behind what a rule reads.
use Rattle.std.proofs.Common.{◌≡◌, ℕ, ◌<◌, ◌≤◌, Bool, true, false, if◌then◌else◌, List, [], ◌∷◌, None, Result, Ok}
use Rattle.std.proofs.Common.{Err, refl, ap, sym, ◌∙◌, arith}
use Rattle.std.specs.Prelude.{nat_lt}
use Rattle.std.proofs.lemmas.Bool.Decides.{nat_tests}
use Rattle.scad_fault.specs.declared.place.Place.{Place}
use Rattle.scad_lex.specs.declared.token.Token.{Token}
use Rattle.scad_lex.specs.declared.token.Sign.{Sign as SignName}
use Rattle.scad_ast.specs.Tree.{Items}
use Rattle.scad_grammar.specs.Tokens.{is_sign}
use Rattle.scad_grammar.specs.State.{State, open_count}
use Rattle.scad_grammar.specs.Move.{Move, go, left_out, stuck}
use Rattle.scad_grammar.specs.Steps.{only}
use Rattle.scad_grammar.specs.Machine.{step, finish, Refusal, syntax_at, nesting_at, left_out_at, most_open}
use Rattle.scad_grammar.specs.Machine.{judge_move, judge_end, outcome}
use Rattle.scad_grammar.specs.Rules.{Read, then_read, behind_sign}

-- what the reader gives where a rule has read something, or the rule's fault
abbrev pub follow : {A : Type 0} → Read A → (A → List Token → Result Items Refusal) → Result Items Refusal
follow (Ok r) next = next r.0 r.1
follow (Err fault) next = Err fault

-- and behind one judged token
abbrev pub judged_by : Result State Refusal → List Token → Place → Result Items Refusal
judged_by (Ok next) ts end = outcome next ts end
judged_by (Err fault) ts end = Err fault

abbrev pub answered : Place → Place → List Token → Move → Result Items Refusal
answered end at ts m = judged_by (judge_move at m) ts end

pub by_outcome : (s : State) (t : Token) (ts : List Token) (end : Place) →
    outcome s (t ∷ ts) end ≡ answered end t.at ts (step s t)
unfolding outcome
by_outcome s t ts end = outcome_cases (judge_move t.at (step s t))
  where
    outcome_cases : (r : Result State Refusal) →
        elim r as (λ x. Result Items Refusal) [ Ok next ↦ outcome next ts end | Err fault ↦ Err fault ]
        ≡ judged_by r ts end
    outcome_cases (Ok next) = refl
    outcome_cases (Err fault) = refl

pub goes : (next : State) (at : Place) (ts : List Token) (end : Place) → open_count next ≤ most_open →
    answered end at ts (go next) ≡ outcome next ts end
unfolding judge_move
goes next at ts end few =
    let fits : nat_lt most_open (open_count next) ≡ false = grind (arith, nat_tests) in
    ap (λ (b : Bool). judged_by (if b then Err (nesting_at at) else Ok next) ts end) fits

pub too_deep : (next : State) (at : Place) (ts : List Token) (end : Place) → most_open < open_count next →
    answered end at ts (go next) ≡ Err (nesting_at at)
unfolding judge_move
too_deep next at ts end many =
    let passes : nat_lt most_open (open_count next) ≡ true = grind (arith, nat_tests) in
    ap (λ (b : Bool). judged_by (if b then Err (nesting_at at) else Ok next) ts end) passes

pub goes_nowhere : (at : Place) (ts : List Token) (end : Place) → answered end at ts stuck ≡ Err (syntax_at at)
unfolding judge_move
goes_nowhere at ts end = refl

pub leaves_out : (w : List ℕ) (at : Place) (ts : List Token) (end : Place) →
    answered end at ts (left_out w) ≡ Err (left_out_at at w)
unfolding judge_move
leaves_out w at ts end = refl

-- at the end of the text
pub ends_none : (s : State) (end : Place) → finish s ≡ None → outcome s [] end ≡ Err (syntax_at end)
unfolding outcome judge_end
ends_none s end e = ap (judge_end end) e

-- by a test that the rule makes too
pub if_gives : {A : Type 0} (b : Bool) (m₁ m₂ : Move) (r₁ r₂ : Read A) (next : A → List Token → Result Items Refusal)
    (end at : Place) (ts : List Token) →
    answered end at ts m₁ ≡ follow r₁ next → answered end at ts m₂ ≡ follow r₂ next →
    answered end at ts (if b then m₁ else m₂) ≡ follow (if b then r₁ else r₂) next
if_gives true m₁ m₂ r₁ r₂ next end at ts h g = h
if_gives false m₁ m₂ r₁ r₂ next end at ts h g = g

-- one rule and another behind it
pub then_gives : {A B : Type 0} (x : Result Items Refusal) (r : Read A) (f : A → List Token → Read B)
    (mid : A → List Token → Result Items Refusal) (next : B → List Token → Result Items Refusal) →
    x ≡ follow r mid → ((a : A) (us : List Token) → mid a us ≡ follow (f a us) next) → x ≡ follow (then_read r f) next
then_gives x (Ok r) f mid next h g = h ∙ g r.0 r.1
then_gives x (Err fault) f mid next h g = h

-- a sign that alone may stand here
pub sign_gives : {A : Type 0} (s : SignName) (from to : State) (us : List Token) (f : List Token → Read A)
    (next : A → List Token → Result Items Refusal) (end : Place) →
    finish from ≡ None → ((t : Token) → step from t ≡ only (is_sign s t) to) → open_count to ≤ most_open →
    ((vs : List Token) → outcome to vs end ≡ follow (f vs) next) →
    outcome from us end ≡ follow (behind_sign end s us f) next
sign_gives s from to [] f next end none steps few behind = ends_none from end none
sign_gives s from to (t ∷ us) f next end none steps few behind =
    by_outcome from t us end ∙ (ap (answered end t.at us) (steps t)
    ∙ if_gives (is_sign s t) (go to) stuck (f us) (Err (syntax_at t.at)) next end t.at us
    (goes to t.at us end few ∙ behind us) (goes_nowhere t.at us end))

-- states at which each token does the same
pub settle : (s s' : State) → ((t : Token) → step s t ≡ step s' t) → finish s ≡ finish s' →
    (ts : List Token) (end : Place) →
    outcome s ts end ≡ outcome s' ts end
unfolding outcome
settle s s' same ends [] end = ap (judge_end end) ends
settle s s' same ends (t ∷ ts) end =
    by_outcome s t ts end ∙ (ap (answered end t.at ts) (same t) ∙ sym (by_outcome s' t ts end))
