-- Where some program begins with tokens, and only there, the reader stands somewhere behind them.
use Rattle.std.proofs.Common.{◌≡◌, List, [], ◌∷◌, ◌++◌, Option, Some, None, refl, ap, sym, ◌∙◌, subst}
use Rattle.scad_lex.specs.declared.token.Token.{Token}
use Rattle.scad_ast.specs.Tree.{Items}
use Rattle.scad_grammar.specs.Statements.{Begins}
use Rattle.scad_grammar.specs.State.{State}
use Rattle.scad_grammar.specs.Move.{Move, go, left_out, stuck}
use Rattle.scad_grammar.specs.Machine.{step, start, reach, run}
use Rattle.scad_grammar.proofs.reader.Runs.{follow, by_move}
use Rattle.scad_grammar.proofs.reader.Goes.{Goes}
use Rattle.scad_grammar.proofs.reader.Tests.{MoveGoes}
use Rattle.scad_grammar.proofs.reader.Statements.{runs_program}
use Rattle.scad_grammar.proofs.reader.Sound.{sound, into_program}
use Rattle.scad_grammar.proofs.reader.Viable.{viable}
use Rattle.std.proofs.lemmas.Option.{same_Some, none-some}

-- where a reader stands behind a move and further tokens
abbrev pub reach_by : Move → List Token → Option State
reach_by (go next) ts = reach next ts
reach_by (left_out w) ts = None
reach_by stuck ts = None

pub by_reach : (s : State) (t : Token) (ts : List Token) → reach s (t ∷ ts) ≡ reach_by (step s t) ts
unfolding reach
by_reach s t ts = reach_cases (step s t)
  where
    reach_cases : (m : Move) →
        elim m as (λ x. Option State) [ go next ↦ reach next ts | left_out w ↦ None | stuck ↦ None ] ≡ reach_by m ts
    reach_cases (go next) = refl
    reach_cases (left_out w) = refl
    reach_cases stuck = refl

-- tokens that go on behind what is reached go on behind all
goes_on : (m : Move) (ts more : List Token) (p : Items) →
    ((s s' : State) → reach s ts ≡ Some s' → Goes s' more p → Goes s (ts ++ more) p) →
    (s' : State) → reach_by m ts ≡ Some s' → Goes s' more p → MoveGoes m (ts ++ more) p
goes_on (go next) ts more p f s' h g = f next s' h g
goes_on (left_out w) ts more p f s' h g = none-some _ h
goes_on stuck ts more p f s' h g = none-some _ h

pub reached_goes : (ts more : List Token) (p : Items) (s s' : State) → reach s ts ≡ Some s' → Goes s' more p →
    Goes s (ts ++ more) p
unfolding reach
reached_goes [] more p s s' h g = subst (λ (x : State). Goes x more p) (sym (same_Some s s' h)) g
reached_goes (t ∷ ts) more p s s' h g =
    sound s t (ts ++ more) p (goes_on (step s t) ts more p (reached_goes ts more p) s' (sym (by_reach s t ts) ∙ h) g)

-- what the reader reaches begins a program
pub reached_begins : (ts : List Token) (s : State) → reach start ts ≡ Some s → Begins ts
reached_begins ts s h =
    let e = viable s in (e.ts, e.p, into_program (reached_goes ts e.ts e.p start s h e.goes))

-- tokens that run on to a program are reached
record Reached (s : State) (ts : List Token) : Type 0 where
  pub at : State
  pub is : reach s ts ≡ Some at

runs_on : (m : Move) (ts more : List Token) (p : Items) →
    ((s : State) → run s (ts ++ more) ≡ Some p → Reached s ts) →
    follow m (ts ++ more) ≡ Some p → (s' : State) × (reach_by m ts ≡ Some s')
runs_on (go next) ts more p f h = let r = f next h in (r.at, r.is)
runs_on (left_out w) ts more p f h = absurd (none-some _ h)
runs_on stuck ts more p f h = absurd (none-some _ h)

run_reached : (ts more : List Token) (p : Items) (s : State) → run s (ts ++ more) ≡ Some p → Reached s ts
unfolding reach
run_reached [] more p s h = record { at = s; is = refl }
run_reached (t ∷ ts) more p s h =
    let r = runs_on (step s t) ts more p (run_reached ts more p) (sym (by_move s t (ts ++ more)) ∙ h) in
    record { at = r.0; is = by_reach s t ts ∙ r.1 }

pub begins_reached : (ts : List Token) → Begins ts → (s : State) × (reach start ts ≡ Some s)
begins_reached ts b =
    let r = run_reached ts b.0 b.1 start (runs_program b.2) in (r.at, r.is)

-- one token more
reach_more : (m : Move) (ts : List Token) (t : Token) (s' : State) →
    ((s s' : State) → reach s ts ≡ Some s' → reach s (ts ++ (t ∷ [])) ≡ reach_by (step s' t) []) →
    reach_by m ts ≡ Some s' → reach_by m (ts ++ (t ∷ [])) ≡ reach_by (step s' t) []
reach_more (go next) ts t s' f h = f next s' h
reach_more (left_out w) ts t s' f h = absurd (none-some _ h)
reach_more stuck ts t s' f h = absurd (none-some _ h)

pub reach_one : (ts : List Token) (t : Token) (s s' : State) → reach s ts ≡ Some s' → reach s (ts ++ (t ∷ []))
    ≡ reach_by (step s' t) []
unfolding reach
reach_one [] t s s' h = by_reach s t [] ∙ ap (λ (x : State). reach_by (step x t) []) (same_Some s s' h)
reach_one (u ∷ ts) t s s' h =
    by_reach s u (ts ++ (t ∷ [])) ∙ reach_more (step s u) ts t s' (reach_one ts t) (sym (by_reach s u ts) ∙ h)

-- what is reached by one token more
pub reached_next : (before : List Token) (t : Token) (s : State) (m : Move) → reach start before ≡ Some s →
    step s t ≡ m →
    reach start (before ++ (t ∷ [])) ≡ reach_by m []
reached_next before t s m h e = reach_one before t start s h ∙ ap (λ (x : Move). reach_by x []) e

pub goes_next : (before : List Token) (t : Token) (s next : State) → reach start before ≡ Some s → step s t
    ≡ go next →
    reach start (before ++ (t ∷ [])) ≡ Some next
unfolding reach
goes_next before t s next h e = reached_next before t s (go next) h e

pub stuck_begins_nothing : (before : List Token) (t : Token) (s : State) (m : Move) → reach start before
    ≡ Some s → step s t ≡ m →
    reach_by m [] ≡ None → Begins (before ++ (t ∷ [])) → ⊥
stuck_begins_nothing before t s m h e none b =
    none-some _ (sym none ∙ (sym (reached_next before t s m h e) ∙ (begins_reached (before ++ (t ∷ [])) b).1))
