-- The reader's answer is the one that the grammar judges.
use Rattle.std.proofs.Common.{◌≡◌, ℕ, ◌<◌, ◌≤◌, Bool, true, false, if◌then◌else◌, List, [], ◌∷◌, ◌++◌, Option, Some}
use Rattle.std.proofs.Common.{None, Result, Ok, Err, refl, ap, sym, ◌∙◌, subst, arith}
use Rattle.std.specs.Prelude.{nat_lt}
use Rattle.std.proofs.lemmas.List.{append-nil}
use Rattle.std.proofs.lemmas.Bool.{lt-ltb, le-ltb, ltb-true, ltb-false, false≢true}
use Rattle.scad_fault.specs.declared.place.Place.{Place}
use Rattle.scad_lex.specs.declared.token.Token.{Token}
use Rattle.scad_ast.specs.Tree.{Items}
use Rattle.scad_grammar.specs.Statements.{Derives, Begins}
use Rattle.scad_grammar.specs.State.{State, open_count}
use Rattle.scad_grammar.specs.Move.{Move, go, left_out, stuck}
use Rattle.scad_grammar.specs.Machine.{step, finish, start, reach, run, Refusal, syntax_at, nesting_at, most_open}
use Rattle.scad_grammar.specs.Machine.{judge_move, judge_end, outcome}
use Rattle.scad_grammar.specs.LeftOut.{IsLeftOut}
use Rattle.scad_grammar.specs.Nesting.{Opens}
use Rattle.scad_grammar.specs.Verdict.{MayStand, Judged, is_program, ends_early, is_left_out, is_misplaced, is_nested}
use Rattle.scad_grammar.specs.Verdict.{stands}
use Rattle.scad_grammar.proofs.reader.Runs.{follow, by_move}
use Rattle.scad_grammar.proofs.reader.Statements.{runs_program}
use Rattle.scad_grammar.proofs.reader.Sound.{sound_finish, into_program}
use Rattle.scad_grammar.proofs.reader.Prefix.{reach_by, by_reach, reached_goes, reached_begins, goes_next}
use Rattle.scad_grammar.proofs.reader.Prefix.{stuck_begins_nothing}
use Rattle.scad_grammar.proofs.nesting.Open.{counts_what_is_open}
use Rattle.scad_grammar.proofs.faults.Leaves.{leaves}
use Rattle.scad_grammar.proofs.faults.Forms.{left_is, left_step}
use Rattle.std.proofs.lemmas.Option.{same_Some, none-some}

-- a run ends where the reader stands
run_behind_move : (m : Move) (ts : List Token) (s : State) →
    ((s₀ : State) → reach s₀ ts ≡ Some s → run s₀ ts ≡ finish s) →
    reach_by m ts ≡ Some s → follow m ts ≡ finish s
run_behind_move (go next) ts s f h = f next h
run_behind_move (left_out w) ts s f h = absurd (none-some _ h)
run_behind_move stuck ts s f h = absurd (none-some _ h)

run_behind : (ts : List Token) (s s₀ : State) → reach s₀ ts ≡ Some s → run s₀ ts ≡ finish s
unfolding reach run
run_behind [] s s₀ h = ap finish (same_Some s₀ s h)
run_behind (t ∷ ts) s s₀ h =
    by_move s₀ t ts ∙ run_behind_move (step s₀ t) ts s (run_behind ts s) (sym (by_reach s₀ t ts) ∙ h)

finish_derives : (before : List Token) (s : State) (p : Items) → reach start before ≡ Some s → finish s ≡ Some p
    → Derives before p
finish_derives before s p h e =
    subst (λ (ts : List Token). Derives ts p) (append-nil before)
    (into_program (reached_goes before [] p start s h (sound_finish s p e)))

derives_finish : (before : List Token) (s : State) (p : Items) → reach start before ≡ Some s → Derives before p
    → finish s ≡ Some p
derives_finish before s p h d = sym (run_behind before s start h) ∙ runs_program d

not_left : (before : List Token) (t : Token) (s : State) (m : Move) → reach start before ≡ Some s → step s t ≡ m
    → leaves m ≡ false →
    (w : List ℕ) → IsLeftOut before t w → ⊥
not_left before t s m h e quiet w l = false≢true (sym quiet ∙ (ap leaves (sym e ∙ left_step before t s w h l)))

may_stand : (before : List Token) (t : Token) (s next : State) → reach start before ≡ Some s → step s t
    ≡ go next → MayStand before t
may_stand before t s next h e = record {
  begins = reached_begins (before ++ (t ∷ [])) next (goes_next before t s next h e);
  not_left_out = not_left before t s (go next) h e refl;
}

-- what the answer is behind one judged token
outcome_by : Result State Refusal → List Token → Place → Result Items Refusal
outcome_by (Ok next) ts end = outcome next ts end
outcome_by (Err fault) ts end = Err fault

by_outcome : (s : State) (t : Token) (ts : List Token) (end : Place) →
    outcome s (t ∷ ts) end ≡ outcome_by (judge_move t.at (step s t)) ts end
unfolding outcome outcome_by
by_outcome s t ts end = outcome_cases (judge_move t.at (step s t))
  where
    outcome_cases : (r : Result State Refusal) →
        elim r as (λ x. Result Items Refusal) [ Ok next ↦ outcome next ts end | Err fault ↦ Err fault ]
        ≡ outcome_by r ts end
    outcome_cases (Ok next) = refl
    outcome_cases (Err fault) = refl

-- the reader's answer is judged
at_end : (before : List Token) (s : State) (end : Place) → reach start before ≡ Some s → (o : Option Items) →
    finish s ≡ o →
    Judged before [] end (judge_end end o)
unfolding judge_end
at_end before s end h (Some p) e = is_program (finish_derives before s p h e)
at_end before s end h None e = ends_early (λ p d. none-some _ (sym e ∙ derives_finish before s p h d))

at_count : (before ts : List Token) (t : Token) (s next : State) (end : Place) → reach start before ≡ Some s →
    step s t ≡ go next →
    Judged (before ++ (t ∷ [])) ts end (outcome next ts end) → (b : Bool) → nat_lt most_open (open_count next) ≡ b →
    Judged before (t ∷ ts) end (outcome_by (if b then Err (nesting_at t.at) else Ok next) ts end)
unfolding outcome_by
at_count before ts t s next end h e j true c =
    is_nested (open_count next) (may_stand before t s next h e)
    (counts_what_is_open (before ++ (t ∷ [])) next (goes_next before t s next h e))
    (ltb-true most_open (open_count next) c)
at_count before ts t s next end h e j false c =
    stands (open_count next) (may_stand before t s next h e)
    (counts_what_is_open (before ++ (t ∷ [])) next (goes_next before t s next h e))
    (ltb-false most_open (open_count next) c) j

at_token : (before ts : List Token) (t : Token) (s : State) (end : Place) → reach start before ≡ Some s →
    ((next : State) → reach start (before ++ (t ∷ [])) ≡ Some next →
    Judged (before ++ (t ∷ [])) ts end (outcome next ts end)) →
    (m : Move) → step s t ≡ m → Judged before (t ∷ ts) end (outcome_by (judge_move t.at m) ts end)
unfolding judge_move outcome_by
at_token before ts t s end h f (go next) e =
    at_count before ts t s next end h e (f next (goes_next before t s next h e))
    (nat_lt most_open (open_count next)) refl
at_token before ts t s end h f (left_out w) e = is_left_out (left_is before t s w h e)
at_token before ts t s end h f stuck e =
    is_misplaced (not_left before t s stuck h e refl) (stuck_begins_nothing before t s stuck h e refl)

pub standing : (ts before : List Token) (s : State) (end : Place) → reach start before ≡ Some s →
    Judged before ts end (outcome s ts end)
unfolding outcome
standing [] before s end h = at_end before s end h (finish s) refl
standing (t ∷ ts) before s end h =
    subst (Judged before (t ∷ ts) end) (sym (by_outcome s t ts end))
    (at_token before ts t s end h (λ next r. standing ts (before ++ (t ∷ [])) next end r) (step s t) refl)

-- what is judged is the reader's answer
ends_none : (before : List Token) (s : State) (end : Place) → reach start before ≡ Some s →
    ((all : Items) → Derives before all → ⊥) → (o : Option Items) → finish s ≡ o → judge_end end o
    ≡ Err (syntax_at end)
unfolding judge_end
ends_none before s end h n (Some p) e = absurd (n p (finish_derives before s p h e))
ends_none before s end h n None e = refl

record Next (s : State) (t : Token) : Type 0 where
  next : State
  is : step s t ≡ go next

may_go : (before : List Token) (t : Token) (s : State) → reach start before ≡ Some s → MayStand before t →
    (m : Move) → step s t ≡ m → Next s t
may_go before t s h may (go next) e = record { next = next; is = e }
may_go before t s h may (left_out w) e = absurd (may.not_left_out w (left_is before t s w h e))
may_go before t s h may stuck e = absurd (stuck_begins_nothing before t s stuck h e refl may.begins)

-- one count is that of all
pub opens_once : (ts : List Token) (n m : ℕ) → Opens ts n → Opens ts m → n ≡ m
opens_once ts n m o p =
    let h = p.most n o.some in
    let g = o.most m p.some in
    omega (arith, h, g)

count_is : (before : List Token) (t : Token) (next : State) (n : ℕ) → reach start (before ++ (t ∷ [])) ≡ Some next →
    Opens (before ++ (t ∷ [])) n → n ≡ open_count next
count_is before t next n r o =
    opens_once (before ++ (t ∷ [])) n (open_count next) o (counts_what_is_open (before ++ (t ∷ [])) next r)

misplaced : (before ts : List Token) (t : Token) (s : State) (end : Place) → reach start before ≡ Some s →
    ((w : List ℕ) → IsLeftOut before t w → ⊥) → (Begins (before ++ (t ∷ [])) → ⊥) → (m : Move) → step s t ≡ m →
    outcome_by (judge_move t.at m) ts end ≡ Err (syntax_at t.at)
unfolding outcome_by judge_move
misplaced before ts t s end h l b (go next) e =
    absurd (b (reached_begins (before ++ (t ∷ [])) next (goes_next before t s next h e)))
misplaced before ts t s end h l b (left_out w) e = absurd (l w (left_is before t s w h e))
misplaced before ts t s end h l b stuck e = refl

judged_by : (t : Token) (ts : List Token) (s : State) (end : Place) (m : Move) → step s t ≡ m →
    outcome s (t ∷ ts) end ≡ outcome_by (judge_move t.at m) ts end
judged_by t ts s end m e = by_outcome s t ts end ∙ ap (λ (x : Move). outcome_by (judge_move t.at x) ts end) e

counted : (t : Token) (ts : List Token) (next : State) (end : Place) (b : Bool) →
    nat_lt most_open (open_count next) ≡ b →
    outcome_by (judge_move t.at (go next)) ts end ≡ outcome_by (if b then Err (nesting_at t.at) else Ok next) ts end
unfolding judge_move
counted t ts next end b c = ap (λ (x : Bool). outcome_by (if x then Err (nesting_at t.at) else Ok next) ts end) c

pub only_answer : {before ts : List Token} {end : Place} {answer : Result Items Refusal} →
    Judged before ts end answer →
    (s : State) → reach start before ≡ Some s → outcome s ts end ≡ answer
unfolding outcome outcome_by judge_end judge_move
only_answer (is_program {before = before} {end = end} {all = all} d) s h =
    ap (judge_end end) (derives_finish before s all h d)
only_answer (ends_early {before = before} {end = end} n) s h = ends_none before s end h n (finish s) refl
only_answer (is_left_out {before = before} {ts = ts} {t = t} {end = end} {w = w} l) s h =
    judged_by t ts s end (left_out w) (left_step before t s w h l)
only_answer (is_misplaced {before = before} {ts = ts} {t = t} {end = end} l b) s h =
    by_outcome s t ts end ∙ misplaced before ts t s end h l b (step s t) refl
only_answer (is_nested {before = before} {ts = ts} {t = t} {end = end} n may o lt) s h =
    let r = may_go before t s h may (step s t) refl in
    let c = count_is before t r.next n (goes_next before t s r.next h r.is) o in
    judged_by t ts s end (go r.next) r.is
    ∙ counted t ts r.next end true (lt-ltb most_open (open_count r.next) (subst (λ (x : ℕ). most_open < x) c lt))
only_answer (stands {before = before} {ts = ts} {t = t} {end = end} n may o le j) s h =
    let r = may_go before t s h may (step s t) refl in
    let c = count_is before t r.next n (goes_next before t s r.next h r.is) o in
    judged_by t ts s end (go r.next) r.is
    ∙ (counted t ts r.next end false (le-ltb most_open (open_count r.next) (subst (λ (x : ℕ). x ≤ most_open) c le))
    ∙ only_answer j r.next (goes_next before t s r.next h r.is))
