-- What a reader keeps open on its way over tokens, and which constructs are open between two places.
use Rattle.std.proofs.Common.{◌≡◌, ℕ, suc, ◌+◌, ◌<◌, ◌≤◌, Bool, true, false, cond, if◌then◌else◌, List, [], ◌∷◌, ◌++◌}
use Rattle.std.proofs.Common.{Some, length, length-append, refl, ap, sym, ◌∙◌, arith, ◌⊎◌, inl, inr}
use Rattle.std.specs.Prelude.{nat_lt}
use Rattle.std.specs.List.{AllByRecursion}
use Rattle.std.proofs.lemmas.List.Sums.{sum_by-append, sum_by-cons}
use Rattle.std.proofs.lemmas.Bool.{cases_lt}
use Rattle.std.proofs.lemmas.Bool.Decides.{nat_tests}
use Rattle.scad_lex.specs.declared.token.Token.{Token}
use Rattle.scad_grammar.specs.State.{State}
use Rattle.scad_grammar.specs.Move.{Move, go, left_out, stuck}
use Rattle.scad_grammar.specs.Machine.{step, reach}
use Rattle.scad_grammar.specs.Nesting.{Construct, is_open, open_at}
use Rattle.scad_grammar.proofs.reader.Prefix.{reach_by, by_reach}
use Rattle.scad_grammar.proofs.nesting.OpenRest.{kept}
use Rattle.std.proofs.lemmas.Option.{same_Some, none-some}

-- how many constructs stay open where the reader has gone on until so many tokens are left
unfoldable pub kept_at : State → List Token → ℕ → ℕ
kept_at s [] v = kept s []
kept_at s (t ∷ ts) v =
    if nat_lt (length ts) v then kept s (t ∷ ts)
    else elim (step s t) [ go next ↦ kept_at next ts v | left_out w ↦ 0 | stuck ↦ 0 ]

abbrev pub kept_by : Move → List Token → ℕ → ℕ
kept_by (go next) ts v = kept_at next ts v
kept_by (left_out w) ts v = 0
kept_by stuck ts v = 0

pub by_move : (m : Move) (ts : List Token) (v : ℕ) →
    elim m as (λ x. ℕ) [ go next ↦ kept_at next ts v | left_out w ↦ 0 | stuck ↦ 0 ] ≡ kept_by m ts v
by_move (go next) ts v = refl
by_move (left_out w) ts v = refl
by_move stuck ts v = refl

pub at_start : (s : State) (ts : List Token) (v : ℕ) → length ts ≤ v → kept_at s ts v ≡ kept s ts
unfolding kept_at
at_start s [] v h = refl
at_start s (t ∷ ts) v h =
    let late : nat_lt (length ts) v ≡ true = grind (arith, nat_tests) in
    ap (λ (b : Bool). if b then kept s (t ∷ ts) else elim (step s t) as
    (λ x. ℕ) [ go next ↦ kept_at next ts v | left_out w ↦ 0 | stuck ↦ 0 ]) late

pub past : (s : State) (t : Token) (ts : List Token) (v : ℕ) → v ≤ length ts →
    kept_at s (t ∷ ts) v ≡ kept_by (step s t) ts v
unfolding kept_at
past s t ts v h =
    let early : nat_lt (length ts) v ≡ false = grind (arith, nat_tests) in
    ap (λ (b : Bool). if b then kept s (t ∷ ts) else elim (step s t) as
    (λ x. ℕ) [ go next ↦ kept_at next ts v | left_out w ↦ 0 | stuck ↦ 0 ]) early
    ∙ by_move (step s t) ts v

pub past_to : (s next : State) (t : Token) (ts : List Token) (v : ℕ) → v ≤ length ts → step s t ≡ go next →
    kept_at s (t ∷ ts) v ≡ kept_at next ts v
past_to s next t ts v h e = past s t ts v h ∙ ap (λ (m : Move). kept_by m ts v) e

pub past_alike : (s other : State) (t : Token) (ts : List Token) (v : ℕ) → v ≤ length ts → step s t ≡ step other t →
    kept_at s (t ∷ ts) v ≡ kept_at other (t ∷ ts) v
past_alike s other t ts v h e = past s t ts v h ∙ (ap (λ (m : Move). kept_by m ts v) e ∙ sym (past other t ts v h))

-- states at which each token does the same
pub alike : (s other : State) → ((t : Token) → step s t ≡ step other t) →
    ((us : List Token) → kept s us ≡ kept other us) →
    (us : List Token) (v : ℕ) → kept_at s us v ≡ kept_at other us v
unfolding kept_at
alike s other same stays [] v = stays []
alike s other same stays (t ∷ ts) v = by_order (cases_lt (length ts) v)
  where
    by_order : (length ts < v) ⊎ (v ≤ length ts) → kept_at s (t ∷ ts) v ≡ kept_at other (t ∷ ts) v
    by_order (inl h) =
        at_start s (t ∷ ts) v (omega arith) ∙ (stays (t ∷ ts) ∙ sym (at_start other (t ∷ ts) v (omega arith)))
    by_order (inr h) = past_alike s other t ts v h (same t)

-- ---- constructs between two places
abbrev pub Within : ℕ → ℕ → List Construct → Type 0
Within low high cs = AllByRecursion (λ (c : Construct). (low ≤ c.behind) × (c.before ≤ high)) cs

pub wider : (low high l h : ℕ) (cs : List Construct) → l ≤ low → high ≤ h → Within low high cs → Within l h cs
wider low high l h [] a b all = tt
wider low high l h (c ∷ cs) a b all =
    ((omega (arith, all.0.0), omega (arith, all.0.1)), wider low high l h cs a b all.1)

pub both_within : (low high : ℕ) (cs ds : List Construct) → Within low high cs → Within low high ds →
    Within low high (cs ++ ds)
both_within low high [] ds a b = b
both_within low high (c ∷ cs) ds a b = (a.0, both_within low high cs ds a.1 b)

pub open_both : (v : ℕ) (cs ds : List Construct) → open_at v (cs ++ ds) ≡ open_at v cs + open_at v ds
open_both v cs ds = sum_by-append (λ (c : Construct). cond (is_open v c) 1 0) cs ds

-- before they have begun and behind their ends none is open
pub none_open : (low high v : ℕ) (cs : List Construct) → Within low high cs → (v ≤ low) ⊎ (high ≤ v) →
    open_at v cs ≡ 0
none_open low high v [] all out = refl
none_open low high v (c ∷ cs) all out =
    let closed : is_open v c ≡ false = not_open out in
    let later = none_open low high v cs all.1 out in
    sum_by-cons (λ (x : Construct). cond (is_open v x) 1 0) c cs
    ∙ (ap (λ (b : Bool). cond b 1 0 + open_at v cs) closed ∙ omega (arith, later))
  where
    not_open : (v ≤ low) ⊎ (high ≤ v) → is_open v c ≡ false
    not_open (inl h) = let a = all.0.0 in grind (arith, nat_tests)
    not_open (inr h) = let a = all.0.1 in grind (arith, nat_tests)

pub one_open : (v : ℕ) (c : Construct) (cs : List Construct) → c.behind < v → v < c.before →
    open_at v (c ∷ cs) ≡ suc (open_at v cs)
one_open v c cs h g =
    let is : is_open v c ≡ true = grind (arith, nat_tests) in
    sum_by-cons (λ (x : Construct). cond (is_open v x) 1 0) c cs
    ∙ (ap (λ (b : Bool). cond b 1 0 + open_at v cs) is ∙ omega arith)

-- two states that keep as many open on the way over these tokens
abbrev pub Alike : State → State → List Token → Type 0
Alike s other ts = (v : ℕ) → v ≤ length ts → kept_at s ts v ≡ kept_at other ts v

-- the first token does the same to both
abbrev pub FirstAlike : State → State → List Token → Type 0
FirstAlike s other [] = Unit {0}
FirstAlike s other (t ∷ ts) = step s t ≡ step other t

pub by_first : (s other : State) (ts : List Token) → FirstAlike s other ts → kept s ts ≡ kept other ts →
    Alike s other ts
by_first s other [] first stays v h = at_start s [] v (omega arith)
    ∙ (stays ∙ sym (at_start other [] v (omega arith)))
by_first s other (t ∷ ts) first stays v h = by_order (cases_lt (length ts) v)
  where
    by_order : (length ts < v) ⊎ (v ≤ length ts) → kept_at s (t ∷ ts) v ≡ kept_at other (t ∷ ts) v
    by_order (inl g) = at_start s (t ∷ ts) v (omega arith) ∙ (stays ∙ sym (at_start other (t ∷ ts) v (omega arith)))
    by_order (inr g) = past_alike s other t ts v g first

-- what a reader keeps that stands behind tokens
pub kept_reached : (ts more : List Token) (s reached : State) → reach s ts ≡ Some reached →
    kept_at s (ts ++ more) (length more) ≡ kept reached more
unfolding reach
kept_reached [] more s reached e = at_start s more (length more) (omega arith)
    ∙ ap (λ (x : State). kept x more) (same_Some s reached e)
kept_reached (t ∷ ts) more s reached e =
    past s t (ts ++ more) (length more) (omega (arith, length-append ts more))
    ∙ by_step (step s t) (sym (by_reach s t ts) ∙ e) (λ next. kept_reached ts more next reached)
  where
    by_step : (m : Move) → reach_by m ts ≡ Some reached →
        ((next : State) → reach next ts ≡ Some reached →
        kept_at next (ts ++ more) (length more) ≡ kept reached more) →
        kept_by m (ts ++ more) (length more) ≡ kept reached more
    by_step (go next) f go_on = go_on next f
    by_step (left_out w) f go_on = absurd (none-some _ f)
    by_step stuck f go_on = absurd (none-some _ f)
