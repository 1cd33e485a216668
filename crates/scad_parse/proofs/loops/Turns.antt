-- What a loop over a list reads: what is left gives what the whole gives.
use Rattle.std.proofs.Common.{◌≡◌, ℕ, zero, suc, ◌<◌, ◌≤◌, Bool, List, [], ◌∷◌, Some, Ok, Err, length, refl, sym, ap}
use Rattle.std.proofs.Common.{subst, ◌∙◌, arith}
use Rattle.scad_fault.specs.declared.place.Place.{Place}
use Rattle.scad_lex.specs.declared.token.Token.{Token}
use Rattle.scad_lex.specs.declared.token.Sign.TheVariants.{Comma}
use Rattle.scad_grammar.specs.Tokens.{is_sign}
use Rattle.scad_grammar.specs.Rules.{Read, above, rules}
use Rattle.scad_grammar.proofs.rules.Fewer.{Leaves, either, Fewer}
use Rattle.scad_grammar.proofs.rules.FewerElements.{rules_fewer}
use Rattle.scad_parse.specs.Reading.{below, rules_at, comma_or}
use Rattle.scad_parse.specs.Standing.{Standing}

-- ---- how many tokens are left
pub leaves : {A : Type 0} (n : ℕ) (r : Read A) (a : A) (us : List Token) → r ≡ Ok (a, us) → Leaves n r → length us < n
leaves n r a us is few = subst (Leaves n) is few

pub comma_leaves : {A : Type 0} (ends : Token → Bool) (end : Place) (a : A) (us : List Token) (n : ℕ) → length us < n →
    Leaves n (comma_or ends end a us)
comma_leaves ends end a [] n h = tt
comma_leaves ends end a (t ∷ us) n h = either n (is_sign Comma t) _ _ (omega (arith, h)) (either n (ends t) _ _ h tt)

pub rules_are : (end : Place) (room : ℕ) → rules end room ≡ rules_at end room
unfolding below
rules_are end zero = refl
rules_are end (suc room) = ap (λ r. above end (Some r)) (rules_are end room)

pub fewer : (end : Place) (room : ℕ) → Fewer (rules_at end room)
fewer end room = subst Fewer (rules_are end room) (rules_fewer end room)

-- ---- the turns of a loop
-- one turn less, where there is one
abbrev pub less : ℕ → ℕ
less zero = zero
less (suc n) = n

less_turns : (n a b : ℕ) → a ≤ n → b < a → b ≤ less n
less_turns zero a b enough few = omega arith
less_turns (suc n) a b enough few = omega arith

-- what is left gives the whole, in no fewer turns than there are tokens
abbrev pub Goes : {S X : Type 0} → (ℕ → S → List Token → X) → X → S → List Token → Type 0
Goes rule whole so_far left = (n : ℕ) × (length left ≤ n) × (rule n so_far left ≡ whole)

pub begins : {S X : Type 0} (rule : ℕ → S → List Token → X) (s t : S) (ts us : List Token) → t ≡ s → us ≡ ts →
    Goes rule (rule (length ts) s ts) t us
begins rule s t ts us same is = (
  length ts,
  subst (λ vs. length vs ≤ length ts) (sym is) (omega arith),
  ap (λ x. rule (length ts) x us) same ∙ ap (rule (length ts) s) is,
)

pub goes_on : {S X : Type 0} (rule : ℕ → S → List Token → X) (whole : X) (s next : S) (ts vs : List Token) →
    ((n : ℕ) → length ts ≤ n → rule n s ts ≡ rule (less n) next vs) → length vs < length ts →
    Goes rule whole s ts → Goes rule whole next vs
goes_on rule whole s next ts vs turn few g =
    (less g.0, less_turns g.0 (length ts) (length vs) g.1 few, sym (turn g.0 g.1) ∙ g.2)

pub stops : {S X : Type 0} (rule : ℕ → S → List Token → X) (whole x : X) (s : S) (ts : List Token) →
    ((n : ℕ) → length ts ≤ n → rule n s ts ≡ x) → Goes rule whole s ts → whole ≡ x
stops rule whole x s ts turn g = sym g.2 ∙ turn g.0 g.1

-- how much may come, less at each turn
abbrev pub to_come : Standing → ℕ
to_come (Ok ts) = suc (length ts)
to_come (Err fault) = zero
