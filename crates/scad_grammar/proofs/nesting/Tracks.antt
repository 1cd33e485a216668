-- A reader that goes over a part of a program keeps as many constructs open as those outside of the part and within
use Rattle.std.proofs.Common.{◌≡◌, ℕ, ◌+◌, ◌<◌, ◌≤◌, List, [], ◌∷◌, ◌++◌}
use Rattle.std.proofs.Common.{length, refl, ap, sym, subst, ◌∙◌, arith, ◌⊎◌, inl, inr}
use Rattle.std.proofs.lemmas.Bool.{cases_lt}
use Rattle.scad_lex.specs.declared.token.Token.{Token}
use Rattle.scad_grammar.specs.State.{State}
use Rattle.scad_grammar.specs.Move.{go}
use Rattle.scad_grammar.specs.Machine.{step}
use Rattle.scad_grammar.specs.Nesting.{Construct, construct, open_at}
use Rattle.scad_grammar.proofs.nesting.OpenRest.{kept}
use Rattle.scad_grammar.proofs.nesting.Places.{kept_at, at_start, past_to, past_alike, alike, Within, wider}
use Rattle.scad_grammar.proofs.nesting.Places.{both_within, open_both, none_open, one_open, Alike, FirstAlike}

-- From s a reader goes on to s' over the tokens from ts to us, of which these constructs are made, where so many
-- constructs are open outside.
pub record Part (s : State) (ts us : List Token) (s' : State) (cs : List Construct) (outside : ℕ) : Type 0 where
  pub order : length us ≤ length ts
  pub bounds : Within (length us) (length ts) cs
  pub inside : (v : ℕ) → length us < v → v < length ts → open_at v cs + outside ≡ kept_at s ts v
  pub behind : (v : ℕ) → v ≤ length us → kept_at s ts v ≡ kept_at s' us v

-- and so many are open where it begins
pub record Tracks (s : State) (ts us : List Token) (s' : State) (cs : List Construct) (outside : ℕ) : Type 0 where
  pub part : Part s ts us s' cs outside
  pub start : length us < length ts → kept s ts ≡ outside

-- no token
pub nothing_read : (s s' : State) (ts : List Token) (outside : ℕ) → Alike s s' ts → Tracks s ts ts s' [] outside
nothing_read s s' ts outside same = record {
  part = record {
    order = omega arith;
    bounds = tt;
    inside = λ v h g. absurd (omega arith);
    behind = same;
  };
  start = λ h. absurd (omega arith);
}

-- one token
one_part : (s s' : State) (t : Token) (us : List Token) (outside : ℕ) → step s t ≡ go s' →
    Part s (t ∷ us) us s' [] outside
one_part s s' t us outside e = record {
  order = omega arith;
  bounds = tt;
  inside = λ v h g. absurd (omega arith);
  behind = λ v h. past_to s s' t us v h e;
}

pub one_token : (s s' : State) (t : Token) (us : List Token) (outside : ℕ) → step s t ≡ go s' →
    kept s (t ∷ us) ≡ outside →
    Tracks s (t ∷ us) us s' [] outside
one_token s s' t us outside e stays = record { part = one_part s s' t us outside e; start = λ h. stays }

-- one part and another
pub part_then : {s mid s' : State} {ts us vs : List Token} {cs ds : List Construct} {outside : ℕ} →
    Part s ts us mid cs outside → Tracks mid us vs s' ds outside → Part s ts vs s' (cs ++ ds) outside
part_then {s = s} {mid = mid} {s' = s'} {ts = ts} {us = us} {vs = vs} {cs = cs} {ds = ds} {outside = outside} a b =
    record {
      order = omega (arith, a.order, b.part.order);
      bounds =
          both_within (length vs) (length ts) cs ds
          (wider (length us) (length ts) (length vs) (length ts) cs b.part.order (omega arith) a.bounds)
          (wider (length vs) (length us) (length vs) (length ts) ds (omega arith) a.order b.part.bounds);
      inside = λ v h g. at_place v h g (cases_lt (length us) v) (cases_lt v (length us));
      behind = λ v h. a.behind v (omega (arith, b.part.order)) ∙ b.part.behind v h;
    }
  where
    at_place : (v : ℕ) → length vs < v → v < length ts → (length us < v) ⊎ (v ≤ length us) → (v < length us)
        ⊎ (length us ≤ v) →
        open_at v (cs ++ ds) + outside ≡ kept_at s ts v
    at_place v h g (inl late) other =
        let none = none_open (length vs) (length us) v ds b.part.bounds (inr (omega arith)) in
        let sum = open_both v cs ds in
        let there = a.inside v late g in
        omega (arith, none, sum, there)
    at_place v h g (inr early) (inl before) =
        let none = none_open (length us) (length ts) v cs a.bounds (inl early) in
        let sum = open_both v cs ds in
        let there = b.part.inside v h before in
        let on = a.behind v early in
        omega (arith, none, sum, there, on)
    at_place v h g (inr early) (inr late) =
        let none = none_open (length us) (length ts) v cs a.bounds (inl early) in
        let no_more = none_open (length vs) (length us) v ds b.part.bounds (inr late) in
        let sum = open_both v cs ds in
        let there = b.start (omega arith) in
        let on = a.behind v early ∙ at_start mid us v late in
        omega (arith, none, no_more, sum, there, on)

pub then_part : {s mid s' : State} {ts us vs : List Token} {cs ds : List Construct} {outside : ℕ} →
    Tracks s ts us mid cs outside → Tracks mid us vs s' ds outside → Tracks s ts vs s' (cs ++ ds) outside
then_part {s = s} {mid = mid} {ts = ts} {us = us} {vs = vs} {outside = outside} a b = record {
  part = part_then a.part b;
  start = λ h. starts h (cases_lt (length us) (length ts));
}
  where
    starts : length vs < length ts → (length us < length ts) ⊎ (length ts ≤ length us) → kept s ts ≡ outside
    starts h (inl g) = a.start g
    starts h (inr g) =
        sym (at_start s ts (length us) g) ∙ (a.part.behind (length us) (omega arith)
        ∙ (at_start mid us (length us) (omega arith) ∙ b.start (omega (arith, h, g))))

-- a token behind a part
append_nothing : (xs : List Construct) → xs ++ [] ≡ xs
append_nothing [] = refl
append_nothing (x ∷ xs) = ap (λ ys. x ∷ ys) (append_nothing xs)

pub part_token : {s mid s' : State} {t : Token} {ts us : List Token} {cs : List Construct} {outside : ℕ} →
    Part s ts (t ∷ us) mid cs outside → step mid t ≡ go s' → kept mid (t ∷ us) ≡ outside → Part s ts us s' cs outside
part_token {s = s} {mid = mid} {s' = s'} {t = t} {ts = ts} {us = us} {cs = cs} {outside = outside} a e stays =
    subst (λ (x : List Construct). Part s ts us s' x outside) (append_nothing cs)
    (part_then a (one_token mid s' t us outside e stays))

pub then_token : {s mid s' : State} {t : Token} {ts us : List Token} {cs : List Construct} {outside : ℕ} →
    Tracks s ts (t ∷ us) mid cs outside → step mid t ≡ go s' → kept mid (t ∷ us) ≡ outside →
    Tracks s ts us s' cs outside
then_token {s = s} {mid = mid} {s' = s'} {t = t} {ts = ts} {us = us} {cs = cs} {outside = outside} a e stays =
    subst (λ (x : List Construct). Tracks s ts us s' x outside) (append_nothing cs)
    (then_part a (one_token mid s' t us outside e stays))

-- a token before a part
pub token_part : {s next s' : State} {t : Token} {ts us : List Token} {cs : List Construct} {outside : ℕ} →
    step s t ≡ go next → Tracks next ts us s' cs outside → Part s (t ∷ ts) us s' cs outside
token_part {s = s} {next = next} {t = t} {ts = ts} {outside = outside} e a =
    part_then (one_part s next t ts outside e) a

pub token_then : {s next s' : State} {t : Token} {ts us : List Token} {cs : List Construct} {outside : ℕ} →
    step s t ≡ go next → kept s (t ∷ ts) ≡ outside → Tracks next ts us s' cs outside →
    Tracks s (t ∷ ts) us s' cs outside
token_then e stays a = record { part = token_part e a; start = λ h. stays }

-- a part that is a construct
pub construct_part : {s s' : State} {ts us : List Token} {cs : List Construct} {outside inner : ℕ} →
    inner ≡ 1 + outside → Part s ts us s' cs inner → Part s ts us s' (construct ts us cs) outside
construct_part {ts = ts} {us = us} {cs = cs} more a = record {
  order = a.order;
  bounds = ((omega arith, omega arith), a.bounds);
  inside = λ v h g.
      let one = one_open v (record { before = length ts; behind = length us }) cs h g in
      let there = a.inside v h g in
      omega (arith, one, there, more);
  behind = a.behind;
}

-- a construct that begins with a token
pub construct_then : {s next s' : State} {t : Token} {ts us : List Token} {cs : List Construct} {outside inner : ℕ} →
    step s t ≡ go next → kept s (t ∷ ts) ≡ outside → inner ≡ 1 + outside → Tracks next ts us s' cs inner →
    Tracks s (t ∷ ts) us s' (construct (t ∷ ts) us cs) outside
construct_then e stays more a = record { part = construct_part more (token_part e a); start = λ h. stays }

-- a part from another state, which is alike
pub from_alike : {s other s' : State} {ts us : List Token} {cs : List Construct} {outside : ℕ} →
    Alike s other ts → Tracks other ts us s' cs outside → Tracks s ts us s' cs outside
from_alike {s = s} {other = other} {ts = ts} same a = record {
  part = record {
    order = a.part.order;
    bounds = a.part.bounds;
    inside = λ v h g. a.part.inside v h g ∙ sym (same v (omega arith));
    behind = λ v h. same v (omega (arith, a.part.order)) ∙ a.part.behind v h;
  };
  start = λ h. sym (at_start s ts (length ts) (omega arith)) ∙ (same (length ts) (omega arith)
      ∙ (at_start other ts (length ts) (omega arith) ∙ a.start h));
}

-- two states that keep as many open on the way behind the first token
abbrev pub AlikeBehind : State → State → List Token → Type 0
AlikeBehind s other ts = (v : ℕ) → v < length ts → kept_at s ts v ≡ kept_at other ts v

pub behind_first : (s other : State) (ts : List Token) → FirstAlike s other ts → AlikeBehind s other ts
behind_first s other [] first v h = absurd (omega arith)
behind_first s other (t ∷ ts) first v h = past_alike s other t ts v (omega arith) first

-- a part from another state, which is alike behind the first token
pub from_behind : {s other s' : State} {ts us : List Token} {cs : List Construct} {outside : ℕ} →
    AlikeBehind s other ts → length us < length ts → Part other ts us s' cs outside → Part s ts us s' cs outside
from_behind same some a = record {
  order = a.order;
  bounds = a.bounds;
  inside = λ v h g. a.inside v h g ∙ sym (same v g);
  behind = λ v h. same v (omega (arith, some)) ∙ a.behind v h;
}

-- a part to another state, which is alike
pub to_here : {s mid s' : State} {ts us : List Token} {cs : List Construct} {outside : ℕ} →
    Tracks s ts us mid cs outside → Alike mid s' us → Tracks s ts us s' cs outside
to_here a same = record {
  part = record {
    order = a.part.order;
    bounds = a.part.bounds;
    inside = a.part.inside;
    behind = λ v h. a.part.behind v h ∙ same v h;
  };
  start = a.start;
}

-- a part to another state, at which each token does the same
pub to_alike : {s mid s' : State} {ts us : List Token} {cs : List Construct} {outside : ℕ} →
    Tracks s ts us mid cs outside → ((t : Token) → step mid t ≡ step s' t) →
    ((us : List Token) → kept mid us ≡ kept s' us) →
    Tracks s ts us s' cs outside
to_alike {mid = mid} {s' = s'} {us = us} a same stays = to_here a (λ v h. alike mid s' same stays us v)

-- the number of what is open outside, said otherwise
pub outside_is : {s s' : State} {ts us : List Token} {cs : List Construct} {outside other : ℕ} →
    outside ≡ other → Tracks s ts us s' cs outside → Tracks s ts us s' cs other
outside_is {s = s} {s' = s'} {ts = ts} {us = us} {cs = cs} same a = subst (Tracks s ts us s' cs) same a
