-- Rules one behind another, and where a construct opens.
use Rattle.std.proofs.Common.{◌≡◌, ℕ, zero, suc, Bool, true, false, List, [], ◌∷◌, Option, Some, None, Ok, Err}
use Rattle.std.proofs.Common.{refl, sym, ap, subst, ◌∙◌}
use Rattle.std.specs.Prelude.{if◌then◌else◌, is_some}
use Rattle.scad_fault.specs.declared.place.Place.{Place}
use Rattle.scad_lex.specs.declared.token.Token.{Token}
use Rattle.scad_lex.specs.declared.token.Sign.{Sign as SignName}
use Rattle.scad_lex.specs.declared.token.Sign.TheVariants.{OpenRound, Comma}
use Rattle.scad_grammar.specs.Tokens.{is_sign}
use Rattle.scad_grammar.specs.Machine.{Refusal, syntax_at, left_out_at}
use Rattle.scad_grammar.specs.Rules.{Read, then_read, behind_sign, deeper, in_round_of}
use Rattle.scad_parse.specs.declared.fault.Fault.TheVariants.{Memory}
use Rattle.scad_parse.specs.declared.fault.Form.{Form}
use Rattle.scad_parse.specs.declared.reader.Reader.{Reader}
use Rattle.scad_parse.specs.declared.reader.Open.{Open}
use Rattle.scad_parse.specs.Reading.{no_value, comma_or}
use Rattle.scad_parse.specs.Standing.{Standing, standing, Given, Turn, Reads, Opens, Within, Kept, stands_at, opened}
use Rattle.scad_parse.specs.Standing.{open_at}
use Rattle.scad_parse.specs.Standing.{within, room_in, nothing_read, failed, needed, left_out, form_name, took, took_at}

-- ---- one rule behind another
given_then : {A B : Type 0} (x : Read A) (g : A → List Token → Read B) (s t : Standing) (a : A) (b : B) →
    Given x s a → Turn (g a) s t b → Given (then_read x g) t b
given_then x g (Ok us) (Ok vs) a b p q = ap (λ r. then_read r g) p ∙ q
given_then x g (Ok us) (Err fault) a b p q = λ some. ap (λ r. then_read r g) p ∙ q some
given_then x g (Err fault) t a b p q =
    subst (λ t. Given (then_read x g) t b) (sym q) (λ some. ap (λ r. then_read r g) (p some))

pub turn_then : {A B : Type 0} (f : List Token → Read A) (g : A → List Token → Read B) (r s t : Standing) (a : A)
    (b : B) → Turn f r s a → Turn (g a) s t b → Turn (λ ts. then_read (f ts) g) r t b
turn_then f g (Ok ts) s t a b p q = given_then (f ts) g s t a b p q
turn_then f g (Err fault) s t a b p q = subst (λ s. Turn (g a) s t b) p q

pub follows : {A B : Type 0} (f : Place → List Token → Read A) (g : Place → A → List Token → Read B) {q r s : Reader}
    {a : A} {b : B} → Reads f q r a → Reads (λ e. g e a) r s b → Reads (λ e ts. then_read (f e ts) (g e)) q s b
follows f g {q} {r} {s} {a} {b} x y = record {
  ends = y.ends ∙ x.ends;
  turn = turn_then (f q.end) (g q.end) (standing q) (standing r) (standing s) a b x.turn
      (subst (λ e. Turn (g e a) (standing r) (standing s) b) x.ends y.turn);
}

-- nothing is read
pub turn_stay : {B : Type 0} (s : Standing) (b : B) → Turn (λ ts. Ok (b, ts)) s s b
turn_stay (Ok ts) b = refl
turn_stay (Err fault) b = refl

pub stay : {B : Type 0} {r : Reader} {b : B} → Reads (nothing_read b) r r b
stay {r = r} {b} = record { ends = refl; turn = turn_stay (standing r) b }

pub made_as : {B : Type 0} {r : Reader} {a b : B} → b ≡ a → Reads (nothing_read a) r r b
made_as {r = r} {a} same = record {
  ends = refl;
  turn = subst (λ b. Turn (λ ts. Ok (a, ts)) (standing r) (standing r) b) (sym same) (turn_stay (standing r) a);
}

pub made_same : {B : Type 0} {q r : Reader} {a c b : B} → a ≡ c → Reads (nothing_read a) q r b → Reads (nothing_read c) q r b
made_same {q = q} {r} {b = b} same x = subst (λ a. Reads (nothing_read a) q r b) same x

pub made_then : {A B : Type 0} (g : Place → A → List Token → Read B) {q r s : Reader} {a x : A} {b : B} →
    Reads (nothing_read a) q r x → Reads (λ e. g e x) r s b → Reads (λ e. g e a) q s b
made_then g {a = a} x y = follows (nothing_read a) g x y

-- what was read is known
pub taking : {A B : Type 0} (f : Place → List Token → Read A) (g : Place → A → List Token → Read B) {q r s : Reader}
    {a x : A} {b : B} → x ≡ a → Reads f q r x → Reads (λ e. g e a) r s b →
    Reads (λ e ts. then_read (f e ts) (g e)) q s b
taking f g {q} {r} {s} {b = b} is x y = follows f g x (subst (λ a. Reads (λ e. g e a) r s b) (sym is) y)

-- ---- what is given, and a rule, in other words
pub given_as : {B : Type 0} {f : Place → List Token → Read B} {q r : Reader} {a b : B} → b ≡ a → Reads f q r a →
    Reads f q r b
given_as {f = f} {q} {r} same x = subst (λ b. Reads f q r b) (sym same) x

turn_as : {B : Type 0} (f h : List Token → Read B) (s t : Standing) (b : B) →
    ((ts : List Token) → s ≡ Ok ts → h ts ≡ f ts) → Turn f s t b → Turn h s t b
turn_as f h (Ok ts) t b same p = subst (λ x. Given x t b) (sym (same ts refl)) p
turn_as f h (Err fault) t b same p = p

pub same_rule_here : {B : Type 0} (h f : Place → List Token → Read B) {r s : Reader} {b : B} →
    ((e : Place) (ts : List Token) → standing r ≡ Ok ts → h e ts ≡ f e ts) → Reads f r s b → Reads h r s b
same_rule_here h f {r} {s} {b} same x =
    record { ends = x.ends; turn = turn_as (f r.end) (h r.end) (standing r) (standing s) b (same r.end) x.turn }

pub same_rule : {B : Type 0} (h f : Place → List Token → Read B) → ((e : Place) (ts : List Token) → h e ts ≡ f e ts) →
    {r s : Reader} {b : B} → Reads f r s b → Reads h r s b
same_rule h f same x = same_rule_here h f (λ e ts _. same e ts) x

-- a refusal, whatever would be given
pub turn_refused : {A B : Type 0} (fault : List Token → Refusal) (s t : Standing) (a : A) (b : B) →
    Turn (λ ts. Err (fault ts)) s t a → Turn (λ ts. Err (fault ts)) s t b
turn_refused fault (Ok ts) (Ok us) a b x = absurd (cc)
turn_refused fault (Ok ts) (Err f) a b x = λ some. let y = x some in ap (λ r. Err r) (let z : fault ts ≡ _ = cc in z)
turn_refused fault (Err first) t a b x = x

-- ---- a sign that is to come
signed : {A : Type 0} (e : Place) (s : SignName) (k : List Token → Read A) (ts : List Token) →
    behind_sign e s ts k ≡ then_read (behind_sign e s ts (λ us. Ok (no_value, us))) (λ _ us. k us)
signed e s k [] = refl
signed e s k (t ∷ ts) = by (is_sign s t)
  where
    by : (b : Bool) → (if b then k ts else Err (syntax_at t.at))
        ≡ then_read (if b then Ok (no_value, ts) else Err (syntax_at t.at)) (λ _ us. k us)
    by true = refl
    by false = refl

pub expected : {A : Type 0} (sign : SignName) (k : Place → List Token → Read A) {q r s : Reader} {a : A} →
    Reads (λ e ts. behind_sign e sign ts (λ us. Ok (no_value, us))) q r no_value → Reads k r s a →
    Reads (λ e ts. behind_sign e sign ts (k e)) q s a
expected sign k x y = same_rule (λ e ts. behind_sign e sign ts (k e))
    (λ e ts. then_read (behind_sign e sign ts (λ us. Ok (no_value, us))) (λ _ us. k e us))
    (λ e ts. signed e sign (k e) ts)
    (follows (λ e ts. behind_sign e sign ts (λ us. Ok (no_value, us))) (λ e _ us. k e us) x y)

-- a rule, and a sign behind it
pub closed_by : {A : Type 0} (sign : SignName) (f : Place → List Token → Read A) {q r s : Reader} {a : A} →
    Reads f q r a → Reads (λ e ts. behind_sign e sign ts (λ us. Ok (no_value, us))) r s no_value →
    Reads (λ e ts. then_read (f e ts) (λ x us. behind_sign e sign us (λ vs. Ok (x, vs)))) q s a
closed_by sign f {a = a} x y = follows f (λ e x us. behind_sign e sign us (λ vs. Ok (x, vs))) x
    (expected sign (nothing_read a) y stay)

-- ---- a form that is left out
pub out : {B : Type 0} (test : Token → Bool) (form : Form) (t : Token) (ts : List Token) (k : List Token → Read B) →
    (if test t then Err (left_out_at t.at (form_name form)) else k (t ∷ ts))
    ≡ then_read (left_out test form (t ∷ ts)) (λ _. k)
out test form t ts k = by (test t)
  where
    by : (b : Bool) → (if b then Err (left_out_at t.at (form_name form)) else k (t ∷ ts))
        ≡ then_read (if b then Err (left_out_at t.at (form_name form)) else Ok (no_value, t ∷ ts)) (λ _. k)
    by true = refl
    by false = refl

-- ---- a token that may come
abbrev pub by_taken : {B : Type 0} → (List Token → Read B) → (List Token → Read B) → Bool → List Token → Read B
by_taken there absent true ts = there ts
by_taken there absent false ts = absent ts

pub taken : {B : Type 0} (test : Token → Bool) (there absent : List Token → Read B) (t : Token) (ts : List Token) →
    (if test t then there ts else absent (t ∷ ts)) ≡ then_read (took test (t ∷ ts)) (by_taken there absent)
taken test there absent t ts = by (test t)
  where
    by : (b : Bool) → (if b then there ts else absent (t ∷ ts))
        ≡ then_read (if b then Ok (true, ts) else Ok (false, t ∷ ts)) (by_taken there absent)
    by true = refl
    by false = refl

abbrev pub by_place : {B : Type 0} → (Place → List Token → Read B) → (List Token → Read B) → Option Place →
    List Token → Read B
by_place there absent (Some at) ts = there at ts
by_place there absent None ts = absent ts

pub taken_at : {B : Type 0} (test : Token → Bool) (there : Place → List Token → Read B) (absent : List Token → Read B)
    (t : Token) (ts : List Token) →
    (if test t then there t.at ts else absent (t ∷ ts)) ≡ then_read (took_at test (t ∷ ts)) (by_place there absent)
taken_at test there absent t ts = by (test t)
  where
    by : (b : Bool) → (if b then there t.at ts else absent (t ∷ ts))
        ≡ then_read (if b then Ok (Some t.at, ts) else Ok (None, t ∷ ts)) (by_place there absent)
    by true = refl
    by false = refl

-- ---- behind a member of a list
abbrev comma_by : (Token → Bool) → Place → List Token → Read (Unit {0})
comma_by ends e ts = then_read (took (is_sign Comma) ts) (by_taken (λ us. Ok (no_value, us)) (needed ends e))

comma_is : (ends : Token → Bool) (e : Place) (ts : List Token) → comma_or ends e no_value ts ≡ comma_by ends e ts
comma_is ends e [] = refl
comma_is ends e (t ∷ ts) = taken (is_sign Comma) (λ us. Ok (no_value, us)) (needed ends e) t ts

module _ (ends : Token → Bool) {q r : Reader} {x : Bool} where
  pub comma_comes : x ≡ true → Reads (λ e ts. took (is_sign Comma) ts) q r x →
      Reads (λ e ts. comma_or ends e no_value ts) q r no_value
  comma_comes is y = same_rule (λ e ts. comma_or ends e no_value ts) (comma_by ends) (comma_is ends)
      (taking (λ e ts. took (is_sign Comma) ts) (λ e. by_taken (λ us. Ok (no_value, us)) (needed ends e)) is y stay)

  pub end_comes : {s : Reader} → x ≡ false → Reads (λ e ts. took (is_sign Comma) ts) q r x →
      Reads (needed ends) r s no_value → Reads (λ e ts. comma_or ends e no_value ts) q s no_value
  end_comes is y z = same_rule (λ e ts. comma_or ends e no_value ts) (comma_by ends) (comma_is ends)
      (taking (λ e ts. took (is_sign Comma) ts) (λ e. by_taken (λ us. Ok (no_value, us)) (needed ends e)) is y z)

-- ---- a construct that opens
-- a token opens a construct, or what stands there is read
abbrev pub opened_or : {R B : Type 0} → (Token → Bool) → Option R → (Place → R → List Token → Read B) →
    (List Token → Read B) → List Token → Read B
opened_or test lower k rest [] = rest []
opened_or test lower k rest (t ∷ ts) = if test t then deeper lower t.at (λ r. k t.at r ts) else rest (t ∷ ts)

round_is : {R B : Type 0} (e : Place) (lower : Option R) (f : R → List Token → Read B) (b : B) (ts : List Token) →
    in_round_of e lower f ts
    ≡ then_read (needed (is_sign OpenRound) e ts) (λ _. opened_or (λ t. true) lower (λ at. f) (λ us. Ok (b, us)))
round_is e lower f b [] = refl
round_is e lower f b (t ∷ ts) = by (is_sign OpenRound t)
  where
    by : (c : Bool) → (if c then deeper lower t.at (λ r. f r ts) else Err (syntax_at t.at))
        ≡ then_read (if c then Ok (no_value, t ∷ ts) else Err (syntax_at t.at))
        (λ _. opened_or (λ t. true) lower (λ at. f) (λ us. Ok (b, us)))
    by true = refl
    by false = refl

module _ {R : Type 0} (lower : Place → ℕ → Option R) (level : Place → ℕ → R)
    (none : (e : Place) → lower e 0 ≡ None) (some : (e : Place) (n : ℕ) → lower e (suc n) ≡ Some (level e n)) where
  opens_at : {B : Type 0} (test : Token → Bool) (room : ℕ) (e : Place) (k : Place → R → List Token → Read B)
      (rest : List Token → Read B) (r s t : Standing) (o : Open) (b : B) →
      s ≡ (if stands_at test r then opened room r else r) →
      Some o ≡ (if stands_at test r then open_at room r else None) → Turn (k o.at (level e o.room)) s t b →
      Turn (opened_or test (lower e room) k rest) r t b
  opens_at test room e k rest (Err fault) s t o b now is p = absurd (cc)
  opens_at test room e k rest (Ok []) s t o b now is p = absurd (cc)
  opens_at test room e k rest (Ok (u ∷ us)) s t o b now is p = by (test u) room now is
    where
      by : (c : Bool) (room : ℕ) → s ≡ (if c then opened room (Ok (u ∷ us)) else Ok (u ∷ us)) →
          Some o ≡ (if c then open_at room (Ok (u ∷ us)) else None) →
          Given (if c then deeper (lower e room) u.at (λ r. k u.at r us) else rest (u ∷ us)) t b
      by true zero now is = absurd (cc)
      by true (suc n) now is =
          let same : o ≡ record { at = u.at; room = n } = cc in
          let p1 : Turn (k o.at (level e o.room)) (Ok us) t b =
          subst (λ s. Turn (k o.at (level e o.room)) s t b) now p in
          let p2 : Turn (k u.at (level e n)) (Ok us) t b =
          subst (λ (o : Open). Turn (k o.at (level e o.room)) (Ok us) t b) same p1 in
          subst (λ l. Given (deeper l u.at (λ r. k u.at r us)) t b) (sym (some e n)) p2
      by false room now is = absurd (cc)

  closes_at : {B : Type 0} (test : Token → Bool) (room : ℕ) (e : Place) (k : Place → R → List Token → Read B)
      (rest : List Token → Read B) (r s t : Standing) (b : B) →
      s ≡ (if stands_at test r then opened room r else r) →
      None ≡ (if stands_at test r then open_at room r else None) → Turn rest s t b →
      Turn (opened_or test (lower e room) k rest) r t b
  closes_at test room e k rest (Err fault) s t b now is p = subst (λ s. Turn rest s t b) now p
  closes_at test room e k rest (Ok []) s t b now is p = subst (λ s. Turn rest s t b) now p
  closes_at test room e k rest (Ok (u ∷ us)) s t b now is p = by (test u) room now is
    where
      by : (c : Bool) (room : ℕ) → s ≡ (if c then opened room (Ok (u ∷ us)) else Ok (u ∷ us)) →
          None ≡ (if c then open_at room (Ok (u ∷ us)) else None) →
          Given (if c then deeper (lower e room) u.at (λ r. k u.at r us) else rest (u ∷ us)) t b
      by true zero now is =
          let q = subst (λ s. Turn rest s t b) now p in
          subst (λ t. Given (deeper (lower e 0) u.at (λ r. k u.at r us)) t b) (sym q)
          (λ _. ap (λ l. deeper l u.at (λ r. k u.at r us)) (none e))
      by true (suc n) now is = absurd (cc)
      by false room now is = subst (λ s. Turn rest s t b) now p

  pub opens : {B : Type 0} (test : Token → Bool) (k : Place → Place → R → List Token → Read B)
      (rest : Place → List Token → Read B) {room : ℕ} {o : Open} {q r s : Reader} {b : B} →
      {found : Option Open} → found ≡ Some o → Opens test room q r found → Reads
      (λ e. k e o.at (level e o.room)) r s b →
      Reads (λ e. opened_or test (lower e room) (k e) (rest e)) q s b
  opens test k rest {room} {o} {q} {r} {s} {b} is x y = record {
    ends = y.ends ∙ x.ends;
    turn = opens_at test room q.end (k q.end) (rest q.end) (standing q) (standing r) (standing s) o b x.now
        (sym is ∙ x.is)
        (subst (λ e. Turn (k e o.at (level e o.room)) (standing r) (standing s) b) x.ends y.turn);
  }

  pub passes : {B : Type 0} (test : Token → Bool) (k : Place → Place → R → List Token → Read B)
      (rest : Place → List Token → Read B) {room : ℕ} {q r s : Reader} {b : B} {found : Option Open} → found ≡ None →
      Opens test room q r found → Reads rest r s b →
      Reads (λ e. opened_or test (lower e room) (k e) (rest e)) q s b
  passes test k rest {room} {q} {r} {s} {b} is x y = record {
    ends = y.ends ∙ x.ends;
    turn = closes_at test room q.end (k q.end) (rest q.end) (standing q) (standing r) (standing s) b x.now
        (sym is ∙ x.is)
        (subst (λ e. Turn (rest e) (standing r) (standing s) b) x.ends y.turn);
  }

  -- "(" and what stands behind it
  pub round_opens : {B : Type 0} (f : Place → R → List Token → Read B) {room : ℕ} {o : Open} {q r s t : Reader} {b : B}
      {found : Option Open} → Reads (needed (is_sign OpenRound)) q r no_value → found ≡ Some o →
      Opens (λ t. true) room r s found → Reads (λ e. f e (level e o.room)) s t b →
      Reads (λ e ts. in_round_of e (lower e room) (f e) ts) q t b
  round_opens f {room} {b = b} x is y z =
      same_rule (λ e ts. in_round_of e (lower e room) (f e) ts)
      (λ e ts. then_read (needed (is_sign OpenRound) e ts)
      (λ _. opened_or (λ t. true) (lower e room) (λ at. f e) (λ us. Ok (b, us))))
      (λ e ts. round_is e (lower e room) (f e) b ts)
      (follows (needed (is_sign OpenRound))
      (λ e _. opened_or (λ t. true) (lower e room) (λ at. f e) (λ us. Ok (b, us))) x
      (opens (λ t. true) (λ e at. f e) (λ e us. Ok (b, us)) is y z))

  pub round_stops : {B : Type 0} (f : Place → R → List Token → Read B) {room : ℕ} {q r s : Reader} {b : B}
      {found : Option Open} → Reads (needed (is_sign OpenRound)) q r no_value → found ≡ None →
      Opens (λ t. true) room r s found → Reads (λ e ts. in_round_of e (lower e room) (f e) ts) q s b
  round_stops f {room} {b = b} x is y =
      same_rule (λ e ts. in_round_of e (lower e room) (f e) ts)
      (λ e ts. then_read (needed (is_sign OpenRound) e ts)
      (λ _. opened_or (λ t. true) (lower e room) (λ at. f e) (λ us. Ok (b, us))))
      (λ e ts. round_is e (lower e room) (f e) b ts)
      (follows (needed (is_sign OpenRound))
      (λ e _. opened_or (λ t. true) (lower e room) (λ at. f e) (λ us. Ok (b, us))) x
      (passes (λ t. true) (λ e at. f e) (λ e us. Ok (b, us)) is y stay))

  -- ---- a construct that begins at a place
  goes_at : {B : Type 0} (room n : ℕ) (at e : Place) (k : R → List Token → Read B) (r s t : Standing) (b : B) →
      s ≡ within room at r → Some n ≡ room_in room → Turn (k (level e n)) s t b →
      Turn (λ ts. deeper (lower e room) at (λ r. k r ts)) r t b
  goes_at zero n at e k r s t b now is p = absurd (cc)
  goes_at (suc m) n at e k (Err fault) s t b now is p = subst (λ s. Turn (k (level e n)) s t b) now p
  goes_at (suc m) n at e k (Ok ts) s t b now is p =
      let same : n ≡ m = cc in
      let p1 : Turn (k (level e n)) (Ok ts) t b = subst (λ s. Turn (k (level e n)) s t b) now p in
      let p2 : Given (k (level e m) ts) t b = subst (λ n. Given (k (level e n) ts) t b) same p1 in
      subst (λ l. Given (deeper l at (λ r. k r ts)) t b) (sym (some e m)) p2

  pub goes_in : {B : Type 0} (k : Place → R → List Token → Read B) {room n : ℕ} {at : Place} {q r s : Reader} {b : B}
      {found : Option ℕ} → found ≡ Some n → Within room at q r found → Reads (λ e. k e (level e n)) r s b →
      Reads (λ e ts. deeper (lower e room) at (λ r. k e r ts)) q s b
  goes_in k {room} {n} {at} {q} {r} {s} {b} is x y = record {
    ends = y.ends ∙ x.ends;
    turn = goes_at room n at q.end (k q.end) (standing q) (standing r) (standing s) b x.now (sym is ∙ x.is)
        (subst (λ e. Turn (k e (level e n)) (standing r) (standing s) b) x.ends y.turn);
  }

  stops_at : {B : Type 0} (room : ℕ) (at e : Place) (k : R → List Token → Read B) (r s : Standing) (b : B) →
      s ≡ within room at r → None ≡ room_in room → Turn (λ ts. deeper (lower e room) at (λ r. k r ts)) r s b
  stops_at zero at e k (Err fault) s b now is = now
  stops_at zero at e k (Ok ts) s b now is =
      subst (λ s. Given (deeper (lower e 0) at (λ r. k r ts)) s b) (sym now)
      (λ _. ap (λ l. deeper l at (λ r. k r ts)) (none e))
  stops_at (suc m) at e k r s b now is = absurd (cc)

  pub no_room : {B : Type 0} (k : Place → R → List Token → Read B) {room : ℕ} {at : Place} {q r : Reader} {b : B}
      {found : Option ℕ} → found ≡ None → Within room at q r found → Reads
      (λ e ts. deeper (lower e room) at (λ r. k e r ts)) q r b
  no_room k {room} {at} {q} {r} {b} is x =
      record {
        ends = x.ends;
        turn = stops_at room at q.end (k q.end) (standing q) (standing r) b x.now
            (sym is ∙ x.is);
      }

-- ---- a part in its box
box_here : {T : Type 0} (found : Option T) (x : T) (s t : Standing) → found ≡ Some x →
    t ≡ (if is_some found then s else failed Memory s) → t ≡ s
box_here found x s t is now = now ∙ ap (λ f. if is_some f then s else failed Memory s) is

turn_failed : {B : Type 0} (a b : B) (s : Standing) → Turn (λ ts. Ok (a, ts)) s (failed Memory s) b
turn_failed a b (Ok ts) = λ some. absurd (some refl)
turn_failed a b (Err fault) = refl

pub boxed_some : {T B : Type 0} {found : Option T} {x : T} {q r : Reader} {a b : B} → found ≡ Some x → Kept found q r →
    b ≡ a → Reads (nothing_read a) q r b
boxed_some {found = found} {x} {q} {r} {a} {b} is k same = record {
  ends = k.ends;
  turn = subst (λ t. Turn (λ ts. Ok (a, ts)) (standing q) t b)
      (sym (box_here found x (standing q) (standing r) is k.now))
      (subst (λ b. Turn (λ ts. Ok (a, ts)) (standing q) (standing q) b) (sym same) (turn_stay (standing q) a));
}

pub boxed_none : {T B : Type 0} {found : Option T} {q r : Reader} {a b : B} → found ≡ None → Kept found q r →
    Reads (nothing_read a) q r b
boxed_none {found = found} {q} {r} {a} {b} is k = record {
  ends = k.ends;
  turn = subst (λ t. Turn (λ ts. Ok (a, ts)) (standing q) t b)
      (sym (k.now ∙ ap (λ f. if is_some f then standing q else failed Memory (standing q)) is))
      (turn_failed a b (standing q));
}
