-- A loop over the members of a list, where the reader may remember a fault.
use Rattle.std.proofs.Common.{◌≡◌, ℕ, suc, ◌<◌, Bool, true, false, List, [], ◌∷◌, Ok, Err, length}
use Rattle.std.proofs.Common.{refl, sym, ap, subst, ◌∙◌, arith}
use Rattle.std.specs.Prelude.{◌≢◌, not}
use Rattle.scad_lex.specs.declared.token.Token.{Token}
use Rattle.scad_lex.specs.declared.token.Sign.{Sign as SignName}
use Rattle.scad_grammar.specs.Tokens.{is_sign, begins_with}
use Rattle.scad_grammar.specs.Grammar.{ends_arguments, at_end_of_arguments}
use Rattle.scad_grammar.specs.Machine.{Refusal}
use Rattle.scad_grammar.specs.Rules.{Read}
use Rattle.scad_parse.specs.declared.fault.Fault.{Fault}
use Rattle.scad_parse.specs.declared.fault.Fault.TheVariants.{Memory}
use Rattle.scad_parse.specs.Reading.{no_value, behind}
use Rattle.scad_parse.specs.Standing.{Standing, Turn, Given, refused, lacks, stands_at, passed}
use Rattle.scad_parse.proofs.loops.Turns.{Goes, begins, to_come}

-- what the whole gives from the start: what is left gives it, or the fault is its own
abbrev pub Going : {S B : Type 0} → (ℕ → S → List Token → Read B) → S → Standing → S → Standing → Type 0
Going rule start (Ok ts) so_far (Ok us) = Goes rule (rule (length ts) start ts) so_far us
Going rule start (Ok ts) so_far (Err fault) = fault ≢ Memory → rule (length ts) start ts ≡ Err (refused fault)
Going rule start (Err first) so_far now = now ≡ Err first

pub going_begins : {S B : Type 0} (rule : ℕ → S → List Token → Read B) (start t : S) (s : Standing) → t ≡ start →
    Going rule start s t s
going_begins rule start t (Ok ts) same = begins rule start t ts ts same refl
going_begins rule start t (Err fault) same = refl

flipped : (b : Bool) → not b ≡ true → b ≡ false
flipped true h = absurd (cc)
flipped false h = refl

unflipped : (b : Bool) → not b ≡ false → b ≡ true
unflipped true h = refl
unflipped false h = absurd (cc)

-- a fault stays
pub stays : {A : Type 0} (f : List Token → Read A) (s t : Standing) (fault : Fault) (a : A) → s ≡ Err fault →
    Turn f s t a → t ≡ Err fault
stays f s t fault a is x = subst (λ s. Turn f s t a) is x

going_fault : {S B : Type 0} (rule : ℕ → S → List Token → Read B) (start so_far next : S) (r t : Standing)
    (fault : Fault) → t ≡ Err fault → Going rule start r so_far (Err fault) → Going rule start r next t
going_fault rule start so_far next (Ok ts) t fault is g = subst (λ t. Going rule start (Ok ts) next t) (sym is) g
going_fault rule start so_far next (Err first) t fault is g = is ∙ g

-- what an answer holds
abbrev pub value_of : {A : Type 0} → A → Read A → A
value_of a (Ok r) = r.0
value_of a (Err fault) = a

abbrev pub rest_of : {A : Type 0} → Read A → List Token
rest_of (Ok r) = r.1
rest_of (Err fault) = []

-- a member, which is put behind those so far, and what stands behind it
module _ {S A B T : Type 0} (rule : ℕ → S → List Token → Read B) (start : S) (seen : List T → S)
    (f : List Token → Read A) (g : List Token → Read (Unit {0})) (items pushed after : List T) (a : A) where
  going_behind : (ts0 ts us vs : List Token) (t : Standing) →
      Goes rule (rule (length ts0) start ts0) (seen items) ts → f ts ≡ Ok (a, us) → after ≡ pushed → vs ≡ us →
      ((ws : List Token) → g us ≡ Ok (no_value, ws) → Goes rule (rule (length ts0) start ts0) (seen pushed) ws) →
      ((fault : Refusal) → g us ≡ Err fault → rule (length ts0) start ts0 ≡ Err fault) → Given (g vs) t no_value →
      Going rule start (Ok ts0) (seen after) t
  going_behind ts0 ts us vs (Ok ws) h read same there go stop x =
      subst (λ all. Goes rule (rule (length ts0) start ts0) (seen all) ws) (sym same) (go ws (ap g (sym there) ∙ x))
  going_behind ts0 ts us vs (Err fault) h read same there go stop x =
      λ some. stop (refused fault) (ap g (sym there) ∙ x some)

  pub going_on : (r s s1 s2 t : Standing) → Going rule start r (seen items) s → Turn f s s1 a →
      Turn (λ ts. Ok (pushed, ts)) s1 s2 after → Turn g s2 t no_value →
      ((ts0 ts us ws : List Token) → s ≡ Ok ts → s1 ≡ Ok us → f ts ≡ Ok (a, us) → g us ≡ Ok (no_value, ws) →
      Goes rule (rule (length ts0) start ts0) (seen items) ts →
      Goes rule (rule (length ts0) start ts0) (seen pushed) ws) →
      ((ts0 ts : List Token) (fault : Refusal) → s ≡ Ok ts → f ts ≡ Err fault →
      Goes rule (rule (length ts0) start ts0) (seen items) ts → rule (length ts0) start ts0 ≡ Err fault) →
      ((ts0 ts us : List Token) (fault : Refusal) → s ≡ Ok ts → s1 ≡ Ok us → f ts ≡ Ok (a, us) → g us ≡ Err fault →
      Goes rule (rule (length ts0) start ts0) (seen items) ts → rule (length ts0) start ts0 ≡ Err fault) →
      Going rule start r (seen after) t
  going_on r (Err fault) s1 s2 t h x y z go stop behind =
      going_fault rule start (seen items) (seen after) r t fault
      (stays g s2 t fault no_value (stays (λ ts. Ok (pushed, ts)) s1 s2 fault after x y) z) h
  going_on (Err first) (Ok ts) s1 s2 t h x y z go stop behind = absurd (cc)
  going_on (Ok ts0) (Ok ts) (Err fault) s2 t h x y z go stop behind =
      going_fault rule start (seen items) (seen after) (Ok ts0) t fault (stays g s2 t fault no_value y z)
      (λ some. stop ts0 ts (refused fault) refl (x some) h)
  going_on (Ok ts0) (Ok ts) (Ok us) (Err fault) t h x y z go stop behind =
      going_fault rule start (seen items) (seen after) (Ok ts0) t fault z (λ some. absurd (let no = y some in cc))
  going_on (Ok ts0) (Ok ts) (Ok us) (Ok vs) t h x y z go stop behind =
      let same : after ≡ pushed = sym (ap (value_of after) y) in
      let there : vs ≡ us = sym (ap rest_of y) in
      going_behind ts0 ts us vs t h x same there (λ ws e. go ts0 ts us ws refl refl x e h)
      (λ fault e. behind ts0 ts us fault refl refl x e h) z

  -- each turn takes a token, or there is a fault
  pub fewer_to_come : (test : Token → Bool) (s s1 s2 t : Standing) → lacks test s ≡ true → Turn f s s1 a →
      Turn (λ ts. Ok (pushed, ts)) s1 s2 after → Turn g s2 t no_value →
      ((ts us ws : List Token) → f ts ≡ Ok (a, us) → g us ≡ Ok (no_value, ws) → length ws < length ts) →
      to_come t < to_come s
  fewer_to_come test (Err fault) s1 s2 t more x y z few = absurd (cc)
  fewer_to_come test (Ok ts) (Err fault) s2 t more x y z few =
      subst (λ t. to_come t < suc (length ts)) (sym (stays g s2 t fault no_value y z)) (omega arith)
  fewer_to_come test (Ok ts) (Ok us) (Err fault) t more x y z few =
      subst (λ t. to_come t < suc (length ts)) (sym z) (omega arith)
  fewer_to_come test (Ok ts) (Ok us) (Ok vs) (Err fault) more x y z few = omega arith
  fewer_to_come test (Ok ts) (Ok us) (Ok vs) (Ok ws) more x y z few =
      let there : vs ≡ us = sym (ap rest_of y) in
      let less = few ts us ws x (ap g (sym there) ∙ z) in
      omega (arith, less)

-- one rule at each turn, which goes on with what it is given
pub going_next : {S B : Type 0} (rule : ℕ → S → List Token → Read B) (start so_far next : S) (f : List Token → Read S)
    (r s t : Standing) → Going rule start r so_far s → Turn f s t next →
    ((ts0 ts us : List Token) → s ≡ Ok ts → f ts ≡ Ok (next, us) →
    Goes rule (rule (length ts0) start ts0) so_far ts → Goes rule (rule (length ts0) start ts0) next us) →
    ((ts0 ts : List Token) (fault : Refusal) → s ≡ Ok ts → f ts ≡ Err fault →
    Goes rule (rule (length ts0) start ts0) so_far ts → rule (length ts0) start ts0 ≡ Err fault) →
    Going rule start r next t
going_next rule start so_far next f r (Err fault) t h x go stop =
    going_fault rule start so_far next r t fault x h
going_next rule start so_far next f (Err first) (Ok ts) t h x go stop = absurd (cc)
going_next rule start so_far next f (Ok ts0) (Ok ts) (Ok us) h x go stop = go ts0 ts us refl x h
going_next rule start so_far next f (Ok ts0) (Ok ts) (Err fault) h x go stop =
    λ some. stop ts0 ts (refused fault) refl (x some) h

pub fewer_next : {S : Type 0} (next : S) (f : List Token → Read S) (test : Token → Bool) (s t : Standing) →
    lacks test s ≡ true → Turn f s t next → ((ts us : List Token) → f ts ≡ Ok (next, us) → length us < length ts) →
    to_come t < to_come s
fewer_next next f test (Err fault) t more x few = absurd (cc)
fewer_next next f test (Ok ts) (Err fault) more x few = omega arith
fewer_next next f test (Ok ts) (Ok us) more x few = let less = few ts us x in omega (arith, less)

-- what is read last
pub going_ends : {S B : Type 0} (rule : ℕ → S → List Token → Read B) (start so_far : S) (f : List Token → Read B)
    (r s t : Standing) (b : B) → Going rule start r so_far s → Turn f s t b →
    ((ts0 ts : List Token) → s ≡ Ok ts → Goes rule (rule (length ts0) start ts0) so_far ts →
    rule (length ts0) start ts0 ≡ f ts) →
    Turn (λ ts. rule (length ts) start ts) r t b
going_ends rule start so_far f (Err first) s t b g x last = stays f s t first b g x
going_ends rule start so_far f (Ok ts0) (Ok ts) t b g x last =
    subst (λ y. Given y t b) (sym (last ts0 ts refl g)) x
going_ends rule start so_far f (Ok ts0) (Err fault) t b g x last =
    subst (λ t. Given (rule (length ts0) start ts0) t b) (sym x) g

-- what isn't at its end
pub more_sign : (sign : SignName) (s : Standing) (ts : List Token) → lacks (is_sign sign) s ≡ true → s ≡ Ok ts →
    begins_with sign ts ≡ false
more_sign sign s [] h here = refl
more_sign sign s (t ∷ ts) h here =
    flipped (is_sign sign t) (ap (λ s. lacks (is_sign sign) s) (sym here) ∙ h)

pub more_arguments : (s : Standing) (ts : List Token) → lacks ends_arguments s ≡ true → s ≡ Ok ts →
    at_end_of_arguments ts ≡ false
more_arguments s [] h here = refl
more_arguments s (t ∷ ts) h here = flipped (ends_arguments t) (ap (λ s. lacks ends_arguments s) (sym here) ∙ h)

pub last_sign : (sign : SignName) (s : Standing) (ts : List Token) → lacks (is_sign sign) s ≡ false → s ≡ Ok ts →
    begins_with sign ts ≡ true
last_sign sign s [] h here = let no : lacks (is_sign sign) (Ok []) ≡ false = ap (λ s. lacks (is_sign sign) s) (sym here)
    ∙ h in
    absurd (cc)
last_sign sign s (t ∷ ts) h here =
    unflipped (is_sign sign t) (ap (λ s. lacks (is_sign sign) s) (sym here) ∙ h)

pub last_argument : (s : Standing) (ts : List Token) → lacks ends_arguments s ≡ false → s ≡ Ok ts →
    at_end_of_arguments ts ≡ true
last_argument s [] h here = let no : lacks ends_arguments (Ok []) ≡ false = ap (λ s. lacks ends_arguments s) (sym here)
    ∙ h in
    absurd (cc)
last_argument s (t ∷ ts) h here = unflipped (ends_arguments t) (ap (λ s. lacks ends_arguments s) (sym here) ∙ h)

pub stands_sign : (sign : SignName) (b : Bool) (s : Standing) (ts : List Token) → stands_at (is_sign sign) s ≡ b →
    s ≡ Ok ts → begins_with sign ts ≡ b
stands_sign sign b s [] h here = ap (λ s. stands_at (is_sign sign) s) (sym here) ∙ h
stands_sign sign b s (t ∷ ts) h here = ap (λ s. stands_at (is_sign sign) s) (sym here) ∙ h

-- the token at the end of a list is read
pub turn_passed : {B : Type 0} (s : Standing) (b : B) → Turn (λ ts. Ok (b, behind ts)) s (passed s) b
turn_passed (Ok ts) b = refl
turn_passed (Err fault) b = refl
