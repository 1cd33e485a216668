-- Tokens are judged a program exactly where none has a fault and the grammar derives it.
use Rattle.std.proofs.Common.{◌≡◌, ℕ, ◌≤◌, List, [], ◌∷◌, ◌++◌, Result, Ok, Err, refl, ap, sym, ◌∙◌, subst}
use Rattle.std.proofs.Common.{append_assoc, arith}
use Rattle.std.proofs.lemmas.List.{append-nil}
use Rattle.scad_fault.specs.declared.place.Place.{Place}
use Rattle.scad_lex.specs.declared.token.Token.{Token}
use Rattle.scad_ast.specs.Tree.{Items}
use Rattle.scad_grammar.specs.Statements.{Derives}
use Rattle.scad_grammar.specs.Machine.{start, reach, Refusal, syntax_at, nesting_at, left_out_at, most_open}
use Rattle.scad_grammar.specs.Machine.{outcome_of}
use Rattle.scad_grammar.specs.Nesting.{Opens}
use Rattle.scad_grammar.specs.Verdict.{MayStand, Judged, is_program, ends_early, is_left_out, is_misplaced}
use Rattle.scad_grammar.specs.Verdict.{is_nested, stands, HasFault, of_left_out_form, out_of_place, too_deep}
use Rattle.scad_grammar.specs.Verdict.{NothingIsRefused}
use Rattle.scad_grammar.specs.Promises.{AcceptsWhatIsDerived}
use Rattle.scad_grammar.proofs.faults.Faults.{standing, opens_once}
use Rattle.scad_grammar.proofs.grammar.Loose.{loose_program}
use Rattle.scad_grammar.proofs.grammar.Tight.{tight_program}
use Rattle.scad_grammar.proofs.reader.Statements.{runs_program}
use Rattle.std.proofs.lemmas.Option.{same_Some}

-- none of these tokens has a fault, where those stand before
abbrev NoneRefused : List Token → List Token → Type 0
NoneRefused front ts = (before behind : List Token) (t : Token) → ts ≡ before ++ (t ∷ behind) →
    HasFault (front ++ before) t → ⊥

no_fault : (before : List Token) (t : Token) (n : ℕ) → MayStand before t → Opens (before ++ (t ∷ [])) n →
    n ≤ most_open → HasFault before t → ⊥
no_fault before t n may o le (of_left_out_form {w = w} l) = may.not_left_out w l
no_fault before t n may o le (out_of_place b) = b may.begins
no_fault before t n may o le (too_deep m other lt) =
    let same = opens_once (before ++ (t ∷ [])) n m o other in absurd (omega (arith, same, le, lt))

split_more : (front : List Token) (t : Token) (ts : List Token) → front ++ (t ∷ ts) ≡ (front ++ (t ∷ [])) ++ ts
split_more front t ts = sym (append_assoc front (t ∷ []) ts)

same_head : (t u : Token) (ts us : List Token) → t ∷ ts ≡ u ∷ us → t ≡ u
same_head t u ts us e = cc

none_refused-next : (front ts : List Token) (t : Token) → (HasFault front t → ⊥) →
    NoneRefused (front ++ (t ∷ [])) ts → NoneRefused front (t ∷ ts)
none_refused-next front ts t first later [] behind u e f =
    first (subst (λ (x : Token). HasFault front x) (sym (same_head t u ts behind e))
    (subst (λ (xs : List Token). HasFault xs u) (append-nil front) f))
none_refused-next front ts t first later (b ∷ before) behind u e f =
    later before behind u (same_tail t b ts (before ++ (u ∷ behind)) e)
    (subst (λ (xs : List Token). HasFault xs u)
    (split_more front b before
    ∙ ap (λ (x : Token). (front ++ (x ∷ [])) ++ before) (sym (same_head t b ts (before ++ (u ∷ behind)) e))) f)
  where
    same_tail : (t u : Token) (ts us : List Token) → t ∷ ts ≡ u ∷ us → ts ≡ us
    same_tail t u ts us e = cc

-- a program, and nothing is refused
record Accepted (front ts : List Token) (answer : Result Items Refusal) : Type 0 where
  none : (p : Items) → answer ≡ Ok p → NoneRefused front ts
  derived : (p : Items) → answer ≡ Ok p → Derives (front ++ ts) p
  refused : (f : Refusal) → answer ≡ Err f → NoneRefused front ts → (p : Items) → Derives (front ++ ts) p → ⊥

no_token : (before behind : List Token) (t : Token) → [] ≡ before ++ (t ∷ behind) → ⊥
no_token [] behind t e = absurd cc
no_token (b ∷ before) behind t e = absurd cc

abbrev answered : Items → Result Items Refusal
answered p = Ok p

abbrev failed : Refusal → Result Items Refusal
failed f = Err f

one_answer : {A : Type 0} (p : Items) (f : Refusal) → answered p ≡ failed f → A
one_answer p f e = absurd cc

same_program : (p q : Items) → answered p ≡ answered q → p ≡ q
same_program p q e = cc

refused_first : (front ts : List Token) (t : Token) → NoneRefused front (t ∷ ts) → HasFault front t → ⊥
refused_first front ts t none f =
    none [] ts t refl (subst (λ (xs : List Token). HasFault xs t) (sym (append-nil front)) f)

refused_later : (front ts : List Token) (t : Token) → NoneRefused front (t ∷ ts) → NoneRefused (front ++ (t ∷ [])) ts
refused_later front ts t none before behind u e f =
    none (t ∷ before) behind u (ap (λ (xs : List Token). t ∷ xs) e)
    (subst (λ (xs : List Token). HasFault xs u) (sym (split_more front t before)) f)

accepted : {front ts : List Token} {end : Place} {answer : Result Items Refusal} → Judged front ts end answer →
    Accepted front ts answer
accepted (is_program {before = front} {all = q} d) = record {
  none = λ p e before behind t s. absurd (no_token before behind t s);
  derived = λ p e. subst (λ (xs : List Token). Derives xs p) (sym (append-nil front))
      (subst (Derives front) (same_program q p e) d);
  refused = λ f e. one_answer q f e;
}
accepted (ends_early {before = front} {end = end} n) = record {
  none = λ p e. absurd (one_answer p (syntax_at end) (sym e));
  derived = λ p e. one_answer p (syntax_at end) (sym e);
  refused = λ f e none p d. n p (subst (λ (xs : List Token). Derives xs p) (append-nil front) d);
}
accepted (is_left_out {before = front} {ts = ts} {t = t} {w = w} l) = record {
  none = λ p e. absurd (one_answer p (left_out_at t.at w) (sym e));
  derived = λ p e. one_answer p (left_out_at t.at w) (sym e);
  refused = λ f e none p d. refused_first front ts t none (of_left_out_form l);
}
accepted (is_misplaced {before = front} {ts = ts} {t = t} l b) = record {
  none = λ p e. absurd (one_answer p (syntax_at t.at) (sym e));
  derived = λ p e. one_answer p (syntax_at t.at) (sym e);
  refused = λ f e none p d. refused_first front ts t none (out_of_place b);
}
accepted (is_nested {before = front} {ts = ts} {t = t} n may o lt) = record {
  none = λ p e. absurd (one_answer p (nesting_at t.at) (sym e));
  derived = λ p e. one_answer p (nesting_at t.at) (sym e);
  refused = λ f e none p d. refused_first front ts t none (too_deep n o lt);
}
accepted (stands {before = front} {ts = ts} {t = t} n may o le j) =
    let r = accepted j in
    record {
      none = λ p e. none_refused-next front ts t (no_fault front t n may o le) (r.none p e);
      derived = λ p e. subst (λ (xs : List Token). Derives xs p) (sym (split_more front t ts)) (r.derived p e);
      refused = λ f e none p d. r.refused f e (refused_later front ts t none) p
          (subst (λ (xs : List Token). Derives xs p) (split_more front t ts) d);
    }

pub accepts_what_is_derived : AcceptsWhatIsDerived
unfolding reach
accepts_what_is_derived ts end p = (
  λ j. let r = accepted j in (r.none p refl, loose_program (r.derived p refl)),
  λ both. by_answer (outcome_of ts end) (standing ts [] start end refl) both.0 (tight_program both.1),
)
  where
    by_answer : (answer : Result Items Refusal) → Judged [] ts end answer → NothingIsRefused ts → Derives ts p →
        Judged [] ts end (Ok p)
    by_answer (Ok q) j none d =
        let r = accepted j in
        subst (λ (x : Items). Judged [] ts end (Ok x))
        (same_Some q p (sym (runs_program (r.derived q refl)) ∙ runs_program d)) j
    by_answer (Err f) j none d = absurd ((accepted j).refused f refl none p d)
