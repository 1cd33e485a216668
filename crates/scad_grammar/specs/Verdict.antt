-- What tokens are: the program that they derive, or the fault at the first token, or at the end, that has one.
use Rattle.std.specs.Prelude.{◌≡◌, ℕ, ◌<◌, ◌≤◌, List, [], ◌∷◌, ◌++◌, Result, Ok, Err}
use Rattle.scad_fault.specs.declared.place.Place.{Place}
use Rattle.scad_lex.specs.declared.token.Token.{Token}
use Rattle.scad_ast.specs.Tree.{Items}
use Rattle.scad_grammar.specs.Statements.{Derives, Begins}
use Rattle.scad_grammar.specs.LeftOut.{IsLeftOut}
use Rattle.scad_grammar.specs.Nesting.{Opens}
use Rattle.scad_grammar.specs.Machine.{Refusal, syntax_at, nesting_at, left_out_at, most_open}

-- some program begins with these tokens, and the last is of no form that is left out
pub record MayStand (before : List Token) (t : Token) : Type 0 where
  pub begins : Begins (before ++ (t ∷ []))
  pub not_left_out : (w : List ℕ) → IsLeftOut before t w → ⊥

-- behind tokens without a fault these tokens, up to the end of the text, are a program or have their first fault so
pub data Judged : List Token → List Token → Place → Result Items Refusal → Type 0 where
  is_program : {before : List Token} {end : Place} {all : Items} →
      Derives before all → Judged before [] end (Ok all)
  ends_early : {before : List Token} {end : Place} →
      ((all : Items) → Derives before all → ⊥) → Judged before [] end (Err (syntax_at end))
  is_left_out : {before ts : List Token} {t : Token} {end : Place} {w : List ℕ} →
      IsLeftOut before t w → Judged before (t ∷ ts) end (Err (left_out_at t.at w))
  is_misplaced : {before ts : List Token} {t : Token} {end : Place} →
      ((w : List ℕ) → IsLeftOut before t w → ⊥) → (Begins (before ++ (t ∷ [])) → ⊥) →
      Judged before (t ∷ ts) end (Err (syntax_at t.at))
  is_nested : {before ts : List Token} {t : Token} {end : Place} (n : ℕ) →
      MayStand before t → Opens (before ++ (t ∷ [])) n → most_open < n →
      Judged before (t ∷ ts) end (Err (nesting_at t.at))
  stands : {before ts : List Token} {t : Token} {end : Place} {answer : Result Items Refusal} (n : ℕ) →
      MayStand before t → Opens (before ++ (t ∷ [])) n → n ≤ most_open →
      Judged (before ++ (t ∷ [])) ts end answer → Judged before (t ∷ ts) end answer

-- The token has a fault behind these tokens: it is of a form that is left out, or no program begins with the tokens
-- up to it, or with it too many constructs stand open.
pub data HasFault : List Token → Token → Type 0 where
  of_left_out_form : {before : List Token} {t : Token} {w : List ℕ} → IsLeftOut before t w → HasFault before t
  out_of_place : {before : List Token} {t : Token} → (Begins (before ++ (t ∷ [])) → ⊥) → HasFault before t
  too_deep : {before : List Token} {t : Token} (n : ℕ) →
      Opens (before ++ (t ∷ [])) n → most_open < n → HasFault before t

-- none of these tokens has a fault behind those before it
abbrev pub NothingIsRefused : List Token → Type 0
NothingIsRefused ts =
    (before behind : List Token) (t : Token) → ts ≡ before ++ (t ∷ behind) → HasFault before t → ⊥
