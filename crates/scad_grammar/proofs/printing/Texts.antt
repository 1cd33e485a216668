-- Texts as the spellings of tokens, a blank or a line feed behind each.
use Rattle.std.proofs.Common.{◌≡◌, ℕ, Bool, false, List, [], ◌∷◌, ◌++◌, map, refl, ap, sym, subst}
use Rattle.std.proofs.lemmas.List.{append_assoc, append-nil}
use Rattle.scad_lex.specs.declared.token.Token.{Token}
use Rattle.scad_lex.specs.declared.token.Sign.{Sign as SignName}
use Rattle.scad_lex.specs.declared.token.Sign.TheVariants.{OpenRound, CloseRound}
use Rattle.scad_lex.specs.declared.token.Key.{Key as KeyName}
use Rattle.scad_lex.specs.Spelling.{spelling, sign_spelling, key_spelling, blank_behind, Spaced, spelled}
use Rattle.scad_ast.specs.Text.{in_parentheses}
use Rattle.scad_grammar.specs.Tokens.{sign, key}
use Rattle.scad_grammar.specs.TreeText.{nowhere, in_round_onto}

-- the text is these tokens as they are spelled
pub record Spells (text : List ℕ) (ts : List Token) : Type 0 where
  pub all : List Spaced
  pub is : spelled all ≡ text
  pub kinds : map (λ k. k.0) all ≡ map (λ t. t.kind) ts

-- a text that may stand before any other, as tokens before others
pub record Prints (text : List ℕ) (onto : List Token → List Token) : Type 0 where
  pub before_rest : (rest : List ℕ) (us : List Token) → Spells rest us → Spells (text ++ rest) (onto us)

nothing : Spells [] []
nothing = record { all = []; is = refl; kinds = refl }

with_token : (t : Token) (ends : Bool) {text : List ℕ} {ts : List Token} → Spells text ts →
    Spells (spelling t.kind ++ blank_behind ends ∷ text) (t ∷ ts)
with_token t ends s = record {
  all = (t.kind, ends) ∷ s.all;
  is = ap (λ x. spelling t.kind ++ blank_behind ends ∷ x) s.is;
  kinds = ap (λ x. t.kind ∷ x) s.kinds;
}

pub none : Prints [] (λ us. us)
none = record { before_rest = λ rest us s. s }

-- a token and a blank, or a line feed where the line ends
pub one : (t : Token) (ends : Bool) → Prints (spelling t.kind ++ blank_behind ends ∷ []) (λ us. t ∷ us)
one t ends = record {
  before_rest = λ rest us s.
      subst (λ x. Spells x (t ∷ us)) (sym (append_assoc (spelling t.kind) (blank_behind ends ∷ []) rest))
      (with_token t ends s);
}

infixl 60 ◌before◌
pub ◌before◌ : {text more : List ℕ} {f g : List Token → List Token} → Prints text f → Prints more g →
    Prints (text ++ more) (λ us. f (g us))
◌before◌ {text = text} {more = more} {f = f} {g = g} p q = record {
  before_rest = λ rest us s.
      subst (λ x. Spells x (f (g us))) (sym (append_assoc text more rest))
      (p.before_rest (more ++ rest) (g us) (q.before_rest rest us s));
}

pub a_sign : (s : SignName) → Prints (sign_spelling s ++ 32 ∷ []) (λ us. sign s nowhere ∷ us)
a_sign s = one (sign s nowhere) false

pub a_key : (k : KeyName) → Prints (key_spelling k ++ 32 ∷ []) (λ us. key k nowhere ∷ us)
a_key k = one (key k nowhere) false

pub round : {text : List ℕ} {f : List Token → List Token} → Prints text f →
    Prints (in_parentheses text) (in_round_onto f)
round p = a_sign OpenRound before p before a_sign CloseRound

-- the text of a whole
pub whole : {text : List ℕ} {f : List Token → List Token} → Prints text f → Spells text (f [])
whole {text = text} {f = f} p = subst (λ x. Spells x (f [])) (append-nil text) (p.before_rest [] [] nothing)
