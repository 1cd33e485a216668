-- From what goes on behind a move to what goes on before its token, test by test.
use Rattle.std.proofs.Common.{◌≡◌, ℕ, Bool, true, false, List, Some, if◌then◌else◌, refl, sym, subst}
use Rattle.scad_lex.specs.declared.token.Token.{Token}
use Rattle.scad_lex.specs.declared.token.Sign.{Sign as SignName}
use Rattle.scad_lex.specs.declared.token.Key.{Key as KeyName}
use Rattle.scad_ast.specs.Tree.{Items}
use Rattle.scad_grammar.specs.Tokens.{sign, key, word, is_sign, is_key, word_of}
use Rattle.scad_grammar.specs.State.{State}
use Rattle.scad_grammar.specs.Move.{Move, go, left_out, stuck}
use Rattle.scad_grammar.specs.Steps.{only}
use Rattle.scad_grammar.proofs.reader.Goes.{Goes}
use Rattle.scad_grammar.proofs.reader.TokenTests.{is_the_sign, is_the_key, is_the_word}

-- tokens go on behind a move to a whole program
abbrev pub MoveGoes : Move → List Token → Items → Type 0
MoveGoes (go s) ts p = Goes s ts p
MoveGoes (left_out w) ts p = ⊥
MoveGoes stuck ts p = ⊥

pub by_test : (b : Bool) (x y : Move) (ts : List Token) (p : Items) {G : Type 0} →
    (b ≡ true → MoveGoes x ts p → G) → (b ≡ false → MoveGoes y ts p → G) →
    MoveGoes (if b then x else y) ts p → G
by_test true x y ts p f g m = f refl m
by_test false x y ts p f g m = g refl m

pub by_sign : (s : SignName) (t : Token) (x y : Move) (ts : List Token) (p : Items) (G : Token → Type 0) →
    (MoveGoes x ts p → G (sign s t.at)) → (is_sign s t ≡ false → MoveGoes y ts p → G t) →
    MoveGoes (if is_sign s t then x else y) ts p → G t
by_sign s t x y ts p G f g =
    by_test (is_sign s t) x y ts p (λ h m. subst G (sym (is_the_sign s t h)) (f m)) g

pub by_key : (k : KeyName) (t : Token) (x y : Move) (ts : List Token) (p : Items) (G : Token → Type 0) →
    (MoveGoes x ts p → G (key k t.at)) → (is_key k t ≡ false → MoveGoes y ts p → G t) →
    MoveGoes (if is_key k t then x else y) ts p → G t
by_key k t x y ts p G f g =
    by_test (is_key k t) x y ts p (λ h m. subst G (sym (is_the_key k t h)) (f m)) g

pub by_only : (s : SignName) (t : Token) (next : State) (ts : List Token) (p : Items) (G : Token → Type 0) →
    (Goes next ts p → G (sign s t.at)) → MoveGoes (only (is_sign s t) next) ts p → G t
by_only s t next ts p G f = by_sign s t (go next) stuck ts p G f (λ h m. absurd m)

pub by_word : (t : Token) (w : List ℕ) → word_of t ≡ Some w → (G : Token → Type 0) → G (word w t.at) → G t
by_word t w h G g = subst G (sym (is_the_word w t h)) g
