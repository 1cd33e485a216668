-- The text of a program that tokens derive is cut into tokens of the kinds of its printed ones.
use Rattle.std.proofs.Common.{◌≡◌, List, [], ◌∷◌, ◌++◌, map, Ok, refl, ap, sym, ◌∙◌, subst}
use Rattle.scad_fault.specs.declared.place.Place.{Place}
use Rattle.scad_lex.specs.declared.token.Token.{Token}
use Rattle.scad_lex.specs.declared.token.TokenKind.{TokenKind}
use Rattle.scad_lex.specs.Tokens.{after, tokens, start}
use Rattle.scad_lex.specs.Spelling.{spelling, blank_behind, Spaced, spelled, placed, CanBeSpelled, CanAllBeSpelled}
use Rattle.scad_lex.specs.Spelling.{HaveSpellings}
use Rattle.scad_lex.proofs.TokenText.{spelled_tokens_are_read}
use Rattle.scad_ast.specs.Tree.{Items}
use Rattle.scad_ast.specs.Text.{items_text}
use Rattle.scad_grammar.specs.Plain
use Rattle.scad_grammar.specs.PrintedItems.{items_onto}
use Rattle.scad_grammar.proofs.printing.Texts.{Spells}
use Rattle.scad_grammar.proofs.printing.PrintedItemTexts.{items_spelled}
use Rattle.scad_grammar.proofs.printing.SpellableItems.{printed_have_spellings}

-- the text is cut into tokens of these kinds
pub record Reads (all : Items) : Type 0 where
  pub us : List Token
  pub end : Place
  pub read : tokens (items_text all) ≡ Ok (us, end)
  pub kinds : map (λ t. t.kind) us ≡ map (λ t. t.kind) (items_onto all [])

abbrev KindsCan : List TokenKind → Type 0
KindsCan [] = Unit {0}
KindsCan (k ∷ more) = CanBeSpelled k × KindsCan more

kinds_can : (ts : List Token) → HaveSpellings ts → KindsCan (map (λ t. t.kind) ts)
kinds_can [] h = tt
kinds_can (t ∷ ts) h = (h.0, kinds_can ts h.1)

all_can : (ks : List Spaced) → KindsCan (map (λ k. k.0) ks) → CanAllBeSpelled ks
all_can [] h = tt
all_can (k ∷ ks) h = (h.0, all_can ks h.1)

placed_kinds : (at : Place) (ks : List Spaced) → map (λ t. t.kind) (placed at ks) ≡ map (λ k. k.0) ks
placed_kinds at [] = refl
placed_kinds at (k ∷ ks) =
    ap (λ more. k.0 ∷ more) (placed_kinds (after at (spelling k.0 ++ blank_behind k.1 ∷ [])) ks)

spelled_read : {all : Items} → HaveSpellings (items_onto all []) → Spells (items_text all) (items_onto all []) →
    Reads all
spelled_read {all = all} h s = record {
  us = placed start s.all;
  end = after start (spelled s.all);
  read =
      ap tokens (sym s.is)
      ∙ spelled_tokens_are_read s.all
      (all_can s.all (subst KindsCan (sym s.kinds) (kinds_can (items_onto all []) h)));
  kinds = placed_kinds start s.all ∙ s.kinds;
}

pub printed_text_read : {ts : List Token} {all : Items} → Plain.Derives ts all → HaveSpellings ts → Reads all
printed_text_read {all = all} d h = spelled_read (printed_have_spellings d h) (items_spelled all)
