-- The text of a program is the spelling of its printed tokens.
use Rattle.std.proofs.Common.{◌≡◌, ℕ, Bool, true, false, if◌then◌else◌, List, [], ◌∷◌, Option, Some, None, refl, sym}
use Rattle.std.proofs.Common.{subst, codes}
use Rattle.std.specs.Str.{bytes_eq}
use Rattle.std.proofs.lemmas.Slice.Eq.{bytes_eq-Decides}
use Rattle.scad_lex.specs.declared.token.Token.{Token}
use Rattle.scad_lex.specs.declared.token.Sign.TheVariants.{OpenCurly, CloseCurly, Semicolon, Assign, Percent, Hash}
use Rattle.scad_lex.specs.declared.token.Key.TheVariants.{Module, Function, If, Else, For, Let, Assert, Echo}
use Rattle.scad_ast.specs.Tree.{Expression, Parameter, Items, no_items, entry, Item, assignment, module_of}
use Rattle.scad_ast.specs.Tree.{function_of, call_of, choice}
use Rattle.scad_ast.specs.Text.{spaced, default_text, parameters_text, body, otherwise, items_text, item_text}
use Rattle.scad_grammar.specs.Tokens.{sign, key, word}
use Rattle.scad_grammar.specs.TreeText.{nowhere}
use Rattle.scad_grammar.specs.PrintedItems.{callee_token, mark_onto, default_onto, parameters_onto, body_onto}
use Rattle.scad_grammar.specs.PrintedItems.{otherwise_onto, items_onto, item_onto}
use Rattle.scad_grammar.proofs.printing.Texts.{Spells, Prints, none, one, ◌before◌, a_sign, a_key, round, whole}
use Rattle.scad_grammar.proofs.printing.PrintedTexts.{a_word, comma_prints, expression_prints, arguments_print}

-- the name of a called module
callee_if : (w v : List ℕ) (b : Bool) (t u : Token) → bytes_eq w v ≡ b → Prints (spaced v) (λ us. t ∷ us) →
    Prints (spaced w) (λ us. u ∷ us) →
    Prints (spaced w) (λ us. (if b then t else u) ∷ us)
callee_if w v true t u h p q =
    subst (λ (x : List ℕ). Prints (spaced x) (λ us. t ∷ us)) (sym ((bytes_eq-Decides w v).0 h)) p
callee_if w v false t u h p q = q

callee_prints : (w : List ℕ) → Prints (spaced w) (λ us. callee_token w ∷ us)
callee_prints w =
    callee_if w (codes "for") (bytes_eq w (codes "for")) (key For nowhere) _ refl (a_key For)
    (callee_if w (codes "let") (bytes_eq w (codes "let")) (key Let nowhere) _ refl (a_key Let)
    (callee_if w (codes "echo") (bytes_eq w (codes "echo")) (key Echo nowhere) _ refl (a_key Echo)
    (callee_if w (codes "assert") (bytes_eq w (codes "assert")) (key Assert nowhere) (word w nowhere) refl
    (a_key Assert)
    (a_word w))))

default_prints : (d : Option Expression) → Prints (default_text d) (default_onto d)
default_prints None = none
default_prints (Some e) = a_sign Assign before expression_prints e

parameters_print : (first : Bool) (ps : List Parameter) → Prints (parameters_text first ps) (parameters_onto first ps)
parameters_print first [] = none
parameters_print first (p ∷ more) =
    comma_prints first before a_word p.name before default_prints p.default before parameters_print false more

percent_prints : (b : Bool) → Prints (if b then codes "% " else []) (mark_onto b Percent)
percent_prints true = a_sign Percent
percent_prints false = none

hash_prints : (b : Bool) → Prints (if b then codes "# " else []) (mark_onto b Hash)
hash_prints true = a_sign Hash
hash_prints false = none

semicolon : Prints (codes ";\n") (λ us. sign Semicolon nowhere ∷ us)
semicolon = one (sign Semicolon nowhere) true

open_curly : Prints (codes "{\n") (λ us. sign OpenCurly nowhere ∷ us)
open_curly = one (sign OpenCurly nowhere) true

close_curly : Prints (codes "}\n") (λ us. sign CloseCurly nowhere ∷ us)
close_curly = one (sign CloseCurly nowhere) true

body_prints : (all : Items) {text : List ℕ} {f : List Token → List Token} → Prints text f →
    Prints (body all text) (body_onto all f)
body_prints no_items p = semicolon
body_prints (entry i more) p = open_curly before p before close_curly

otherwise_prints : (all : Items) {text : List ℕ} {f : List Token → List Token} → Prints text f →
    Prints (otherwise all text) (otherwise_onto all f)
otherwise_prints no_items p = none
otherwise_prints (entry i more) p = a_key Else before (open_curly before p before close_curly)

mutual
  items_print : (all : Items) → Prints (items_text all) (items_onto all)
  items_print no_items = none
  items_print (entry i more) = item_prints i before items_print more

  item_prints : (i : Item) → Prints (item_text i) (item_onto i)
  item_prints (assignment at w e) = a_word w before a_sign Assign before expression_prints e before semicolon
  item_prints (module_of at w ps all) =
      a_key Module before a_word w before round (parameters_print true ps) before body_prints all (items_print all)
  item_prints (function_of at w ps e) =
      a_key Function before a_word w before round (parameters_print true ps) before a_sign Assign before
      expression_prints e
      before semicolon
  item_prints (call_of at percent hash w args all) =
      percent_prints percent before hash_prints hash before callee_prints w before round (arguments_print true args)
      before body_prints all (items_print all)
  item_prints (choice at percent hash test held other) =
      percent_prints percent before hash_prints hash before a_key If before round (expression_prints test)
      before body_prints held (items_print held) before otherwise_prints other (items_print other)

pub items_spelled : (all : Items) → Spells (items_text all) (items_onto all [])
items_spelled all = whole (items_print all)
