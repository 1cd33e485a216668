-- The tokens of the printed text of items, in front of further tokens, and the items without their places.
use Rattle.std.specs.Prelude.{◌≡◌, ℕ, Bool, true, false, if◌then◌else◌, List, [], ◌∷◌, Option, Some, None, option_map}
use Rattle.std.specs.Prelude.{map, codes}
use Rattle.std.specs.Str.{bytes_eq}
use Rattle.scad_lex.specs.declared.token.Token.{Token}
use Rattle.scad_lex.specs.declared.token.Sign.{Sign as SignName}
use Rattle.scad_lex.specs.declared.token.Sign.TheVariants.{OpenCurly, CloseCurly, Semicolon, Assign, Percent, Hash}
use Rattle.scad_lex.specs.declared.token.Key.TheVariants.{Module, Function, If, Else, For, Let, Assert, Echo}
use Rattle.scad_ast.specs.Tree.{Expression, Parameter, Items, no_items, entry, Item, assignment, module_of}
use Rattle.scad_ast.specs.Tree.{function_of, call_of, choice}
use Rattle.scad_grammar.specs.Tokens.{sign, key, word}
use Rattle.scad_grammar.specs.TreeText.{nowhere, in_round_onto, comma_onto, expression_onto, arguments_onto, unplaced}
use Rattle.scad_grammar.specs.TreeText.{unplaced_arguments, IsPrintable, ArePrintable}

-- the token of a name that is called: four of them are keywords
abbrev pub callee_token : List ℕ → Token
callee_token w =
    if bytes_eq w (codes "for") then key For nowhere
    else (if bytes_eq w (codes "let") then key Let nowhere
    else (if bytes_eq w (codes "echo") then key Echo nowhere
    else (if bytes_eq w (codes "assert") then key Assert nowhere
    else word w nowhere)))

abbrev pub mark_onto : Bool → SignName → List Token → List Token
mark_onto true s us = sign s nowhere ∷ us
mark_onto false s us = us

abbrev pub default_onto : Option Expression → List Token → List Token
default_onto None us = us
default_onto (Some e) us = sign Assign nowhere ∷ expression_onto e us

abbrev pub parameters_onto : Bool → List Parameter → List Token → List Token
parameters_onto first [] us = us
parameters_onto first (p ∷ more) us =
    comma_onto first (word p.name nowhere ∷ default_onto p.default (parameters_onto false more us))

-- items in braces, or `;` where there are none
abbrev pub body_onto : Items → (List Token → List Token) → List Token → List Token
body_onto no_items text us = sign Semicolon nowhere ∷ us
body_onto (entry i more) text us = sign OpenCurly nowhere ∷ text (sign CloseCurly nowhere ∷ us)

abbrev pub otherwise_onto : Items → (List Token → List Token) → List Token → List Token
otherwise_onto no_items text us = us
otherwise_onto (entry i more) text us =
    key Else nowhere ∷ sign OpenCurly nowhere ∷ text (sign CloseCurly nowhere ∷ us)

abbrev mutual
  pub items_onto : Items → List Token → List Token
  items_onto no_items us = us
  items_onto (entry i more) us = item_onto i (items_onto more us)

  pub item_onto : Item → List Token → List Token
  item_onto (assignment at w e) us =
      word w nowhere ∷ sign Assign nowhere ∷ expression_onto e (sign Semicolon nowhere ∷ us)
  item_onto (module_of at w ps all) us =
      key Module nowhere ∷ word w nowhere ∷ in_round_onto (parameters_onto true ps)
      (body_onto all (items_onto all) us)
  item_onto (function_of at w ps e) us =
      key Function nowhere ∷ word w nowhere ∷ in_round_onto (parameters_onto true ps)
      (sign Assign nowhere ∷ expression_onto e (sign Semicolon nowhere ∷ us))
  item_onto (call_of at percent hash w args all) us =
      mark_onto percent Percent
      (mark_onto hash Hash (callee_token w ∷ in_round_onto (arguments_onto true args)
      (body_onto all (items_onto all) us)))
  item_onto (choice at percent hash test held other) us =
      mark_onto percent Percent (mark_onto hash Hash (key If nowhere ∷ in_round_onto (expression_onto test)
      (body_onto held (items_onto held) (otherwise_onto other (items_onto other) us))))

abbrev pub unplaced_parameter : Parameter → Parameter
unplaced_parameter p = record { name = p.name; default = option_map unplaced p.default }

abbrev mutual
  pub unplaced_items : Items → Items
  unplaced_items no_items = no_items
  unplaced_items (entry i more) = entry (unplaced_item i) (unplaced_items more)

  pub unplaced_item : Item → Item
  unplaced_item (assignment at w e) = assignment nowhere w (unplaced e)
  unplaced_item (module_of at w ps all) = module_of nowhere w (map unplaced_parameter ps) (unplaced_items all)
  unplaced_item (function_of at w ps e) = function_of nowhere w (map unplaced_parameter ps) (unplaced e)
  unplaced_item (call_of at percent hash w args all) =
      call_of nowhere percent hash w (unplaced_arguments args) (unplaced_items all)
  unplaced_item (choice at percent hash test held other) =
      choice nowhere percent hash (unplaced test) (unplaced_items held) (unplaced_items other)

abbrev pub IsPrintableDefault : Option Expression → Type 0
IsPrintableDefault None = Unit {0}
IsPrintableDefault (Some e) = IsPrintable e

abbrev pub ArePrintableParameters : List Parameter → Type 0
ArePrintableParameters [] = Unit {0}
ArePrintableParameters (p ∷ more) = IsPrintableDefault p.default × ArePrintableParameters more

-- items that tokens can derive where definitions may stand or not
abbrev mutual
  pub ArePrintableItems : Items → Bool → Type 0
  ArePrintableItems no_items d = Unit {0}
  ArePrintableItems (entry i more) d = IsPrintableItem i d × ArePrintableItems more d

  pub IsPrintableItem : Item → Bool → Type 0
  IsPrintableItem (assignment at w e) d = IsPrintable e
  IsPrintableItem (module_of at w ps all) d = (d ≡ true) × ArePrintableParameters ps × ArePrintableItems all true
  IsPrintableItem (function_of at w ps e) d = (d ≡ true) × ArePrintableParameters ps × IsPrintable e
  IsPrintableItem (call_of at percent hash w args all) d = ArePrintable args × ArePrintableItems all false
  IsPrintableItem (choice at percent hash test held other) d = IsPrintable test × ArePrintableItems held false
      × ArePrintableItems other false
