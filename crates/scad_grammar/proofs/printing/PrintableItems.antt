-- Each program that tokens derive can be printed.
use Rattle.std.proofs.Common.{ℕ, Bool, true, false, if◌then◌else◌, List, [], ◌∷◌, Option, refl}
use Rattle.scad_lex.specs.declared.token.Token.{Token}
use Rattle.scad_ast.specs.Tree.{Expression, Parameter, Items, no_items, entry, Item}
use Rattle.scad_grammar.specs.Lists.{with_parameter, with_item, Marks}
use Rattle.scad_grammar.specs.Plain
use Rattle.scad_grammar.specs.PrintedItems.{IsPrintableDefault, ArePrintableParameters, ArePrintableItems}
use Rattle.scad_grammar.specs.PrintedItems.{IsPrintableItem}
use Rattle.scad_grammar.proofs.printing.Printables.{printable, printable_args}

with_printable_parameter : (a : List Parameter) (w : List ℕ) (d : Option Expression) → ArePrintableParameters a
    → IsPrintableDefault d →
    ArePrintableParameters (with_parameter a w d)
with_printable_parameter [] w d h k = (k, tt)
with_printable_parameter (p ∷ rest) w d h k = (h.0, with_printable_parameter rest w d h.1 k)

with_printable_item : (a : Items) (i : Item) (d : Bool) → ArePrintableItems a d → IsPrintableItem i d →
    ArePrintableItems (with_item a i) d
with_printable_item no_items i d h k = (k, tt)
with_printable_item (entry x rest) i d h k = (h.0, with_printable_item rest i d h.1 k)

by_star : (b : Bool) (a : Items) (i : Item) (d : Bool) → ArePrintableItems a d → IsPrintableItem i d →
    ArePrintableItems (if b then a else with_item a i) d
by_star true a i d h k = h
by_star false a i d h k = with_printable_item a i d h k

printable_default : {ts us : List Token} {d : Option Expression} → Plain.Default ts us d → IsPrintableDefault d
printable_default Plain.no_default = tt
printable_default (Plain.default d) = printable d

mutual
  printable_params : {a all : List Parameter} {ts us : List Token} → Plain.Params a ts us all →
      ArePrintableParameters a → ArePrintableParameters all
  printable_params Plain.no_params h = h
  printable_params (Plain.params {w = w} {d = d} {a = a} x m) h =
      printable_more_params m (with_printable_parameter a w d h (printable_default x))

  printable_more_params : {a all : List Parameter} {ts us : List Token} → Plain.MoreParams a ts us all →
      ArePrintableParameters a → ArePrintableParameters all
  printable_more_params Plain.last_param h = h
  printable_more_params (Plain.comma_param d) h = printable_params d h

mutual
  printable_statement : {d : Bool} {a b : Items} {ts us : List Token} → Plain.Statement d a ts us b →
      ArePrintableItems a d → ArePrintableItems b d
  printable_statement Plain.nothing h = h
  printable_statement (Plain.group_statement s) h = printable_statements s h
  printable_statement (Plain.assign {d = d} {a = a} e) h = with_printable_item a _ d h (printable e)
  printable_statement (Plain.a_module {a = a} p s) h =
      with_printable_item a _ true h (refl, printable_params p tt, printable_statement s tt)
  printable_statement (Plain.a_function {a = a} p e) h =
      with_printable_item a _ true h (refl, printable_params p tt, printable e)
  printable_statement (Plain.inst {d = d} i) h = printable_inst d i h

  pub printable_statements : {d : Bool} {a b : Items} {ts us : List Token} → Plain.Statements d a ts us b →
      ArePrintableItems a d → ArePrintableItems b d
  printable_statements Plain.no_statement h = h
  printable_statements (Plain.statement s l) h = printable_statements l (printable_statement s h)

  printable_inst : {m : Marks} {a b : Items} {ts us : List Token} (d : Bool) → Plain.Inst m a ts us b →
      ArePrintableItems a d → ArePrintableItems b d
  printable_inst d (Plain.star_mark i) h = printable_inst d i h
  printable_inst d (Plain.percent_mark i) h = printable_inst d i h
  printable_inst d (Plain.hash_mark i) h = printable_inst d i h
  printable_inst d (Plain.call_statement {m = m} {a = a} n e c) h =
      by_star m.star a _ d h (printable_args e tt, printable_child c)
  printable_inst d (Plain.a_choice {m = m} {a = a} e c o) h =
      by_star m.star a _ d h (printable e, printable_child c, printable_otherwise o)

  printable_otherwise : {other : Items} {ts us : List Token} → Plain.Otherwise ts us other →
      ArePrintableItems other false
  printable_otherwise (Plain.no_otherwise n) = tt
  printable_otherwise (Plain.otherwise c) = printable_child c

  printable_child : {all : Items} {ts us : List Token} → Plain.Child ts us all → ArePrintableItems all false
  printable_child Plain.no_child = tt
  printable_child (Plain.children s) = printable_statements s tt
  printable_child (Plain.one_child i) = printable_inst false i tt

pub printable_program : {ts : List Token} {all : Items} → Plain.Derives ts all → ArePrintableItems all true
printable_program (Plain.program s) = printable_statements s tt
