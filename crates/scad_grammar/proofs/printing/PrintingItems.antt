-- The tokens of printed items derive them again, their places aside.
use Rattle.std.proofs.Common.{◌≡◌, ℕ, Bool, true, false, if◌then◌else◌, List, [], ◌∷◌, ◌++◌, Option, Some, None}
use Rattle.std.proofs.Common.{option_map, map, refl, ap, sym, subst, codes}
use Rattle.std.specs.Str.{bytes_eq}
use Rattle.std.proofs.lemmas.Slice.Eq.{bytes_eq-Decides}
use Rattle.std.proofs.lemmas.List.{append-nil}
use Rattle.scad_fault.specs.declared.place.Place.{Place}
use Rattle.scad_lex.specs.declared.token.Token.{Token}
use Rattle.scad_lex.specs.declared.token.Sign.TheVariants.{CloseRound, CloseCurly, Semicolon, Assign, Percent, Hash}
use Rattle.scad_lex.specs.declared.token.Key.TheVariants.{Else, For, Let, Assert, Echo}
use Rattle.scad_ast.specs.Tree.{Expression, Arguments, Parameter, Items, no_items, entry, Item, assignment, module_of}
use Rattle.scad_ast.specs.Tree.{function_of, call_of, choice}
use Rattle.scad_grammar.specs.Tokens.{sign, key, word, begins_with_key}
use Rattle.scad_grammar.specs.Lists.{with_item, with_parameter, Marks, no_marks}
use Rattle.scad_grammar.specs.Statements.{Callee, call_word, call_for, call_let, call_echo, call_assert}
use Rattle.scad_grammar.specs.Plain
use Rattle.scad_grammar.specs.TreeText.{nowhere, expression_onto, unplaced, unplaced_arguments, IsPrintable}
use Rattle.scad_grammar.specs.TreeText.{ArePrintable}
use Rattle.scad_grammar.specs.PrintedItems.{callee_token, mark_onto, default_onto, parameters_onto, body_onto}
use Rattle.scad_grammar.specs.PrintedItems.{otherwise_onto, items_onto, item_onto, unplaced_parameter, unplaced_items}
use Rattle.scad_grammar.specs.PrintedItems.{unplaced_item, IsPrintableDefault, ArePrintableParameters}
use Rattle.scad_grammar.specs.PrintedItems.{ArePrintableItems, IsPrintableItem}
use Rattle.scad_grammar.proofs.printing.Printing.{printed, printed_arguments, args_of}

-- the name that is called
record Called (w : List ℕ) (t : Token) : Type 0 where
  callee : Callee t w
  at : t.at ≡ nowhere
  no_else : (us : List Token) → begins_with_key Else (t ∷ us) ≡ false

is_name : (w v : List ℕ) → bytes_eq w v ≡ true → w ≡ v
is_name w v h = (bytes_eq-Decides w v).0 h

called_if : (w v : List ℕ) (b : Bool) (t u : Token) → bytes_eq w v ≡ b → Called v t → Called w u →
    Called w (if b then t else u)
called_if w v true t u h c d = subst (λ (x : List ℕ). Called x t) (sym (is_name w v h)) c
called_if w v false t u h c d = d

called : (w : List ℕ) → Called w (callee_token w)
called w =
    called_if w (codes "for") (bytes_eq w (codes "for")) (key For nowhere) _ refl
    (record { callee = call_for; at = refl; no_else = λ us. refl })
    (called_if w (codes "let") (bytes_eq w (codes "let")) (key Let nowhere) _ refl
    (record { callee = call_let; at = refl; no_else = λ us. refl })
    (called_if w (codes "echo") (bytes_eq w (codes "echo")) (key Echo nowhere) _ refl
    (record { callee = call_echo; at = refl; no_else = λ us. refl })
    (called_if w (codes "assert") (bytes_eq w (codes "assert")) (key Assert nowhere) (word w nowhere) refl
    (record { callee = call_assert; at = refl; no_else = λ us. refl })
    (record { callee = call_word; at = refl; no_else = λ us. refl }))))

-- parameters
printed_default : (d : Option Expression) → IsPrintableDefault d → (us : List Token) →
    Plain.Default (default_onto d us) us (option_map unplaced d)
printed_default None h us = Plain.no_default
printed_default (Some e) h us = Plain.default ((printed e h).whole us)

join_parameter : (a : List Parameter) (w : List ℕ) (d : Option Expression) (more : List Parameter) →
    with_parameter a w d ++ more ≡ a ++ (record { name = w; default = d } ∷ more)
join_parameter [] w d more = refl
join_parameter (p ∷ rest) w d more = ap (λ (x : List Parameter). p ∷ x) (join_parameter rest w d more)

record PrintedParameters (ps : List Parameter) : Type 0 where
  first : (a : List Parameter) (us : List Token) →
      Plain.Params a (parameters_onto true ps us) us (a ++ map unplaced_parameter ps)
  next : (a : List Parameter) (us : List Token) →
      Plain.MoreParams a (parameters_onto false ps us) us (a ++ map unplaced_parameter ps)

one_parameter : (p : Parameter) (more : List Parameter) → IsPrintableDefault p.default → PrintedParameters more
    → (a : List Parameter) (us : List Token) →
    Plain.Params a (parameters_onto true (p ∷ more) us) us (a ++ map unplaced_parameter (p ∷ more))
one_parameter p more h q a us =
    subst (Plain.Params a (parameters_onto true (p ∷ more) us) us)
    (join_parameter a p.name (option_map unplaced p.default) (map unplaced_parameter more))
    (Plain.params (printed_default p.default h (parameters_onto false more us))
    (q.next (with_parameter a p.name (option_map unplaced p.default)) us))

printed_parameters : (ps : List Parameter) → ArePrintableParameters ps → PrintedParameters ps
printed_parameters [] h = record {
  first = λ a us. subst (Plain.Params a us us) (sym (append-nil a)) Plain.no_params;
  next = λ a us. subst (Plain.MoreParams a us us) (sym (append-nil a)) Plain.last_param;
}
printed_parameters (p ∷ more) h =
    let q = printed_parameters more h.1 in
    record { first = one_parameter p more h.0 q; next = λ a us. Plain.comma_param (one_parameter p more h.0 q a us) }

params_of : (ps : List Parameter) → ArePrintableParameters ps → (us : List Token) →
    Plain.Params [] (parameters_onto true ps us) us (map unplaced_parameter ps)
params_of ps h us = (printed_parameters ps h).first [] us

-- items
unfoldable pub join_items : Items → Items → Items
join_items no_items more = more
join_items (entry i rest) more = entry i (join_items rest more)

join_no_item : (a : Items) → a ≡ join_items a no_items
unfolding join_items
join_no_item no_items = refl
join_no_item (entry i rest) = ap (entry i) (join_no_item rest)

join_item : (a : Items) (i : Item) (more : Items) → join_items (with_item a i) more ≡ join_items a (entry i more)
unfolding join_items
join_item no_items i more = refl
join_item (entry x rest) i more = ap (entry x) (join_item rest i more)

item_no_else : (i : Item) (us : List Token) → begins_with_key Else (item_onto i us) ≡ false
item_no_else (assignment at w e) us = refl
item_no_else (module_of at w ps all) us = refl
item_no_else (function_of at w ps e) us = refl
item_no_else (call_of at true hash w args all) us = refl
item_no_else (call_of at false true w args all) us = refl
item_no_else (call_of at false false w args all) us = (called w).no_else us
item_no_else (choice at true hash test held other) us = refl
item_no_else (choice at false true test held other) us = refl
item_no_else (choice at false false test held other) us = refl

items_no_else : (all : Items) (us : List Token) → begins_with_key Else us ≡ false →
    begins_with_key Else (items_onto all us) ≡ false
items_no_else no_items us h = h
items_no_else (entry i more) us h = item_no_else i (items_onto more us)

abbrev marks_of : Bool → Bool → Marks
marks_of percent hash = record { star = false; percent = percent; hash = hash }

marked : (percent hash : Bool) {a b : Items} {ts us : List Token} → Plain.Inst (marks_of percent hash) a ts us b →
    Plain.Inst no_marks a (mark_onto percent Percent (mark_onto hash Hash ts)) us b
marked true true i = Plain.percent_mark (Plain.hash_mark i)
marked true false i = Plain.percent_mark i
marked false true i = Plain.hash_mark i
marked false false i = i

-- items of a scope of their own
Scoped : Items → Bool → Type 0
Scoped all d = (us : List Token) → begins_with_key Else us ≡ false →
    Plain.Statements d no_items (items_onto all us) us (unplaced_items all)

child_body : (all : Items) → Scoped all false → (us : List Token) →
    Plain.Child (body_onto all (items_onto all) us) us (unplaced_items all)
unfolding Scoped
child_body no_items f us = Plain.no_child
child_body (entry i more) f us = Plain.children (f (sign CloseCurly nowhere ∷ us) refl)

module_body : (all : Items) → Scoped all true → (us : List Token) →
    Plain.Statement true no_items (body_onto all (items_onto all) us) us (unplaced_items all)
unfolding Scoped
module_body no_items f us = Plain.nothing
module_body (entry i more) f us = Plain.group_statement (f (sign CloseCurly nowhere ∷ us) refl)

otherwise_body : (all : Items) → Scoped all false → (us : List Token) → begins_with_key Else us ≡ false →
    Plain.Otherwise (otherwise_onto all (items_onto all) us) us (unplaced_items all)
unfolding Scoped
otherwise_body no_items f us h = Plain.no_otherwise h
otherwise_body (entry i more) f us h = Plain.otherwise (Plain.children (f (sign CloseCurly nowhere ∷ us) refl))

abbrev pub PrintedItem : Item → Bool → Type 0
PrintedItem i d = (a : Items) (us : List Token) → begins_with_key Else us ≡ false →
    Plain.Statement d a (item_onto i us) us (with_item a (unplaced_item i))

abbrev pub PrintedItems : Items → Bool → Type 0
PrintedItems all d = (a : Items) (us : List Token) → begins_with_key Else us ≡ false →
    Plain.Statements d a (items_onto all us) us (join_items a (unplaced_items all))

scoped : (all : Items) (d : Bool) → PrintedItems all d → Scoped all d
unfolding Scoped join_items
scoped all d f us h = f no_items us h

call_item : (at : Place) (percent hash : Bool) (w : List ℕ) (args : Arguments) (all : Items) (d : Bool) →
    ArePrintable args → Scoped all false →
    PrintedItem (call_of at percent hash w args all) d
call_item at percent hash w args all d h f a us n =
    subst (λ (q : Place). Plain.Statement d a (item_onto (call_of at percent hash w args all) us) us
    (with_item a (call_of q percent hash w (unplaced_arguments args) (unplaced_items all)))) (called w).at
    (Plain.inst (marked percent hash (Plain.call_statement (called w).callee
    (args_of (printed_arguments args h) (sign CloseRound nowhere ∷ body_onto all (items_onto all) us))
    (child_body all f us))))

choice_item : (at : Place) (percent hash : Bool) (test : Expression) (held other : Items) (d : Bool) →
    IsPrintable test → Scoped held false → Scoped other false →
    PrintedItem (choice at percent hash test held other) d
choice_item at percent hash test held other d h f g a us n =
    Plain.inst (marked percent hash (Plain.a_choice
    ((printed test h).whole (sign CloseRound nowhere ∷ body_onto held (items_onto held)
    (otherwise_onto other (items_onto other) us)))
    (child_body held f (otherwise_onto other (items_onto other) us)) (otherwise_body other g us n)))

module_item : (at : Place) (w : List ℕ) (ps : List Parameter) (all : Items) → ArePrintableParameters ps →
    Scoped all true → PrintedItem (module_of at w ps all) true
module_item at w ps all h f a us n =
    Plain.a_module (params_of ps h (sign CloseRound nowhere ∷ body_onto all (items_onto all) us))
    (module_body all f us)

function_item : (at : Place) (w : List ℕ) (ps : List Parameter) (e : Expression) → ArePrintableParameters ps →
    IsPrintable e → PrintedItem (function_of at w ps e) true
function_item at w ps e h k a us n =
    Plain.a_function (params_of ps h
    (sign CloseRound nowhere ∷ sign Assign nowhere ∷ expression_onto e (sign Semicolon nowhere ∷ us)))
    ((printed e k).whole (sign Semicolon nowhere ∷ us))

mutual
  pub printed_items : (all : Items) (d : Bool) → ArePrintableItems all d → PrintedItems all d
  printed_items no_items d h a us n = subst (Plain.Statements d a us us) (join_no_item a) Plain.no_statement
  printed_items (entry i more) d h a us n =
      subst (Plain.Statements d a (item_onto i (items_onto more us)) us)
      (join_item a (unplaced_item i) (unplaced_items more))
      (Plain.statement (printed_item i d h.0 a (items_onto more us) (items_no_else more us n))
      (printed_items more d h.1 (with_item a (unplaced_item i)) us n))

  pub printed_item : (i : Item) (d : Bool) → IsPrintableItem i d → PrintedItem i d
  printed_item (assignment at w e) d h = λ a us n. Plain.assign ((printed e h).whole (sign Semicolon nowhere ∷ us))
  printed_item (module_of at w ps all) d h =
      subst (PrintedItem (module_of at w ps all)) (sym h.0)
      (module_item at w ps all h.1 (scoped all true (printed_items all true h.2)))
  printed_item (function_of at w ps e) d h =
      subst (PrintedItem (function_of at w ps e)) (sym h.0) (function_item at w ps e h.1 h.2)
  printed_item (call_of at percent hash w args all) d h =
      call_item at percent hash w args all d h.0 (scoped all false (printed_items all false h.1))
  printed_item (choice at percent hash test held other) d h =
      choice_item at percent hash test held other d h.0 (scoped held false (printed_items held false h.1))
      (scoped other false (printed_items other false h.2))

-- the printed tokens of a printable program derive it, its places aside
pub printed_program : (all : Items) → ArePrintableItems all true →
    Plain.Derives (items_onto all []) (unplaced_items all)
unfolding join_items
printed_program all h = Plain.program (printed_items all true h no_items [] refl)
