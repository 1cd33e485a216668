-- The printed tokens of a program can be spelled where the tokens that derive it can.
use Rattle.std.proofs.Common.{ℕ, Bool, true, false, if◌then◌else◌, List, [], ◌∷◌, Option, codes}
use Rattle.std.specs.Str.{bytes_eq}
use Rattle.scad_lex.specs.declared.token.Token.{Token}
use Rattle.scad_lex.specs.declared.token.TokenKind.TheVariants.{Word}
use Rattle.scad_lex.specs.declared.token.Sign.{Sign as SignName}
use Rattle.scad_lex.specs.declared.token.Sign.TheVariants.{OpenCurly, CloseCurly, Semicolon, Assign, Percent, Hash}
use Rattle.scad_lex.specs.declared.token.Key.TheVariants.{Module, Function, If, Else, For, Let, Assert, Echo}
use Rattle.scad_lex.specs.Spelling.{CanBeSpelled, HaveSpellings}
use Rattle.scad_ast.specs.Tree.{Expression, Parameter, Items, no_items, entry, Item, assignment, module_of}
use Rattle.scad_ast.specs.Tree.{function_of, call_of, choice}
use Rattle.scad_grammar.specs.Tokens.{key, word}
use Rattle.scad_grammar.specs.Lists.{with_parameter, with_item, Marks}
use Rattle.scad_grammar.specs.Statements.{Callee, call_word, call_for, call_let, call_echo, call_assert}
use Rattle.scad_grammar.specs.Plain
use Rattle.scad_grammar.specs.TreeText.{nowhere}
use Rattle.scad_grammar.specs.PrintedItems.{callee_token, mark_onto, default_onto, parameters_onto, body_onto}
use Rattle.scad_grammar.specs.PrintedItems.{otherwise_onto, items_onto, item_onto}
use Rattle.scad_grammar.proofs.printing.Spellable.{Spellable, none, one, ◌before◌, a_sign, a_key, a_word, round}
use Rattle.scad_grammar.proofs.printing.Spellable.{comma, arguments, expr, args}

-- ---- the name of a called module
callee_if : (b : Bool) (t u : Token) → CanBeSpelled t.kind → CanBeSpelled u.kind →
    CanBeSpelled (if b then t else u).kind
callee_if true t u c k = c
callee_if false t u c k = k

callee_can : {t : Token} {w : List ℕ} → Callee t w → CanBeSpelled t.kind → CanBeSpelled (callee_token w).kind
callee_can (call_word {w = w}) c =
    callee_if (bytes_eq w (codes "for")) (key For nowhere) _ tt
    (callee_if (bytes_eq w (codes "let")) (key Let nowhere) _ tt
    (callee_if (bytes_eq w (codes "echo")) (key Echo nowhere) _ tt
    (callee_if (bytes_eq w (codes "assert")) (key Assert nowhere) (word w nowhere) tt c)))
callee_can call_for c = tt
callee_can call_let c = tt
callee_can call_echo c = tt
callee_can call_assert c = tt

-- ---- parts of items
mark : (b : Bool) (s : SignName) → Spellable (mark_onto b s)
mark true s = a_sign s
mark false s = none

body : (all : Items) {f : List Token → List Token} → Spellable f → Spellable (body_onto all f)
body no_items p = a_sign Semicolon
body (entry i more) p = a_sign OpenCurly before p before a_sign CloseCurly

otherwise : (all : Items) {f : List Token → List Token} → Spellable f → Spellable (otherwise_onto all f)
otherwise no_items p = none
otherwise (entry i more) p = a_key Else before a_sign OpenCurly before p before a_sign CloseCurly

-- ---- lists
abbrev ParametersCan : List Parameter → Type 0
ParametersCan [] = Unit {0}
ParametersCan (p ∷ more) = CanBeSpelled (Word p.name) × Spellable (default_onto p.default) × ParametersCan more

with_parameter_can : (a : List Parameter) (w : List ℕ) (d : Option Expression) → ParametersCan a →
    CanBeSpelled (Word w) → Spellable (default_onto d) →
    ParametersCan (with_parameter a w d)
with_parameter_can [] w d c n k = (n, k, tt)
with_parameter_can (p ∷ rest) w d c n k = (c.0, c.1, with_parameter_can rest w d c.2 n k)

parameters : (first : Bool) (ps : List Parameter) → ParametersCan ps → Spellable (parameters_onto first ps)
parameters first [] c = none
parameters first (p ∷ more) c = comma first before a_word p.name c.0 before c.1 before parameters false more c.2

abbrev ItemsCan : Items → Type 0
ItemsCan no_items = Unit {0}
ItemsCan (entry i more) = Spellable (item_onto i) × ItemsCan more

with_item_can : (a : Items) (i : Item) → ItemsCan a → Spellable (item_onto i) → ItemsCan (with_item a i)
with_item_can no_items i c k = (k, tt)
with_item_can (entry x rest) i c k = (c.0, with_item_can rest i c.1 k)

by_star : (b : Bool) (a : Items) (i : Item) → ItemsCan a → Spellable (item_onto i) →
    ItemsCan (if b then a else with_item a i)
by_star true a i c k = c
by_star false a i c k = with_item_can a i c k

items : (all : Items) → ItemsCan all → Spellable (items_onto all)
items no_items c = none
items (entry i more) c = c.0 before items more c.1

-- ---- derivations
default_of : {ts us : List Token} {d : Option Expression} → Plain.Default ts us d → HaveSpellings ts →
    Spellable (default_onto d) × HaveSpellings us
default_of Plain.no_default h = (none, h)
default_of (Plain.default d) h = let p = expr d h.1 in (a_sign Assign before p.0, p.1)

mutual
  params : {a all : List Parameter} {ts us : List Token} → Plain.Params a ts us all → ParametersCan a →
      HaveSpellings ts → ParametersCan all × HaveSpellings us
  params Plain.no_params c h = (c, h)
  params (Plain.params {w = w} {d = d} {a = a} x m) c h =
      let p = default_of x h.1 in more_params m (with_parameter_can a w d c h.0 p.0) p.1

  more_params : {a all : List Parameter} {ts us : List Token} → Plain.MoreParams a ts us all → ParametersCan a →
      HaveSpellings ts →
      ParametersCan all × HaveSpellings us
  more_params Plain.last_param c h = (c, h)
  more_params (Plain.comma_param d) c h = params d c h.1

mutual
  statement : {d : Bool} {a b : Items} {ts us : List Token} → Plain.Statement d a ts us b → ItemsCan a →
      HaveSpellings ts → ItemsCan b × HaveSpellings us
  statement Plain.nothing c h = (c, h.1)
  statement (Plain.group_statement s) c h = let p = statements s c h.1 in (p.0, p.1.1)
  statement (Plain.assign {a = a} {at = at} {w = w} {e = e} d) c h =
      let p = expr d h.1.1 in (
        with_item_can a (assignment at w e) c
            (a_word w h.0 before a_sign Assign before p.0 before a_sign Semicolon),
        p.1.1,
      )
  statement (Plain.a_module {a = a} {body = inside} {at = at} {w = w} {all = all} x s) c h =
      let p = params x tt h.1.1.1 in let q = statement s tt p.1.1 in (
        with_item_can a (module_of at w all inside) c
            (a_key Module before a_word w h.1.0 before round (parameters true all p.0)
            before body inside (items inside q.0)),
        q.1,
      )
  statement (Plain.a_function {a = a} {at = at} {w = w} {all = all} {e = e} x d) c h =
      let p = params x tt h.1.1.1 in let q = expr d p.1.1.1 in (
        with_item_can a (function_of at w all e) c
            (a_key Function before a_word w h.1.0 before round (parameters true all p.0) before a_sign Assign
            before q.0
            before a_sign Semicolon),
        q.1.1,
      )
  statement (Plain.inst i) c h = inst i c h

  statements : {d : Bool} {a b : Items} {ts us : List Token} → Plain.Statements d a ts us b → ItemsCan a →
      HaveSpellings ts → ItemsCan b × HaveSpellings us
  statements Plain.no_statement c h = (c, h)
  statements (Plain.statement s l) c h = let p = statement s c h in statements l p.0 p.1

  inst : {m : Marks} {a b : Items} {ts us : List Token} → Plain.Inst m a ts us b → ItemsCan a → HaveSpellings ts →
      ItemsCan b × HaveSpellings us
  inst (Plain.star_mark i) c h = inst i c h.1
  inst (Plain.percent_mark i) c h = inst i c h.1
  inst (Plain.hash_mark i) c h = inst i c h.1
  inst (Plain.call_statement {m = m} {a = a} {children = children} {t = t} {w = w} {all = all} n x y) c h =
      let p = args x tt h.1.1 in let q = child y p.1.1 in (
        by_star m.star a (call_of t.at m.percent m.hash w all children) c
            (mark m.percent Percent before mark m.hash Hash before one (callee_token w) (callee_can n h.0)
            before round (arguments true all p.0)
            before body children (items children q.0)),
        q.1,
      )
  inst (Plain.a_choice {m = m} {a = a} {held = held} {other = other} {at = at} {e = e} x y z) c h =
      let p = expr x h.1.1 in let q = child y p.1.1 in let r = otherwise_of z q.1 in (
        by_star m.star a (choice at m.percent m.hash e held other) c
            (mark m.percent Percent before mark m.hash Hash before a_key If before round p.0
            before body held (items held q.0)
            before otherwise other (items other r.0)),
        r.1,
      )

  otherwise_of : {other : Items} {ts us : List Token} → Plain.Otherwise ts us other → HaveSpellings ts →
      ItemsCan other × HaveSpellings us
  otherwise_of (Plain.no_otherwise n) h = (tt, h)
  otherwise_of (Plain.otherwise x) h = child x h.1

  child : {all : Items} {ts us : List Token} → Plain.Child ts us all → HaveSpellings ts →
      ItemsCan all × HaveSpellings us
  child Plain.no_child h = (tt, h.1)
  child (Plain.children s) h = let p = statements s tt h.1 in (p.0, p.1.1)
  child (Plain.one_child i) h = inst i tt h

pub printed_have_spellings : {ts : List Token} {all : Items} → Plain.Derives ts all → HaveSpellings ts →
    HaveSpellings (items_onto all [])
printed_have_spellings (Plain.program {all = all} s) h = let p = statements s tt h in (items all p.0).can [] tt
