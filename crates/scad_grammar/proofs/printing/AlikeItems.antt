-- What tokens derive, tokens of the same kinds derive too, places aside: programs.
use Rattle.std.proofs.Common.{◌≡◌, ℕ, Bool, true, false, if◌then◌else◌, List, [], ◌∷◌, Option, Some, option_map, map}
use Rattle.std.proofs.Common.{refl, sym, ap, ap₂, ◌∙◌}
use Rattle.scad_fault.specs.declared.place.Place.{Place}
use Rattle.scad_lex.specs.declared.token.Token.{Token}
use Rattle.scad_lex.specs.declared.token.TokenKind.{TokenKind}
use Rattle.scad_lex.specs.declared.token.Key.TheVariants.{Else}
use Rattle.scad_ast.specs.Tree.{Expression, Parameter, Items, no_items, entry, Item, assignment, module_of}
use Rattle.scad_ast.specs.Tree.{function_of, call_of, choice}
use Rattle.scad_grammar.specs.Lists.{with_parameter, with_item, Marks}
use Rattle.scad_grammar.specs.Statements.{Callee, call_word, call_for, call_let, call_echo, call_assert}
use Rattle.scad_grammar.specs.Plain
use Rattle.scad_grammar.specs.TreeText.{nowhere, unplaced}
use Rattle.scad_grammar.specs.PrintedItems.{unplaced_parameter, unplaced_items, unplaced_item}
use Rattle.scad_grammar.proofs.printing.Alike.{Alike, none, one, Also, also, keeps_key, ap₃, alike_expr, alike_args}

same_callee : {k : TokenKind} {p q : Place} {w : List ℕ} → Callee (record { kind = k; at = p }) w →
    Callee (record { kind = k; at = q }) w
same_callee call_word = call_word
same_callee call_for = call_for
same_callee call_let = call_let
same_callee call_echo = call_echo
same_callee call_assert = call_assert

-- one more member
bare_parameter : (a : List Parameter) (w : List ℕ) (d : Option Expression) →
    map unplaced_parameter (with_parameter a w d)
    ≡ with_parameter (map unplaced_parameter a) w (option_map unplaced d)
bare_parameter [] w d = refl
bare_parameter (p ∷ rest) w d = ap (λ (x : List Parameter). unplaced_parameter p ∷ x) (bare_parameter rest w d)

same_parameter : (a b : List Parameter) (w : List ℕ) (d e : Option Expression) →
    map unplaced_parameter a ≡ map unplaced_parameter b → option_map unplaced d ≡ option_map unplaced e →
    map unplaced_parameter (with_parameter a w d) ≡ map unplaced_parameter (with_parameter b w e)
same_parameter a b w d e h k = bare_parameter a w d ∙ ap₂ (λ x y. with_parameter x w y) h k
    ∙ sym (bare_parameter b w e)

bare_item : (a : Items) (i : Item) → unplaced_items (with_item a i) ≡ with_item (unplaced_items a) (unplaced_item i)
bare_item no_items i = refl
bare_item (entry x rest) i = ap (entry (unplaced_item x)) (bare_item rest i)

same_item : (a b : Items) (i j : Item) → unplaced_items a ≡ unplaced_items b → unplaced_item i ≡ unplaced_item j →
    unplaced_items (with_item a i) ≡ unplaced_items (with_item b j)
same_item a b i j h k = bare_item a i ∙ ap₂ with_item h k ∙ sym (bare_item b j)

same_statement : (star : Bool) (a b : Items) (i j : Item) → unplaced_items a ≡ unplaced_items b →
    unplaced_item i ≡ unplaced_item j →
    unplaced_items (if star then a else with_item a i) ≡ unplaced_items (if star then b else with_item b j)
same_statement true a b i j h k = h
same_statement false a b i j h k = same_item a b i j h k

alike_default : {ts us vs : List Token} {d : Option Expression} → Plain.Default ts us d → Alike ts vs →
    Also (option_map unplaced) Plain.Default us vs d
alike_default Plain.no_default a = also a Plain.no_default refl
alike_default (Plain.default d) (one a) =
    elim (alike_expr d a) [ also x f h ↦ also x (Plain.default f) (ap (λ e. Some e) h) ]

mutual
  alike_params : {ts us vs : List Token} {a b all : List Parameter} → Plain.Params a ts us all →
      map unplaced_parameter b ≡ map unplaced_parameter a → Alike ts vs →
      Also (map unplaced_parameter) (Plain.Params b) us vs all
  alike_params Plain.no_params s a = also a Plain.no_params s
  alike_params (Plain.params d m) s (one a) = elim (alike_default d a) [
    | also x f h ↦
        elim (alike_more_params m (same_parameter _ _ _ _ _ s h) x) [ also y g k ↦ also y (Plain.params f g) k ]
  ]

  alike_more_params : {ts us vs : List Token} {a b all : List Parameter} → Plain.MoreParams a ts us all →
      map unplaced_parameter b ≡ map unplaced_parameter a → Alike ts vs →
      Also (map unplaced_parameter) (Plain.MoreParams b) us vs all
  alike_more_params Plain.last_param s a = also a Plain.last_param s
  alike_more_params (Plain.comma_param d) s (one a) =
      elim (alike_params d s a) [ also x f h ↦ also x (Plain.comma_param f) h ]

mutual
  alike_statement : {d : Bool} {ts us vs : List Token} {a b all : Items} → Plain.Statement d a ts us all →
      unplaced_items b ≡ unplaced_items a → Alike ts vs → Also unplaced_items (Plain.Statement d b) us vs all
  alike_statement Plain.nothing s (one a) = also a Plain.nothing s
  alike_statement (Plain.group_statement l) s (one a) = elim (alike_statements l s a) [
    | also (one x) f h ↦
        also x (Plain.group_statement f) h
  ]
  alike_statement (Plain.assign {w = w} d) s (one (one a)) = elim (alike_expr d a) [
    | also (one x) f h ↦
        also x (Plain.assign f) (same_item _ _ _ _ s (ap (assignment nowhere w) h))
  ]
  alike_statement (Plain.a_module {w = w} d l) s (one (one (one a))) = elim (alike_params d refl a) [
    | also (one x) f h ↦
        elim (alike_statement l refl x) [
          | also y g k ↦
              also y (Plain.a_module f g) (same_item _ _ _ _ s (ap₂ (module_of nowhere w) h k))
        ]
  ]
  alike_statement (Plain.a_function {w = w} d e) s (one (one (one a))) = elim (alike_params d refl a) [
    | also (one (one x)) f h ↦
        elim (alike_expr e x) [
          | also (one y) g k ↦
              also y (Plain.a_function f g) (same_item _ _ _ _ s (ap₂ (function_of nowhere w) h k))
        ]
  ]
  alike_statement (Plain.inst i) s a = elim (alike_inst i s a) [ also x f h ↦ also x (Plain.inst f) h ]

  alike_statements : {d : Bool} {ts us vs : List Token} {a b all : Items} → Plain.Statements d a ts us all →
      unplaced_items b ≡ unplaced_items a → Alike ts vs → Also unplaced_items (Plain.Statements d b) us vs all
  alike_statements Plain.no_statement s a = also a Plain.no_statement s
  alike_statements (Plain.statement d l) s a = elim (alike_statement d s a) [
    | also x f h ↦
        elim (alike_statements l h x) [ also y g k ↦ also y (Plain.statement f g) k ]
  ]

  alike_inst : {m : Marks} {ts us vs : List Token} {a b all : Items} → Plain.Inst m a ts us all →
      unplaced_items b ≡ unplaced_items a → Alike ts vs → Also unplaced_items (Plain.Inst m b) us vs all
  alike_inst (Plain.star_mark i) s (one a) = elim (alike_inst i s a) [ also x f h ↦ also x (Plain.star_mark f) h ]
  alike_inst (Plain.percent_mark i) s (one a) =
      elim (alike_inst i s a) [ also x f h ↦ also x (Plain.percent_mark f) h ]
  alike_inst (Plain.hash_mark i) s (one a) = elim (alike_inst i s a) [ also x f h ↦ also x (Plain.hash_mark f) h ]
  alike_inst (Plain.call_statement {m = m} {w = w} n d c) s (one (one a)) = elim (alike_args d refl a) [
    | also (one x) f h ↦
        elim (alike_child c x) [
          | also y g k ↦
              also y (Plain.call_statement (same_callee n) f g)
              (same_statement m.star _ _ _ _ s (ap₂ (call_of nowhere m.percent m.hash w) h k))
        ]
  ]
  alike_inst (Plain.a_choice {m = m} d c o) s (one (one a)) = elim (alike_expr d a) [
    | also (one x) f h ↦
        elim (alike_child c x) [
          | also y g k ↦
              elim (alike_otherwise o y) [
                | also z i n ↦
                    also z (Plain.a_choice f g i)
                    (same_statement m.star _ _ _ _ s (ap₃ (choice nowhere m.percent m.hash) h k n))
              ]
        ]
  ]

  alike_otherwise : {ts us vs : List Token} {other : Items} → Plain.Otherwise ts us other → Alike ts vs →
      Also unplaced_items Plain.Otherwise us vs other
  alike_otherwise (Plain.no_otherwise n) a = also a (Plain.no_otherwise (keeps_key Else a n)) refl
  alike_otherwise (Plain.otherwise c) (one a) = elim (alike_child c a) [ also x f h ↦ also x (Plain.otherwise f) h ]

  alike_child : {ts us vs : List Token} {all : Items} → Plain.Child ts us all → Alike ts vs →
      Also unplaced_items Plain.Child us vs all
  alike_child Plain.no_child (one a) = also a Plain.no_child refl
  alike_child (Plain.children l) (one a) =
      elim (alike_statements l refl a) [ also (one x) f h ↦ also x (Plain.children f) h ]
  alike_child (Plain.one_child i) a = elim (alike_inst i refl a) [ also x f h ↦ also x (Plain.one_child f) h ]

-- what tokens derive, tokens of the same kinds derive too, places aside
pub derives_alike : {ts us : List Token} {p : Items} → Alike ts us → Plain.Derives ts p →
    (q : Items) × Plain.Derives us q × (unplaced_items q ≡ unplaced_items p)
derives_alike a (Plain.program l) =
    elim (alike_statements l refl a) [ also {d = q} none f h ↦ (q, Plain.program f, h) ]
