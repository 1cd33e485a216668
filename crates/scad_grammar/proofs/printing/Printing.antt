-- The tokens of a printed expression derive it again, its places aside.
use Rattle.std.proofs.Common.{◌≡◌, ℕ, Bool, true, false, List, ◌∷◌, Option, Some, None, refl, ap, sym, ◌∙◌}
use Rattle.std.proofs.Common.{subst}
use Rattle.std.proofs.lemmas.Bool.{false≢true}
use Rattle.scad_lex.specs.declared.token.Token.{Token}
use Rattle.scad_lex.specs.declared.token.Sign.TheVariants.{CloseRound, OpenSquare, CloseSquare, Semicolon, Colon}
use Rattle.scad_lex.specs.declared.token.Sign.TheVariants.{Question, Dot}
use Rattle.scad_lex.specs.declared.token.Key.TheVariants.{Else}
use Rattle.scad_ast.specs.declared.operator.UnOp.TheVariants.{Not, Plus as UnaryPlus, Minus as UnaryMinus}
use Rattle.scad_ast.specs.Tree.{Expression, undef, boolean, number, string, name, vector, range, stepped, unary}
use Rattle.scad_ast.specs.Tree.{binary, choose, index, member, call, let_in, assert_in, echo_in, Arguments}
use Rattle.scad_ast.specs.Tree.{no_arguments, argument, Elements, no_elements, element, Element, item, each, for_each}
use Rattle.scad_ast.specs.Tree.{for_loop, let_element, if_element, if_else}
use Rattle.scad_grammar.specs.Tokens.{sign, key, word, begins_with_key}
use Rattle.scad_grammar.specs.Lists.{with_argument, with_element}
use Rattle.scad_grammar.specs.Plain
use Rattle.scad_ast.specs.Text.{stands_alone}
use Rattle.scad_grammar.specs.TreeText.{nowhere, operator_token, enclosed_onto, expression_onto, arguments_onto}
use Rattle.scad_grammar.specs.TreeText.{elements_onto, element_onto, unplaced, unplaced_arguments, unplaced_elements}
use Rattle.scad_grammar.specs.TreeText.{unplaced_element, is_item, takes_else, IsPrintable, ArePrintable}
use Rattle.scad_grammar.specs.TreeText.{ArePrintableElements, IsPrintableElement}
use Rattle.scad_grammar.proofs.printing.OperandOrder.{Posted, posts_then, unary_of, up, of_unary, binary_of}

-- a printed expression as a whole, and as an operand
pub record Printed (alone : Bool) (text : List Token → List Token) (e : Expression) : Type 0 where
  pub whole : (us : List Token) → Plain.Expr (text us) us e
  pub operand : (us : List Token) → Posted (enclosed_onto alone text us) us e

printed_alone : {text : List Token → List Token} {e : Expression} → ((us : List Token) → Posted (text us) us e)
    → Printed true text e
printed_alone f = record { whole = λ us. of_unary (unary_of (f us)); operand = f }

printed_prim : {text : List Token → List Token} {e : Expression} →
    ((us : List Token) → Plain.Prim (text us) us e) → Printed true text e
printed_prim {e = e} f = printed_alone (λ us. record { mid = us; head = e; prim = f us; posts = Plain.no_post })

printed_group : {text : List Token → List Token} {e : Expression} →
    ((us : List Token) → Plain.Expr (text us) us e) → Printed false text e
printed_group {e = e} f = record {
  whole = f;
  operand = λ us. record {
    mid = us;
    head = e;
    prim = Plain.a_group (f (sign CloseRound nowhere ∷ us));
    posts =
        Plain.no_post;
  };
}

indexed : {ts us vs : List Token} {a i : Expression} → Posted ts (sign OpenSquare nowhere ∷ us) a →
    Plain.Expr us (sign CloseSquare nowhere ∷ vs) i →
    Posted ts vs (index nowhere a i)
indexed p d = record {
  mid = p.mid;
  head = p.head;
  prim = p.prim;
  posts =
      posts_then p.posts (Plain.an_index d Plain.no_post);
}

membered : {ts us : List Token} {a : Expression} {w : List ℕ} →
    Posted ts (sign Dot nowhere ∷ word w nowhere ∷ us) a → Posted ts us (member nowhere a w)
membered p = record {
  mid = p.mid;
  head = p.head;
  prim = p.prim;
  posts =
      posts_then p.posts (Plain.a_member Plain.no_post);
}

-- lists after what they have so far
unfoldable pub join_arguments : Arguments → Arguments → Arguments
join_arguments no_arguments more = more
join_arguments (argument w e rest) more = argument w e (join_arguments rest more)

unfoldable pub join_elements : Elements → Elements → Elements
join_elements no_elements more = more
join_elements (element e rest) more = element e (join_elements rest more)

join_none : (a : Arguments) → a ≡ join_arguments a no_arguments
unfolding join_arguments
join_none no_arguments = refl
join_none (argument w e rest) = ap (argument w e) (join_none rest)

join_one : (a : Arguments) (w : Option (List ℕ)) (e : Expression) (more : Arguments) →
    join_arguments (with_argument a w e) more ≡ join_arguments a (argument w e more)
unfolding join_arguments
join_one no_arguments w e more = refl
join_one (argument v x rest) w e more = ap (argument v x) (join_one rest w e more)

join_no_element : (a : Elements) → a ≡ join_elements a no_elements
unfolding join_elements
join_no_element no_elements = refl
join_no_element (element e rest) = ap (element e) (join_no_element rest)

join_element : (a : Elements) (e : Element) (more : Elements) → join_elements (with_element a e) more
    ≡ join_elements a (element e more)
unfolding join_elements
join_element no_elements e more = refl
join_element (element x rest) e more = ap (element x) (join_element rest e more)

-- members behind those so far, as the first of a list and behind one
pub record PrintedArguments (all : Arguments) : Type 0 where
  pub first : (a : Arguments) (us : List Token) →
      Plain.Args a (arguments_onto true all us) us (join_arguments a (unplaced_arguments all))
  pub next : (a : Arguments) (us : List Token) →
      Plain.MoreArgs a (arguments_onto false all us) us (join_arguments a (unplaced_arguments all))

pub record PrintedElements (all : Elements) : Type 0 where
  pub first : (a : Elements) (us : List Token) → begins_with_key Else us ≡ false →
      Plain.Elems a (elements_onto true all us) us (join_elements a (unplaced_elements all))
  pub next : (a : Elements) (us : List Token) → begins_with_key Else us ≡ false →
      Plain.MoreElems a (elements_onto false all us) us (join_elements a (unplaced_elements all))

pub args_of : {all : Arguments} → PrintedArguments all → (us : List Token) →
    Plain.Args no_arguments (arguments_onto true all us) us (unplaced_arguments all)
unfolding join_arguments
args_of p us = p.first no_arguments us

elems_of : {all : Elements} → PrintedElements all → (us : List Token) → begins_with_key Else us ≡ false →
    Plain.Elems no_elements (elements_onto true all us) us (unplaced_elements all)
unfolding join_elements
elems_of p us h = p.first no_elements us h

one_argument : (w : Option (List ℕ)) (e : Expression) (more : Arguments) →
    ((us : List Token) → Plain.Expr (expression_onto e us) us (unplaced e)) →
    PrintedArguments more → (a : Arguments) (us : List Token) →
    Plain.Args a (arguments_onto true (argument w e more) us) us
    (join_arguments a (unplaced_arguments (argument w e more)))
one_argument None e more f p a us =
    subst (Plain.Args a (arguments_onto true (argument None e more) us) us)
    (join_one a None (unplaced e) (unplaced_arguments more))
    (Plain.unnamed (f (arguments_onto false more us)) (p.next (with_argument a None (unplaced e)) us))
one_argument (Some w) e more f p a us =
    subst (Plain.Args a (arguments_onto true (argument (Some w) e more) us) us)
    (join_one a (Some w) (unplaced e) (unplaced_arguments more))
    (Plain.named (f (arguments_onto false more us)) (p.next (with_argument a (Some w) (unplaced e)) us))

next_no_else : (more : Elements) (us : List Token) → begins_with_key Else us ≡ false →
    begins_with_key Else (elements_onto false more us) ≡ false
next_no_else no_elements us h = h
next_no_else (element e more) us h = refl

-- an element in front of tokens that begin with an `else` only where it would not take it
abbrev pub PrintedElement : Element → Type 0
PrintedElement el = (us : List Token) → (takes_else el ≡ true → begins_with_key Else us ≡ false) →
    Plain.Elem (element_onto el us) us (unplaced_element el)

one_element : (e : Element) (more : Elements) → PrintedElement e → PrintedElements more →
    (a : Elements) (us : List Token) →
    begins_with_key Else us ≡ false →
    Plain.Elems a (elements_onto true (element e more) us) us (join_elements a (unplaced_elements (element e more)))
one_element e more f p a us h =
    subst (Plain.Elems a (elements_onto true (element e more) us) us)
    (join_element a (unplaced_element e) (unplaced_elements more))
    (Plain.elems (f (elements_onto false more us) (λ _. next_no_else more us h))
    (p.next (with_element a (unplaced_element e)) us h))

item_kept : (e : Element) → is_item (unplaced_element e) ≡ is_item e
item_kept (item e) = refl
item_kept (each at e) = refl
item_kept (for_each at all e) = refl
item_kept (for_loop at starts test steps e) = refl
item_kept (let_element at all e) = refl
item_kept (if_element at test e) = refl
item_kept (if_else at test e other) = refl

comp_of : {ts us : List Token} {el : Element} → is_item el ≡ false → Plain.Elem ts us el → Plain.Comp ts us el
comp_of h (Plain.comp d) = d
comp_of h (Plain.plain d) = absurd (false≢true (sym h))

mutual
  pub printed : (e : Expression) → IsPrintable e → Printed (stands_alone e) (expression_onto e) (unplaced e)
  printed (undef at) h = printed_prim (λ us. Plain.an_undef)
  printed (boolean at true) h = printed_prim (λ us. Plain.a_true)
  printed (boolean at false) h = printed_prim (λ us. Plain.a_false)
  printed (number at z) h = printed_prim (λ us. Plain.a_number)
  printed (string at chars) h = printed_prim (λ us. Plain.a_string)
  printed (name at w) h = printed_prim (λ us. Plain.a_name)
  printed (vector at all) h =
      let p = printed_elements all h in printed_prim
      (λ us. Plain.a_vector (elems_of p (sign CloseSquare nowhere ∷ us) refl))
  printed (range at a b) h =
      let p = printed a h.0 in let q = printed b h.1 in
      printed_prim (λ us. Plain.a_range
      (p.whole (sign Colon nowhere ∷ expression_onto b (sign CloseSquare nowhere ∷ us)))
      (q.whole (sign CloseSquare nowhere ∷ us)) Plain.two_parts)
  printed (stepped at a b c) h =
      let p = printed a h.0 in let q = printed b h.1 in let r = printed c h.2 in
      printed_prim (λ us. Plain.a_range
      (p.whole (sign Colon nowhere ∷ expression_onto b
      (sign Colon nowhere ∷ expression_onto c (sign CloseSquare nowhere ∷ us))))
      (q.whole (sign Colon nowhere ∷ expression_onto c (sign CloseSquare nowhere ∷ us)))
      (Plain.three_parts (r.whole (sign CloseSquare nowhere ∷ us))))
  printed (unary at Not a) h = let p =
      printed a h in printed_group (λ us. of_unary (Plain.not_unary (unary_of (p.operand us))))
  printed (unary at UnaryPlus a) h = let p =
      printed a h in printed_group (λ us. of_unary (Plain.plus_unary (unary_of (p.operand us))))
  printed (unary at UnaryMinus a) h = let p =
      printed a h in printed_group (λ us. of_unary (Plain.minus_unary (unary_of (p.operand us))))
  printed (binary at op a b) h =
      let p = printed a h.0 in let q = printed b h.1 in
      printed_group (λ us. binary_of op
      (p.operand (operator_token op ∷ enclosed_onto (stands_alone b) (expression_onto b) us)) (q.operand us))
  printed (choose at a b c) h =
      let p = printed a h.0 in let q = printed b h.1 in let r = printed c h.2 in
      printed_group (λ us. Plain.test
      (up 6 (unary_of (p.operand
      (sign Question nowhere ∷ expression_onto b (sign Colon nowhere ∷ expression_onto c us)))))
      (Plain.choice (q.whole (sign Colon nowhere ∷ expression_onto c us)) (r.whole us)))
  printed (index at a i) h =
      let p = printed a h.0 in let q = printed i h.1 in
      printed_alone (λ us. indexed
      (p.operand (sign OpenSquare nowhere ∷ expression_onto i (sign CloseSquare nowhere ∷ us)))
      (q.whole (sign CloseSquare nowhere ∷ us)))
  printed (member at a w) h =
      let p = printed a h in
      printed_alone (λ us. membered (p.operand (sign Dot nowhere ∷ word w nowhere ∷ us)))
  printed (call at w all) h =
      let p = printed_arguments all h in printed_prim (λ us. Plain.a_call (args_of p (sign CloseRound nowhere ∷ us)))
  printed (let_in at all a) h =
      let p = printed_arguments all h.0 in let q = printed a h.1 in
      printed_group (λ us. Plain.let_expr (args_of p (sign CloseRound nowhere ∷ expression_onto a us)) (q.whole us))
  printed (assert_in at all a) h =
      let p = printed_arguments all h.0 in let q = printed a h.1 in
      printed_group (λ us. Plain.assert_expr (args_of p (sign CloseRound nowhere ∷ expression_onto a us))
      (q.whole us))
  printed (echo_in at all a) h =
      let p = printed_arguments all h.0 in let q = printed a h.1 in
      printed_group (λ us. Plain.echo_expr (args_of p (sign CloseRound nowhere ∷ expression_onto a us)) (q.whole us))

  pub printed_arguments : (all : Arguments) → ArePrintable all → PrintedArguments all
  printed_arguments no_arguments h = record {
    first = λ a us. subst (Plain.Args a us us) (join_none a) Plain.no_args;
    next = λ a us. subst (Plain.MoreArgs a us us) (join_none a) Plain.last_arg;
  }
  printed_arguments (argument w e more) h =
      let p = printed e h.0 in let q = printed_arguments more h.1 in
      record {
        first = one_argument w e more p.whole q;
        next =
            λ a us. Plain.comma_arg (one_argument w e more p.whole q a us);
      }

  pub printed_elements : (all : Elements) → ArePrintableElements all → PrintedElements all
  printed_elements no_elements h = record {
    first = λ a us _. subst (Plain.Elems a us us) (join_no_element a) Plain.no_elems;
    next = λ a us _. subst (Plain.MoreElems a us us) (join_no_element a) Plain.last_elem;
  }
  printed_elements (element e more) h =
      let p = printed_element e h.0 in let q = printed_elements more h.1 in
      record { first = one_element e more p q; next = λ a us n. Plain.comma_elem (one_element e more p q a us n) }

  pub printed_element : (el : Element) → IsPrintableElement el → PrintedElement el
  printed_element (item e) h us n = Plain.plain ((printed e h).whole us)
  printed_element (each at e) h us n = Plain.comp (Plain.an_each (printed_element e h us n))
  printed_element (for_each at all e) h us n =
      Plain.comp (Plain.a_for (args_of (printed_arguments all h.0)
      (sign CloseRound nowhere ∷ element_onto e us)) (printed_element e h.1 us n))
  printed_element (for_loop at starts test steps e) h us n =
      Plain.comp (Plain.a_loop
      (args_of (printed_arguments starts h.0)
      (sign Semicolon nowhere ∷ expression_onto test
      (sign Semicolon nowhere ∷ arguments_onto true steps (sign CloseRound nowhere ∷ element_onto e us))))
      ((printed test h.1).whole
      (sign Semicolon nowhere ∷ arguments_onto true steps (sign CloseRound nowhere ∷ element_onto e us)))
      (args_of (printed_arguments steps h.2) (sign CloseRound nowhere ∷ element_onto e us))
      (printed_element e h.3 us n))
  printed_element (let_element at all e) h us n =
      Plain.comp (Plain.let_comp (args_of (printed_arguments all h.0) (sign CloseRound nowhere ∷ element_onto e us))
      (comp_of (item_kept e ∙ h.2) (printed_element e h.1 us n)))
  printed_element (if_element at test e) h us n =
      Plain.comp (Plain.an_if ((printed test h.0).whole (sign CloseRound nowhere ∷ element_onto e us))
      (printed_element e h.1 us (λ _. n refl))
      (Plain.no_else (n refl)))
  printed_element (if_else at test e other) h us n =
      Plain.comp (Plain.an_if ((printed test h.0).whole
      (sign CloseRound nowhere ∷ element_onto e (key Else nowhere ∷ element_onto other us)))
      (printed_element e h.1 (key Else nowhere ∷ element_onto other us) (λ t. absurd (false≢true (sym h.3 ∙ t))))
      (Plain.an_else (printed_element other h.2 us n)))
