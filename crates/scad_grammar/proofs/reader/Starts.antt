-- Tokens go on from where a part of an expression begins as the move there does.
use Rattle.std.proofs.Common.{◌≡◌, ℕ, suc, false, if◌then◌else◌, List, ◌∷◌, Option, Some, None, refl, ap, subst}
use Rattle.scad_fault.specs.declared.place.Place.{Place}
use Rattle.scad_lex.specs.declared.token.Token.{Token}
use Rattle.scad_lex.specs.declared.token.TokenKind.{TokenKind}
use Rattle.scad_lex.specs.declared.token.TokenKind.TheVariants.{Number, Str, Word, Sign, Key}
use Rattle.scad_lex.specs.declared.token.Sign.TheVariants.{OpenRound, CloseRound, OpenSquare, CloseSquare, Assign}
use Rattle.scad_lex.specs.declared.token.Sign.TheVariants.{Plus, Minus, Caret, Bang, Dot}
use Rattle.scad_lex.specs.declared.token.Key.TheVariants.{Function, If, For, Let, Assert, Echo, Each, True, False}
use Rattle.scad_lex.specs.declared.token.Key.TheVariants.{Undef}
use Rattle.scad_ast.specs.declared.operator.UnOp.TheVariants.{Not, Plus as UnaryPlus, Minus as UnaryMinus}
use Rattle.scad_ast.specs.Tree.{Expression, name, vector, member, Arguments, no_arguments, Elements, no_elements}
use Rattle.scad_ast.specs.Tree.{Element, item, Items}
use Rattle.scad_grammar.specs.Tokens.{sign, key, word, numeral, quoted, word_of, is_sign, begins_with}
use Rattle.scad_grammar.specs.Lists.{let_of}
use Rattle.scad_grammar.specs.Grammar.{Expr, let_expr, assert_expr, echo_expr, test, not_unary, plus_unary}
use Rattle.scad_grammar.specs.Grammar.{minus_unary, post, no_post, an_index, a_member, Prim, a_number, a_string}
use Rattle.scad_grammar.specs.Grammar.{a_true, a_false, an_undef, a_name, a_call, a_group, a_range, a_vector, Args}
use Rattle.scad_grammar.specs.Grammar.{no_args, unnamed, named, no_elems, elems, Elem, comp, plain, a_for, a_loop}
use Rattle.scad_grammar.specs.Grammar.{an_each, let_comp, an_if, Else as ElseRest, named_by, ends_arguments}
use Rattle.scad_grammar.specs.Grammar.{begins_named}
use Rattle.scad_grammar.specs.Behind.{letting, asserting, echoing, BehindOperand, prefixed, tested, BehindExpression}
use Rattle.scad_grammar.specs.Behind.{in_round, in_index, argument_of, plain_item, BehindElement, in_vector, each_of}
use Rattle.scad_grammar.specs.Behind.{BehindArguments, of_call, of_keyed, of_for, of_let}
use Rattle.scad_grammar.specs.State.{want_expression, want_unary, opened, have_name, have_post, want_member}
use Rattle.scad_grammar.specs.State.{want_arguments, in_arguments, have_word, want_element, want_test, in_elements}
use Rattle.scad_grammar.specs.Move.{go}
use Rattle.scad_grammar.specs.Steps.{literal, literal_kind, word_step, literal_step, prim_step, unary_step}
use Rattle.scad_grammar.specs.Steps.{expression_step, element_step, argument_step, arguments_step, post_step}
use Rattle.scad_grammar.specs.Steps.{name_step, word_argument, member_name}
use Rattle.scad_grammar.proofs.reader.Goes.{Goes, wants_expression, wants_unary, has_name, has_post, wants_member}
use Rattle.scad_grammar.proofs.reader.Goes.{wants_arguments, is_in_arguments, has_word, wants_element, wants_test}
use Rattle.scad_grammar.proofs.reader.Goes.{is_in_elements, is_in_range, OperandFrom, operand_from, goes_prefixed}
use Rattle.scad_grammar.proofs.reader.Goes.{goes_tested, goes_round, goes_index, goes_argument, goes_item, goes_test}
use Rattle.scad_grammar.proofs.reader.Goes.{ElementGoes, goes_member, goes_range, goes_each, goes_call, goes_keyed}
use Rattle.scad_grammar.proofs.reader.Goes.{goes_for_each, goes_for_loop, goes_let_args}
use Rattle.scad_grammar.proofs.reader.Tests.{MoveGoes, by_test, by_sign, by_key, by_word}
use Rattle.scad_grammar.proofs.reader.Backward.{opened_from, by_operand}
use Rattle.scad_grammar.proofs.reader.BackwardElements.{by_end_arguments}
use Rattle.scad_grammar.proofs.reader.Expressions.{comp_let}
use Rattle.std.proofs.lemmas.Option.{same_Some, none-some}

-- NUMBER, STRING, "true", "false", "undef"
literal_is : (kind : TokenKind) (at : Place) (e : Expression) (ts : List Token) → literal_kind at kind ≡ Some e →
    let t : Token = record { kind = kind; at = at } in Prim (t ∷ ts) ts e
literal_is (Number z) at e ts h = subst (Prim (numeral z at ∷ ts) ts) (same_Some _ e h) a_number
literal_is (Str chars) at e ts h = subst (Prim (quoted chars at ∷ ts) ts) (same_Some _ e h) a_string
literal_is (Key True) at e ts h = subst (Prim (key True at ∷ ts) ts) (same_Some _ e h) a_true
literal_is (Key False) at e ts h = subst (Prim (key False at ∷ ts) ts) (same_Some _ e h) a_false
literal_is (Key Undef) at e ts h = subst (Prim (key Undef at ∷ ts) ts) (same_Some _ e h) an_undef
literal_is (Key _) at e ts h = absurd (none-some _ h)
literal_is (Word w) at e ts h = absurd (none-some _ h)
literal_is (Sign s) at e ts h = absurd (none-some _ h)

from_literal : {e : Expression} {k : BehindOperand} {us ts : List Token} {p : Items} → Prim us ts e →
    Goes (have_post 0 e k) ts p → Goes (want_unary k) us p
from_literal d (has_post l g) = wants_unary (post d l) g

from_name : {at : Place} {w : List ℕ} {k : BehindOperand} {ts : List Token} {p : Items} →
    Goes (have_name at w k) ts p → Goes (want_unary k) (word w at ∷ ts) p
from_name (has_name g) = g

by_name_word : (t : Token) (k : BehindOperand) (ts : List Token) (p : Items) (o : Option (List ℕ)) →
    word_of t ≡ o → MoveGoes (word_step t o k) ts p → Goes (want_unary k) (t ∷ ts) p
by_name_word t k ts p (Some w) h m = by_word t w h (λ (u : Token). Goes (want_unary k) (u ∷ ts) p) (from_name m)
by_name_word t k ts p None h m = absurd m

by_literal : (t : Token) (k : BehindOperand) (ts : List Token) (p : Items) (o : Option Expression) →
    literal t ≡ o → MoveGoes (literal_step t o k) ts p → Goes (want_unary k) (t ∷ ts) p
by_literal t k ts p (Some e) h m = from_literal (literal_is t.kind t.at e ts h) m
by_literal t k ts p None h m = by_name_word t k ts p (word_of t) refl m

from_group : {q : Place} {k : BehindOperand} {ts : List Token} {p : Items} →
    Goes (want_expression (in_round k)) ts p → Goes (want_unary k) (sign OpenRound q ∷ ts) p
from_group (wants_expression d (goes_round l g)) = wants_unary (post (a_group d) l) g

from_vector : {q : Place} {k : BehindOperand} {ts : List Token} {p : Items} →
    Goes (in_elements q no_elements k) ts p → Goes (want_unary k) (sign OpenSquare q ∷ ts) p
from_vector (is_in_elements d l g) = wants_unary (post (a_vector d) l) g
from_vector (is_in_range d e r l g) = wants_unary (post (a_range d e r) l) g

by_prim : (t : Token) (k : BehindOperand) (ts : List Token) (p : Items) →
    MoveGoes (prim_step t k) ts p → Goes (want_unary k) (t ∷ ts) p
unfolding prim_step
by_prim t k ts p =
    let G = λ (u : Token). Goes (want_unary k) (u ∷ ts) p in
    by_sign OpenRound t _ _ ts p G from_group (λ _.
    by_sign OpenSquare t _ _ ts p G from_vector (λ _. by_literal t k ts p (literal t) refl))

from_not : {q : Place} {k : BehindOperand} {ts : List Token} {p : Items} →
    Goes (want_unary (prefixed q Not k)) ts p → Goes (want_unary k) (sign Bang q ∷ ts) p
from_not (wants_unary d (goes_prefixed g)) = wants_unary (not_unary d) g

from_plus : {q : Place} {k : BehindOperand} {ts : List Token} {p : Items} →
    Goes (want_unary (prefixed q UnaryPlus k)) ts p → Goes (want_unary k) (sign Plus q ∷ ts) p
from_plus (wants_unary d (goes_prefixed g)) = wants_unary (plus_unary d) g

from_minus : {q : Place} {k : BehindOperand} {ts : List Token} {p : Items} →
    Goes (want_unary (prefixed q UnaryMinus k)) ts p → Goes (want_unary k) (sign Minus q ∷ ts) p
from_minus (wants_unary d (goes_prefixed g)) = wants_unary (minus_unary d) g

pub by_unary : (t : Token) (k : BehindOperand) (ts : List Token) (p : Items) →
    MoveGoes (unary_step t k) ts p → Goes (want_unary k) (t ∷ ts) p
unfolding unary_step
by_unary t k ts p =
    let G = λ (u : Token). Goes (want_unary k) (u ∷ ts) p in
    by_sign Bang t _ _ ts p G from_not (λ _.
    by_sign Plus t _ _ ts p G from_plus (λ _.
    by_sign Minus t _ _ ts p G from_minus (λ _. by_prim t k ts p)))

from_let : {q : Place} {k : BehindExpression} {ts : List Token} {p : Items} →
    Goes (want_arguments (of_keyed letting q k)) ts p → Goes (want_expression k) (key Let q ∷ ts) p
from_let (wants_arguments d (goes_keyed e g)) = wants_expression (let_expr d e) g

from_assert : {q : Place} {k : BehindExpression} {ts : List Token} {p : Items} →
    Goes (want_arguments (of_keyed asserting q k)) ts p → Goes (want_expression k) (key Assert q ∷ ts) p
from_assert (wants_arguments d (goes_keyed e g)) = wants_expression (assert_expr d e) g

from_echo : {q : Place} {k : BehindExpression} {ts : List Token} {p : Items} →
    Goes (want_arguments (of_keyed echoing q k)) ts p → Goes (want_expression k) (key Echo q ∷ ts) p
from_echo (wants_arguments d (goes_keyed e g)) = wants_expression (echo_expr d e) g

into_expression : {k : BehindExpression} {ts : List Token} {p : Items} →
    OperandFrom 6 (tested k) ts p → Goes (want_expression k) ts p
into_expression (operand_from d (goes_tested c g)) = wants_expression (test d c) g

pub by_want_expression : (t : Token) (k : BehindExpression) (ts : List Token) (p : Items) →
    MoveGoes (expression_step t k) ts p → Goes (want_expression k) (t ∷ ts) p
unfolding expression_step
by_want_expression t k ts p =
    let G = λ (u : Token). Goes (want_expression k) (u ∷ ts) p in
    by_key Function t _ _ ts p G absurd (λ _.
    by_key Let t _ _ ts p G from_let (λ _.
    by_key Assert t _ _ ts p G from_assert (λ _.
    by_key Echo t _ _ ts p G from_echo (λ _ m.
    into_expression (opened_from 6 (tested k) (by_unary t (opened 6 (tested k)) ts p m))))))

from_for : {q : Place} {k : BehindElement} {ts : List Token} {p : Items} →
    Goes (want_arguments (of_for q k)) ts p → Goes (want_element k) (key For q ∷ ts) p
from_for (wants_arguments d (goes_for_each el g)) = wants_element (comp (a_for d el)) g
from_for (wants_arguments d (goes_for_loop e s el g)) = wants_element (comp (a_loop d e s el)) g

from_each : {q : Place} {k : BehindElement} {ts : List Token} {p : Items} →
    Goes (want_element (each_of q k)) ts p → Goes (want_element k) (key Each q ∷ ts) p
from_each (wants_element d (goes_each g)) = wants_element (comp (an_each d)) g

from_if : {q : Place} {k : BehindElement} {ts : List Token} {p : Items} →
    Goes (want_test q k) ts p → Goes (want_element k) (key If q ∷ ts) p
from_if (wants_test e (goes_test held o g)) = wants_element (comp (an_if e held o)) g

from_let_body : {q r o : Place} {all : Arguments} {el : Element} {k : BehindElement} {ts us vs : List Token}
    {p : Items} →
    Args no_arguments ts (sign CloseRound r ∷ us) all → Elem us vs el → ElementGoes (let_of q all el) k vs p →
    Goes (want_element k) (key Let q ∷ sign OpenRound o ∷ ts) p
from_let_body d (plain e) g = wants_element (plain (let_expr d e)) g
from_let_body {q = q} {all = all} {k = k} {vs = vs} {p = p} d (comp c) g =
    wants_element (comp (let_comp d c)) (subst (λ (x : Element). ElementGoes x k vs p) (comp_let c q all) g)

from_let_element : {q : Place} {k : BehindElement} {ts : List Token} {p : Items} →
    Goes (want_arguments (of_let q k)) ts p → Goes (want_element k) (key Let q ∷ ts) p
from_let_element (wants_arguments d (goes_let_args el g)) = from_let_body d el g

into_plain : {k : BehindElement} {ts : List Token} {p : Items} → Goes (want_expression (plain_item k)) ts p →
    Goes (want_element k) ts p
into_plain (wants_expression d (goes_item g)) = wants_element (plain d) g

pub by_want_element : (t : Token) (k : BehindElement) (ts : List Token) (p : Items) →
    MoveGoes (element_step t k) ts p → Goes (want_element k) (t ∷ ts) p
unfolding element_step
by_want_element t k ts p =
    let G = λ (u : Token). Goes (want_element k) (u ∷ ts) p in
    by_key For t _ _ ts p G from_for (λ _.
    by_key Each t _ _ ts p G from_each (λ _.
    by_key If t _ _ ts p G from_if (λ _.
    by_key Let t _ _ ts p G from_let_element (λ _ m. into_plain (by_want_expression t (plain_item k) ts p m)))))

-- an element that is an expression is no comprehension
no_if : {at : Place} {e x : Expression} {held : Element} {ts us : List Token} → ElseRest at e held ts us (item x) → ⊥
no_if d = elim d [ ]

item_of : {x : Expression} {ts us : List Token} → Elem ts us (item x) → Expr ts us x
item_of (plain d) = d
item_of (comp (an_if d b o)) = absurd (no_if o)

into_elements : {at : Place} {a : Elements} {k : BehindOperand} {ts : List Token} {p : Items} →
    Goes (want_element (in_vector at a k)) ts p → Goes (in_elements at a k) ts p
into_elements (wants_element d (goes_member m l g)) = is_in_elements (elems d m) l g
into_elements (wants_element d (goes_range e r l g)) = is_in_range (item_of d) e r l g

from_end_elements : {at q : Place} {a : Elements} {k : BehindOperand} {ts : List Token} {p : Items} →
    Goes (have_post 0 (vector at a) k) ts p → Goes (in_elements at a k) (sign CloseSquare q ∷ ts) p
from_end_elements (has_post l g) = is_in_elements no_elems l g

pub by_elements : (at : Place) (a : Elements) (k : BehindOperand) (t : Token) (ts : List Token) (p : Items) →
    MoveGoes (if is_sign CloseSquare t then go (have_post 0 (vector at a) k)
    else element_step t (in_vector at a k)) ts p →
    Goes (in_elements at a k) (t ∷ ts) p
by_elements at a k t ts p =
    by_sign CloseSquare t _ _ ts p (λ (u : Token). Goes (in_elements at a k) (u ∷ ts) p) from_end_elements
    (λ _ m. into_elements (by_want_element t (in_vector at a k) ts p m))

-- posts
from_index : {q : Place} {count : ℕ} {e : Expression} {k : BehindOperand} {ts : List Token} {p : Items} →
    Goes (want_expression (in_index q e count k)) ts p → Goes (have_post count e k) (sign OpenSquare q ∷ ts) p
from_index (wants_expression d (goes_index l g)) = has_post (an_index d l) g

from_member : {q : Place} {count : ℕ} {e : Expression} {k : BehindOperand} {ts : List Token} {p : Items} →
    Goes (want_member q e count k) ts p → Goes (have_post count e k) (sign Dot q ∷ ts) p
from_member (wants_member l g) = has_post (a_member l) g

pub by_post : (count : ℕ) (e : Expression) (k : BehindOperand) (t : Token) (ts : List Token) (p : Items) →
    MoveGoes (post_step count e k t) ts p → Goes (have_post count e k) (t ∷ ts) p
unfolding post_step
by_post count e k t ts p =
    let G = λ (u : Token). Goes (have_post count e k) (u ∷ ts) p in
    by_sign OpenSquare t _ _ ts p G from_index (λ h₁.
    by_sign Dot t _ _ ts p G from_member (λ h₂.
    by_sign Caret t _ _ ts p G absurd (λ h₃ m. has_post (no_post h₁ h₂ h₃) (by_operand e k t ts p m))))

from_call : {at q : Place} {w : List ℕ} {k : BehindOperand} {ts : List Token} {p : Items} →
    Goes (in_arguments no_arguments (of_call at w k)) ts p → Goes (have_name at w k) (sign OpenRound q ∷ ts) p
from_call (is_in_arguments d (goes_call l g)) = has_name (wants_unary (post (a_call d) l) g)

into_name : {at : Place} {w : List ℕ} {k : BehindOperand} {ts : List Token} {p : Items} →
    begins_with OpenRound ts ≡ false → Goes (have_post 0 (name at w) k) ts p → Goes (have_name at w k) ts p
into_name h (has_post l g) = has_name (wants_unary (post (a_name h) l) g)

pub by_name : (at : Place) (w : List ℕ) (k : BehindOperand) (t : Token) (ts : List Token) (p : Items) →
    MoveGoes (name_step at w k t) ts p → Goes (have_name at w k) (t ∷ ts) p
unfolding name_step
by_name at w k t ts p =
    by_sign OpenRound t _ _ ts p (λ (u : Token). Goes (have_name at w k) (u ∷ ts) p) from_call
    (λ h m. into_name h (by_post 0 (name at w) k t ts p m))

-- arguments
from_assign : {at q : Place} {w : List ℕ} {a : Arguments} {k : BehindArguments} {ts : List Token} {p : Items} →
    Goes (want_expression (argument_of (Some w) a k)) ts p → Goes (have_word at w a k) (sign Assign q ∷ ts) p
from_assign (wants_expression d (goes_argument m g)) = has_word (is_in_arguments (named d m) g)

into_unnamed : {a : Arguments} {k : BehindArguments} {ts : List Token} {p : Items} → begins_named ts ≡ false →
    Goes (want_expression (argument_of None a k)) ts p → Goes (in_arguments a k) ts p
into_unnamed h (wants_expression d (goes_argument m g)) = is_in_arguments (unnamed h d m) g

pub by_word_argument : (at : Place) (w : List ℕ) (a : Arguments) (k : BehindArguments) (t : Token)
    (ts : List Token) (p : Items) →
    MoveGoes (word_argument at w a k t) ts p → Goes (have_word at w a k) (t ∷ ts) p
unfolding word_argument
by_word_argument at w a k t ts p =
    by_sign Assign t _ _ ts p (λ (u : Token). Goes (have_word at w a k) (u ∷ ts) p) from_assign
    (λ h m. has_word (into_unnamed h (into_expression (opened_from 6 (tested (argument_of None a k))
    (from_name (by_name at w (opened 6 (tested (argument_of None a k))) t ts p m))))))

from_word : {at : Place} {w : List ℕ} {a : Arguments} {k : BehindArguments} {ts : List Token} {p : Items} →
    Goes (have_word at w a k) ts p → Goes (in_arguments a k) (word w at ∷ ts) p
from_word (has_word g) = g

by_argument_word : (t : Token) (a : Arguments) (k : BehindArguments) (ts : List Token) (p : Items)
    (o : Option (List ℕ)) →
    word_of t ≡ o → MoveGoes (argument_step t o a k) ts p → Goes (in_arguments a k) (t ∷ ts) p
by_argument_word t a k ts p (Some w) h m =
    by_word t w h (λ (u : Token). Goes (in_arguments a k) (u ∷ ts) p) (from_word m)
by_argument_word t a k ts p None h m =
    into_unnamed (ap (λ (o : Option (List ℕ)). named_by o ts) h) (by_want_expression t (argument_of None a k) ts p m)

pub by_arguments : (t : Token) (a : Arguments) (k : BehindArguments) (ts : List Token) (p : Items) →
    MoveGoes (arguments_step t a k) ts p → Goes (in_arguments a k) (t ∷ ts) p
unfolding arguments_step
by_arguments t a k ts p =
    by_test (ends_arguments t) _ _ ts p (λ h m. is_in_arguments (no_args h) (by_end_arguments a k t ts p m))
    (λ h. by_argument_word t a k ts p (word_of t) refl)

from_member_name : {at q : Place} {w : List ℕ} {count : ℕ} {e : Expression} {k : BehindOperand}
    {ts : List Token} {p : Items} →
    Goes (have_post (suc count) (member at e w) k) ts p → Goes (want_member at e count k) (word w q ∷ ts) p
from_member_name (has_post l g) = wants_member l g

pub by_member_name : (at : Place) (e : Expression) (count : ℕ) (k : BehindOperand) (t : Token) (ts : List Token)
    (p : Items)
    (o : Option (List ℕ)) → word_of t ≡ o → MoveGoes (member_name at e count k o) ts p →
    Goes (want_member at e count k) (t ∷ ts) p
by_member_name at e count k t ts p (Some w) h m =
    by_word t w h (λ (u : Token). Goes (want_member at e count k) (u ∷ ts) p) (from_member_name m)
by_member_name at e count k t ts p None h m = absurd m
