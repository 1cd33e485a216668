-- Backward over the end of arguments and of elements.
use Rattle.std.proofs.Common.{◌≡◌, ℕ, Bool, true, false, List, ◌∷◌, refl, ap, sym}
use Rattle.std.proofs.Common.{subst}
use Rattle.scad_fault.specs.declared.place.Place.{Place}
use Rattle.scad_lex.specs.declared.token.Token.{Token}
use Rattle.scad_lex.specs.declared.token.Sign.TheVariants.{CloseRound, CloseSquare, Semicolon, Comma, Colon}
use Rattle.scad_lex.specs.declared.token.Key.TheVariants.{Else}
use Rattle.scad_ast.specs.Tree.{Expression, vector, call, Arguments}
use Rattle.scad_ast.specs.Tree.{Elements, no_elements, element, Element, item, each, for_each, for_loop}
use Rattle.scad_ast.specs.Tree.{let_element, if_element, if_else, Items}
use Rattle.scad_grammar.specs.Tokens.{sign, key}
use Rattle.scad_grammar.specs.Lists.{with_element, let_of, Marks}
use Rattle.scad_grammar.specs.Grammar.{last_arg, comma_arg, MoreElems, last_elem, comma_elem, no_else, an_else}
use Rattle.scad_grammar.specs.Grammar.{at_end_of_arguments}
use Rattle.scad_grammar.specs.Behind.{Keyed, BehindItems, BehindOperand}
use Rattle.scad_grammar.specs.Behind.{BehindExpression, body_of}
use Rattle.scad_grammar.specs.Behind.{range_second, loop_test}
use Rattle.scad_grammar.specs.Behind.{child_of}
use Rattle.scad_grammar.specs.Behind.{BehindElement, in_vector, each_of, for_of, loop_of, let_body, held_element}
use Rattle.scad_grammar.specs.Behind.{other_element, BehindArguments, of_call, of_keyed, of_for, of_steps, of_let}
use Rattle.scad_grammar.specs.Behind.{of_statement}
use Rattle.scad_grammar.specs.State.{want_expression, have_post, in_arguments}
use Rattle.scad_grammar.specs.State.{after_argument, want_element, in_elements, after_one, want_child}
use Rattle.scad_grammar.specs.Steps.{end_arguments, after_argument_step, after_one_step, range_start, range_step}
use Rattle.scad_grammar.specs.Steps.{member_step, after_element}
use Rattle.scad_grammar.proofs.reader.Goes.{Goes, wants_expression, has_post, is_in_arguments}
use Rattle.scad_grammar.proofs.reader.Goes.{is_after_argument, wants_element, is_in_elements, is_in_range}
use Rattle.scad_grammar.proofs.reader.Goes.{is_after_one, is_after_none, wants_child}
use Rattle.scad_grammar.proofs.reader.Goes.{goes_child}
use Rattle.scad_grammar.proofs.reader.Goes.{goes_body}
use Rattle.scad_grammar.proofs.reader.Goes.{goes_second, goes_loop}
use Rattle.scad_grammar.proofs.reader.Goes.{ElementGoes, goes_member}
use Rattle.scad_grammar.proofs.reader.Goes.{goes_range, goes_each, goes_for, goes_turns, goes_let, goes_if, goes_else}
use Rattle.scad_grammar.proofs.reader.Goes.{ArgumentsGoes, goes_call, goes_keyed, goes_for_each, goes_for_loop}
use Rattle.scad_grammar.proofs.reader.Goes.{goes_steps, goes_let_args, goes_statement}
use Rattle.scad_grammar.proofs.reader.Tests.{MoveGoes, by_sign, by_key, by_only}
use Rattle.std.proofs.lemmas.Bool.{false≢true}

-- the end of arguments
pub from_call : {at q : Place} {w : List ℕ} {all : Arguments} {k : BehindOperand} {ts : List Token} {p : Items} →
    Goes (have_post 0 (call at w all) k) ts p → ArgumentsGoes all (of_call at w k) (sign CloseRound q ∷ ts) p
from_call (has_post l g) = goes_call l g

pub from_keyed : {what : Keyed} {at q : Place} {all : Arguments} {k : BehindExpression} {ts : List Token}
    {p : Items} →
    Goes (want_expression (body_of what at all k)) ts p →
    ArgumentsGoes all (of_keyed what at k) (sign CloseRound q ∷ ts) p
from_keyed (wants_expression d (goes_body g)) = goes_keyed d g

pub from_for : {at q : Place} {all : Arguments} {k : BehindElement} {ts : List Token} {p : Items} →
    Goes (want_element (for_of at all k)) ts p → ArgumentsGoes all (of_for at k) (sign CloseRound q ∷ ts) p
from_for (wants_element d (goes_for g)) = goes_for_each d g

pub from_loop : {at q : Place} {all : Arguments} {k : BehindElement} {ts : List Token} {p : Items} →
    Goes (want_expression (loop_test at all k)) ts p → ArgumentsGoes all (of_for at k) (sign Semicolon q ∷ ts) p
from_loop (wants_expression d (goes_loop s el g)) = goes_for_loop d s el g

pub from_steps : {at q : Place} {starts all : Arguments} {e : Expression} {k : BehindElement} {ts : List Token}
    {p : Items} →
    Goes (want_element (loop_of at starts e all k)) ts p →
    ArgumentsGoes all (of_steps at starts e k) (sign CloseRound q ∷ ts) p
from_steps (wants_element d (goes_turns g)) = goes_steps d g

pub from_let : {at q : Place} {all : Arguments} {k : BehindElement} {ts : List Token} {p : Items} →
    Goes (want_element (let_body at all k)) ts p → ArgumentsGoes all (of_let at k) (sign CloseRound q ∷ ts) p
from_let (wants_element d (goes_let g)) = goes_let_args d g

pub from_statement : {at q : Place} {m : Marks} {w : List ℕ} {all : Arguments} {a : Items} {k : BehindItems}
    {ts : List Token} {p : Items} →
    Goes (want_child (child_of at m w all a k)) ts p →
    ArgumentsGoes all (of_statement at m w a k) (sign CloseRound q ∷ ts) p
from_statement (wants_child c (goes_child g)) = goes_statement c g

pub by_end_arguments : (all : Arguments) (k : BehindArguments) (t : Token) (ts : List Token) (p : Items) →
    MoveGoes (end_arguments all k t) ts p → ArgumentsGoes all k (t ∷ ts) p
unfolding end_arguments
by_end_arguments all (of_call at w k) t ts p =
    by_only CloseRound t _ ts p (λ (u : Token). ArgumentsGoes all (of_call at w k) (u ∷ ts) p) from_call
by_end_arguments all (of_keyed what at k) t ts p =
    by_only CloseRound t _ ts p (λ (u : Token). ArgumentsGoes all (of_keyed what at k) (u ∷ ts) p) from_keyed
by_end_arguments all (of_for at k) t ts p =
    let G = λ (u : Token). ArgumentsGoes all (of_for at k) (u ∷ ts) p in
    by_sign CloseRound t _ _ ts p G from_for (λ _. by_only Semicolon t _ ts p G from_loop)
by_end_arguments all (of_steps at starts e k) t ts p =
    by_only CloseRound t _ ts p (λ (u : Token). ArgumentsGoes all (of_steps at starts e k) (u ∷ ts) p) from_steps
by_end_arguments all (of_let at k) t ts p =
    by_only CloseRound t _ ts p (λ (u : Token). ArgumentsGoes all (of_let at k) (u ∷ ts) p) from_let
by_end_arguments all (of_statement at m w a k) t ts p =
    by_only CloseRound t _ ts p (λ (u : Token). ArgumentsGoes all (of_statement at m w a k) (u ∷ ts) p) from_statement

pub ends_of : {all : Arguments} {k : BehindArguments} {ts : List Token} {p : Items} →
    ArgumentsGoes all k ts p → at_end_of_arguments ts ≡ true
ends_of (goes_call l g) = refl
ends_of (goes_keyed d g) = refl
ends_of (goes_for_each d g) = refl
ends_of (goes_for_loop d s el g) = refl
ends_of (goes_steps d g) = refl
ends_of (goes_let_args d g) = refl
ends_of (goes_statement c g) = refl

pub from_comma : {all : Arguments} {k : BehindArguments} {q : Place} {ts : List Token} {p : Items} →
    Goes (in_arguments all k) ts p → Goes (after_argument all k) (sign Comma q ∷ ts) p
from_comma (is_in_arguments d g) = is_after_argument (comma_arg d) g

pub by_argument : (all : Arguments) (k : BehindArguments) (t : Token) (ts : List Token) (p : Items) →
    MoveGoes (after_argument_step all k t) ts p → Goes (after_argument all k) (t ∷ ts) p
unfolding after_argument_step
by_argument all k t ts p =
    by_sign Comma t _ _ ts p (λ (u : Token). Goes (after_argument all k) (u ∷ ts) p) from_comma
    (λ _ m. let g = by_end_arguments all k t ts p m in is_after_argument (last_arg (ends_of g)) g)

-- elements
pub is_none : Elements → Bool
is_none no_elements = true
is_none (element x y) = false

pub not_none : (a : Elements) (el : Element) → no_elements ≡ with_element a el → ⊥
unfolding is_none
not_none no_elements el h = false≢true (sym (ap is_none h))
not_none (element x y) el h = false≢true (sym (ap is_none h))

pub into_member : {at : Place} {a b : Elements} {el : Element} {k : BehindOperand} {ts : List Token} {p : Items} →
    b ≡ with_element a el → Goes (after_one at b k) ts p → ElementGoes el (in_vector at a k) ts p
into_member {at = at} {a = a} {el = el} {k = k} h (is_after_one {q = q} {all = all} {ts = ts} {us = us} m l g) =
    goes_member (subst (λ (x : Elements). MoreElems x ts (sign CloseSquare q ∷ us) all) h m) l g
into_member {a = a} {el = el} h (is_after_none d e r l g) = absurd (not_none a el h)

pub from_comma_elem : {at q : Place} {a : Elements} {k : BehindOperand} {ts : List Token} {p : Items} →
    Goes (in_elements at a k) ts p → Goes (after_one at a k) (sign Comma q ∷ ts) p
from_comma_elem (is_in_elements d l g) = is_after_one (comma_elem d) l g
from_comma_elem (is_in_range d e r l g) = is_after_none d e r l g

pub from_last_elem : {at q : Place} {a : Elements} {k : BehindOperand} {ts : List Token} {p : Items} →
    Goes (have_post 0 (vector at a) k) ts p → Goes (after_one at a k) (sign CloseSquare q ∷ ts) p
from_last_elem (has_post l g) = is_after_one last_elem l g

pub by_one : (at : Place) (a : Elements) (k : BehindOperand) (t : Token) (ts : List Token) (p : Items) →
    MoveGoes (after_one_step at a k t) ts p → Goes (after_one at a k) (t ∷ ts) p
unfolding after_one_step
by_one at a k t ts p =
    let G = λ (u : Token). Goes (after_one at a k) (u ∷ ts) p in
    by_sign Comma t _ _ ts p G from_comma_elem (λ _. by_only CloseSquare t _ ts p G from_last_elem)

pub from_range : {at q : Place} {e : Expression} {k : BehindOperand} {ts : List Token} {p : Items} →
    Goes (want_expression (range_second at e k)) ts p →
    ElementGoes (item e) (in_vector at no_elements k) (sign Colon q ∷ ts) p
from_range (wants_expression d (goes_second r l g)) = goes_range d r l g

pub by_range : (at : Place) (a : Elements) (el : Element) (k : BehindOperand) (q : Place) (ts : List Token)
    (p : Items) →
    MoveGoes (range_step at (range_start a el) k) ts p → ElementGoes el (in_vector at a k) (sign Colon q ∷ ts) p
by_range at no_elements (item e) k q ts p m = from_range m
by_range at no_elements (each _ _) k q ts p m = absurd m
by_range at no_elements (for_each _ _ _) k q ts p m = absurd m
by_range at no_elements (for_loop _ _ _ _ _) k q ts p m = absurd m
by_range at no_elements (let_element _ _ _) k q ts p m = absurd m
by_range at no_elements (if_element _ _ _) k q ts p m = absurd m
by_range at no_elements (if_else _ _ _ _) k q ts p m = absurd m
by_range at (element _ _) el k q ts p m = absurd m

pub by_member : (at : Place) (a : Elements) (el : Element) (k : BehindOperand) (t : Token) (ts : List Token)
    (p : Items) →
    MoveGoes (member_step at a el k t) ts p → ElementGoes el (in_vector at a k) (t ∷ ts) p
unfolding member_step
by_member at a el k t ts p =
    by_sign Colon t _ _ ts p (λ (u : Token). ElementGoes el (in_vector at a k) (u ∷ ts) p)
    (by_range at a el k t.at ts p)
    (λ _ m. into_member refl (by_one at (with_element a el) k t ts p m))

pub from_else : {at q : Place} {e : Expression} {el : Element} {k : BehindElement} {ts : List Token} {p : Items} →
    Goes (want_element (other_element at e el k)) ts p → ElementGoes el (held_element at e k) (key Else q ∷ ts) p
from_else (wants_element d (goes_else g)) = goes_if (an_else d) g

pub by_element : (el : Element) (k : BehindElement) (t : Token) (ts : List Token) (p : Items) →
    MoveGoes (after_element el k t) ts p → ElementGoes el k (t ∷ ts) p
unfolding after_element
by_element el (in_vector at a k) t ts p m = by_member at a el k t ts p m
by_element el (each_of at k) t ts p m = goes_each (by_element (each at el) k t ts p m)
by_element el (for_of at all k) t ts p m = goes_for (by_element (for_each at all el) k t ts p m)
by_element el (loop_of at starts e steps k) t ts p m =
    goes_turns (by_element (for_loop at starts e steps el) k t ts p m)
by_element el (let_body at all k) t ts p m = goes_let (by_element (let_of at all el) k t ts p m)
by_element el (held_element at e k) t ts p m =
    by_key Else t _ _ ts p (λ (u : Token). ElementGoes el (held_element at e k) (u ∷ ts) p) from_else
    (λ h n. goes_if (no_else h) (by_element (if_element at e el) k t ts p n)) m
by_element el (other_element at e held k) t ts p m = goes_else (by_element (if_else at e held el) k t ts p m)
