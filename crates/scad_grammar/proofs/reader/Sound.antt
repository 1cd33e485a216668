-- What a run gives is derived: each move keeps how tokens go on to a whole program.
use Rattle.std.proofs.Common.{◌≡◌, ℕ, Bool, false, List, [], ◌∷◌, Option, Some, None, refl, sym, ◌∙◌, subst}
use Rattle.scad_fault.specs.declared.place.Place.{Place}
use Rattle.scad_lex.specs.declared.token.Token.{Token}
use Rattle.scad_lex.specs.declared.token.Sign.TheVariants.{OpenRound, CloseRound, CloseSquare, Assign}
use Rattle.scad_ast.specs.Tree.{vector, no_arguments, Elements, Parameter, Items, no_items, module_of, call_of}
use Rattle.scad_ast.specs.Tree.{choice}
use Rattle.scad_grammar.specs.Tokens.{sign, word, is_sign, word_of, operator}
use Rattle.scad_grammar.specs.Lists.{with_parameter, with_item, with_statement, Marks, no_marks}
use Rattle.scad_grammar.specs.Grammar.{no_default, default, params}
use Rattle.scad_grammar.specs.Statements.{call_word, assign, inst, a_call, no_statement, no_otherwise, Derives}
use Rattle.scad_grammar.specs.Statements.{program}
use Rattle.scad_grammar.specs.Behind.{Defined, BehindItems, in_program, in_group, module_body, child_of, held_child}
use Rattle.scad_grammar.specs.Behind.{other_child, BehindParameters, BehindOperand, BehindArguments, BehindElement}
use Rattle.scad_grammar.specs.Behind.{element_test, default_of, assigned_to, function_body, statement_test}
use Rattle.scad_grammar.specs.Behind.{of_statement}
use Rattle.scad_grammar.specs.State.{State, want_expression, have_expression, want_unary, have_operand, have_name}
use Rattle.scad_grammar.specs.State.{have_post, want_member, have_links, want_arguments, in_arguments, have_word}
use Rattle.scad_grammar.specs.State.{after_argument, have_arguments, want_element, have_element, want_test}
use Rattle.scad_grammar.specs.State.{in_elements, after_one, have_elements, want_statement, have_items, have_start}
use Rattle.scad_grammar.specs.State.{want_marked, want_choice, want_child, want_defined, want_parameters}
use Rattle.scad_grammar.specs.State.{in_parameters, have_parameter, after_parameter, have_parameters, want_assign}
use Rattle.scad_grammar.specs.Move.{Move, go, left_out, stuck}
use Rattle.scad_grammar.specs.Steps.{after_operand}
use Rattle.scad_grammar.specs.StatementSteps.{word_statement, defined_name, parameter_step, parameters_step}
use Rattle.scad_grammar.specs.StatementSteps.{finish_items}
use Rattle.scad_grammar.specs.Machine.{step, finish, start, run}
use Rattle.scad_grammar.proofs.reader.Runs.{follow, by_move}
use Rattle.scad_grammar.proofs.reader.Goes.{Goes, wants_expression, has_expression, has_operand, has_post}
use Rattle.scad_grammar.proofs.reader.Goes.{wants_arguments, is_in_arguments, has_arguments, has_element, wants_test}
use Rattle.scad_grammar.proofs.reader.Goes.{has_elements, wants_statement, has_items, has_start, wants_choice}
use Rattle.scad_grammar.proofs.reader.Goes.{wants_defined, wants_parameters, is_in_parameters, has_parameter}
use Rattle.scad_grammar.proofs.reader.Goes.{is_after_parameter, has_parameters, wants_assign, ItemsGoes, goes_program}
use Rattle.scad_grammar.proofs.reader.Goes.{goes_module, goes_child, goes_held, goes_other, goes_default}
use Rattle.scad_grammar.proofs.reader.Goes.{goes_assigned, goes_result, goes_statement}
use Rattle.scad_grammar.proofs.reader.Tests.{MoveGoes, by_test, by_sign, by_only, by_word}
use Rattle.scad_grammar.proofs.reader.Ends.{by_marked, by_statement, by_child, by_items, by_end_parameters}
use Rattle.scad_grammar.proofs.reader.Ends.{into_parameters, by_parameter}
use Rattle.scad_grammar.proofs.reader.Backward.{by_expression}
use Rattle.scad_grammar.proofs.reader.BackwardElements.{by_end_arguments, by_argument, by_one, by_element}
use Rattle.scad_grammar.proofs.reader.Backward.{by_links, by_operand}
use Rattle.scad_grammar.proofs.reader.Starts.{by_unary, by_want_expression, by_want_element, by_elements, by_post}
use Rattle.scad_grammar.proofs.reader.Starts.{by_name, by_word_argument, by_arguments, by_member_name}
use Rattle.std.proofs.lemmas.Option.{same_Some, none-some}

from_round : {q : Place} {k : BehindArguments} {ts : List Token} {p : Items} →
    Goes (in_arguments no_arguments k) ts p → Goes (want_arguments k) (sign OpenRound q ∷ ts) p
from_round (is_in_arguments d g) = wants_arguments d g

from_test : {at q : Place} {k : BehindElement} {ts : List Token} {p : Items} →
    Goes (want_expression (element_test at k)) ts p → Goes (want_test at k) (sign OpenRound q ∷ ts) p
from_test (wants_expression d g) = wants_test d g

from_choice : {at q : Place} {m : Marks} {a : Items} {k : BehindItems} {ts : List Token} {p : Items} →
    Goes (want_expression (statement_test at m a k)) ts p → Goes (want_choice at m a k) (sign OpenRound q ∷ ts) p
from_choice (wants_expression d g) = wants_choice d g

from_elements : {at q : Place} {all : Elements} {k : BehindOperand} {ts : List Token} {p : Items} →
    Goes (have_post 0 (vector at all) k) ts p → Goes (have_elements at all k) (sign CloseSquare q ∷ ts) p
from_elements (has_post l g) = has_elements l g

from_assigned : {d : Bool} {at q : Place} {w : List ℕ} {a : Items} {k : BehindItems} {ts : List Token} {p : Items} →
    Goes (want_expression (assigned_to at w a k)) ts p → Goes (have_start d at w a k) (sign Assign q ∷ ts) p
from_assigned (wants_expression e (goes_assigned g)) = has_start (wants_statement (assign e) g)

from_call : {d : Bool} {at q : Place} {w : List ℕ} {a : Items} {k : BehindItems} {ts : List Token} {p : Items} →
    Goes (in_arguments no_arguments (of_statement at no_marks w a k)) ts p →
    Goes (have_start d at w a k) (sign OpenRound q ∷ ts) p
from_call (is_in_arguments d (goes_statement c g)) = has_start (wants_statement (inst (a_call call_word d c)) g)

by_word_statement : (d : Bool) (at : Place) (w : List ℕ) (a : Items) (k : BehindItems) (t : Token)
    (ts : List Token) (p : Items) →
    MoveGoes (word_statement at w a k t) ts p → Goes (have_start d at w a k) (t ∷ ts) p
unfolding word_statement
by_word_statement d at w a k t ts p =
    let G = λ (u : Token). Goes (have_start d at w a k) (u ∷ ts) p in
    by_sign Assign t _ _ ts p G from_assigned (λ _. by_only OpenRound t _ ts p G from_call)

by_defined_name : (what : Defined) (at : Place) (a : Items) (k : BehindItems) (t : Token) (ts : List Token)
    (p : Items) (o : Option (List ℕ)) →
    word_of t ≡ o → MoveGoes (defined_name what at o a k) ts p → Goes (want_defined what at a k) (t ∷ ts) p
by_defined_name what at a k t ts p (Some w) h m =
    by_word t w h (λ (u : Token). Goes (want_defined what at a k) (u ∷ ts) p) (wants_defined m)
by_defined_name what at a k t ts p None h m = absurd m

from_parameters : {q : Place} {k : BehindParameters} {ts : List Token} {p : Items} →
    Goes (in_parameters [] k) ts p → Goes (want_parameters k) (sign OpenRound q ∷ ts) p
from_parameters (is_in_parameters d g) = wants_parameters d g

from_parameter : {at : Place} {w : List ℕ} {all : List Parameter} {k : BehindParameters} {ts : List Token}
    {p : Items} →
    Goes (have_parameter w all k) ts p → Goes (in_parameters all k) (word w at ∷ ts) p
from_parameter (has_parameter d m g) = is_in_parameters (params d m) g

by_parameter_word : (all : List Parameter) (k : BehindParameters) (t : Token) (ts : List Token) (p : Items)
    (o : Option (List ℕ)) →
    word_of t ≡ o → MoveGoes (parameter_step o all k) ts p → Goes (in_parameters all k) (t ∷ ts) p
by_parameter_word all k t ts p (Some w) h m =
    by_word t w h (λ (u : Token). Goes (in_parameters all k) (u ∷ ts) p) (from_parameter m)
by_parameter_word all k t ts p None h m = absurd m

by_parameters : (t : Token) (all : List Parameter) (k : BehindParameters) (ts : List Token) (p : Items) →
    MoveGoes (parameters_step t all k) ts p → Goes (in_parameters all k) (t ∷ ts) p
unfolding parameters_step
by_parameters t all k ts p =
    by_test (is_sign CloseRound t) _ _ ts p (λ h m. into_parameters (by_end_parameters all k t ts p m))
    (λ h. by_parameter_word all k t ts p (word_of t) refl)

from_default : {q : Place} {w : List ℕ} {all : List Parameter} {k : BehindParameters} {ts : List Token} {p : Items} →
    Goes (want_expression (default_of w all k)) ts p → Goes (have_parameter w all k) (sign Assign q ∷ ts) p
from_default (wants_expression d (goes_default m g)) = has_parameter (default d) m g

into_no_default : {w : List ℕ} {all : List Parameter} {k : BehindParameters} {t : Token} {ts : List Token}
    {p : Items} →
    is_sign Assign t ≡ false → Goes (after_parameter (with_parameter all w None) k) (t ∷ ts) p →
    Goes (have_parameter w all k) (t ∷ ts) p
into_no_default h (is_after_parameter m g) = has_parameter (no_default h) m g

from_function : {at q : Place} {w : List ℕ} {all : List Parameter} {a : Items} {k : BehindItems}
    {ts : List Token} {p : Items} →
    Goes (want_expression (function_body at w all a k)) ts p → Goes (want_assign at w all a k) (sign Assign q ∷ ts) p
from_function (wants_expression e (goes_result g)) = wants_assign e g

-- one move
pub sound : (s : State) (t : Token) (ts : List Token) (p : Items) → MoveGoes (step s t) ts p → Goes s (t ∷ ts) p
unfolding step
sound (want_expression k) t ts p m = by_want_expression t k ts p m
sound (have_expression e k) t ts p m = has_expression (by_expression e k t ts p m)
sound (want_unary k) t ts p m = by_unary t k ts p m
sound (have_operand e k) t ts p m = has_operand (by_operand e k t ts p m)
sound (have_name at w k) t ts p m = by_name at w k t ts p m
sound (have_post count e k) t ts p m = by_post count e k t ts p m
sound (want_member at e count k) t ts p m = by_member_name at e count k t ts p (word_of t) refl m
sound (have_links n count e k) t ts p m =
    by_links n count e k t ts p (after_operand e k t) (by_operand e k t ts p) (operator n t) refl m
sound (want_arguments k) t ts p m =
    by_only OpenRound t _ ts p (λ (u : Token). Goes (want_arguments k) (u ∷ ts) p) from_round m
sound (in_arguments all k) t ts p m = by_arguments t all k ts p m
sound (have_word at w all k) t ts p m = by_word_argument at w all k t ts p m
sound (after_argument all k) t ts p m = by_argument all k t ts p m
sound (have_arguments all k) t ts p m = has_arguments (by_end_arguments all k t ts p m)
sound (want_element k) t ts p m = by_want_element t k ts p m
sound (have_element el k) t ts p m = has_element (by_element el k t ts p m)
sound (want_test at k) t ts p m =
    by_only OpenRound t _ ts p (λ (u : Token). Goes (want_test at k) (u ∷ ts) p) from_test m
sound (in_elements at all k) t ts p m = by_elements at all k t ts p m
sound (after_one at all k) t ts p m = by_one at all k t ts p m
sound (have_elements at all k) t ts p m =
    by_only CloseSquare t _ ts p (λ (u : Token). Goes (have_elements at all k) (u ∷ ts) p) from_elements m
sound (want_statement d a k) t ts p m = by_statement d t a k ts p m
sound (have_items a k) t ts p m = has_items (by_items a k t ts p m)
sound (have_start d at w a k) t ts p m = by_word_statement d at w a k t ts p m
sound (want_marked n a k) t ts p m = by_marked t n a k ts p m
sound (want_choice at n a k) t ts p m =
    by_only OpenRound t _ ts p (λ (u : Token). Goes (want_choice at n a k) (u ∷ ts) p) from_choice m
sound (want_child k) t ts p m = by_child t k ts p m
sound (want_defined what at a k) t ts p m = by_defined_name what at a k t ts p (word_of t) refl m
sound (want_parameters k) t ts p m =
    by_only OpenRound t _ ts p (λ (u : Token). Goes (want_parameters k) (u ∷ ts) p) from_parameters m
sound (in_parameters all k) t ts p m = by_parameters t all k ts p m
sound (have_parameter w all k) t ts p m =
    by_sign Assign t _ _ ts p (λ (u : Token). Goes (have_parameter w all k) (u ∷ ts) p) from_default
    (λ h n. into_no_default h (by_parameter (with_parameter all w None) k t ts p n)) m
sound (after_parameter all k) t ts p m = by_parameter all k t ts p m
sound (have_parameters all k) t ts p m = has_parameters (by_end_parameters all k t ts p m)
sound (want_assign at w all a k) t ts p m =
    by_only Assign t _ ts p (λ (u : Token). Goes (want_assign at w all a k) (u ∷ ts) p) from_function m

-- the end of the text
finishes : (a : Items) (k : BehindItems) (p : Items) → finish_items a k ≡ Some p → ItemsGoes a k [] p
unfolding finish_items
finishes a in_program p h =
    subst (λ (x : Items). ItemsGoes a in_program [] x) (same_Some a p h) (goes_program no_statement)
finishes a (in_group d k) p h = absurd (none-some _ h)
finishes a (module_body at w all outer k) p h = goes_module (finishes (with_item outer (module_of at w all a)) k p h)
finishes a (child_of at m w all outer k) p h =
    goes_child (finishes (with_statement m outer (call_of at m.percent m.hash w all a)) k p h)
finishes a (held_child at m e outer k) p h =
    goes_held (no_otherwise refl) (finishes (with_statement m outer (choice at m.percent m.hash e a no_items)) k p h)
finishes a (other_child at m e held outer k) p h =
    goes_other (finishes (with_statement m outer (choice at m.percent m.hash e held a)) k p h)

pub sound_finish : (s : State) (p : Items) → finish s ≡ Some p → Goes s [] p
unfolding finish
sound_finish (have_items a k) p h = has_items (finishes a k p h)
sound_finish _ p h = absurd (none-some _ h)

sound_follow : (m : Move) (ts : List Token) (p : Items) →
    ((s : State) (p : Items) → run s ts ≡ Some p → Goes s ts p) →
    follow m ts ≡ Some p → MoveGoes m ts p
sound_follow (go s) ts p f h = f s p h
sound_follow (left_out w) ts p f h = none-some _ h
sound_follow stuck ts p f h = none-some _ h

pub sound_run : (ts : List Token) (s : State) (p : Items) → run s ts ≡ Some p → Goes s ts p
unfolding run
sound_run [] s p h = sound_finish s p h
sound_run (t ∷ ts) s p h = sound s t ts p (sound_follow (step s t) ts p (sound_run ts) (sym (by_move s t ts) ∙ h))

pub into_program : {ts : List Token} {p : Items} → Goes start ts p → Derives ts p
into_program (has_items (goes_program s)) = program s

-- what the reader accepts is derived
pub sound_program : (ts : List Token) (p : Items) → run start ts ≡ Some p → Derives ts p
sound_program ts p h = into_program (sound_run ts start p h)
