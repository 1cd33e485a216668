-- And so it is where a statement stands, and at every state.
use Rattle.std.proofs.Common.{◌≡◌, ℕ, Bool, true, false, List, Option, Some, None}
use Rattle.std.proofs.Common.{codes}
use Rattle.scad_fault.specs.declared.place.Place.{Place}
use Rattle.scad_lex.specs.declared.token.Token.{Token}
use Rattle.scad_lex.specs.declared.token.Sign.TheVariants.{CloseRound, CloseSquare, OpenCurly}
use Rattle.scad_lex.specs.declared.token.Sign.TheVariants.{CloseCurly, Semicolon, Assign}
use Rattle.scad_lex.specs.declared.token.Sign.TheVariants.{Star, Percent, Hash, Bang}
use Rattle.scad_lex.specs.declared.token.Key.TheVariants.{Module, Function, If, Else}
use Rattle.scad_lex.specs.declared.token.Key.TheVariants.{Include, Use}
use Rattle.scad_ast.specs.Tree.{Expression}
use Rattle.scad_ast.specs.Tree.{Parameter, Items, no_items, module_of}
use Rattle.scad_ast.specs.Tree.{call_of, choice}
use Rattle.scad_grammar.specs.Tokens.{is_sign, is_key, word_of, operator}
use Rattle.scad_grammar.specs.Lists.{with_parameter, with_item, with_statement}
use Rattle.scad_grammar.specs.Lists.{Marks, no_marks}
use Rattle.scad_grammar.specs.Behind.{Defined, BehindItems, in_program, in_group}
use Rattle.scad_grammar.specs.Behind.{module_body, child_of, held_child, other_child, BehindParameters}
use Rattle.scad_grammar.specs.Behind.{BehindOperand}
use Rattle.scad_grammar.specs.Behind.{in_vector}
use Rattle.scad_grammar.specs.State.{State, want_expression, have_expression, want_unary, have_operand, have_name}
use Rattle.scad_grammar.specs.State.{have_post, want_member, have_links, want_arguments, in_arguments, have_word}
use Rattle.scad_grammar.specs.State.{after_argument, have_arguments, want_element, have_element, want_test}
use Rattle.scad_grammar.specs.State.{in_elements, after_one, have_elements, want_statement, have_items, have_start}
use Rattle.scad_grammar.specs.State.{want_marked, want_choice, want_child, want_defined, want_parameters}
use Rattle.scad_grammar.specs.State.{in_parameters, have_parameter, after_parameter, have_parameters, want_assign}
use Rattle.scad_grammar.specs.Move.{left_out}
use Rattle.scad_grammar.specs.Steps.{after_operand, member_name}
use Rattle.scad_grammar.specs.StatementSteps.{callee, call_step, marked_step, first_step, definition_step, start_step}
use Rattle.scad_grammar.specs.StatementSteps.{statement_step, word_statement, child_step, after_items, defined_name}
use Rattle.scad_grammar.specs.StatementSteps.{parameter_step, parameters_step}
use Rattle.scad_grammar.specs.Machine.{step}
use Rattle.scad_grammar.proofs.faults.Leaves.{Form, no_go, no_stuck, only_stays, by_cases, skip, at_key, at_sign}
use Rattle.scad_grammar.proofs.faults.Leaves.{end_arguments_stays, argument_stays, end_parameters_stays}
use Rattle.scad_grammar.proofs.faults.Leaves.{parameter_stays, one_stays, element_stays, expression_stays, link_stays}
use Rattle.scad_grammar.proofs.faults.Leaves.{operand_stays, unary_stays, form_expression, form_element, form_post}
use Rattle.scad_grammar.proofs.faults.Leaves.{form_name, form_word, form_arguments, form_include, form_use, form_mark}

pub call_stays : (t : Token) (o : Option (List ℕ)) (m : Marks) (a : Items) (k : BehindItems) (w : List ℕ) →
    call_step t o m a k ≡ left_out w → ⊥
call_stays t (Some n) m a k w h = no_go h
call_stays t None m a k w h = no_stuck h

pub form_marked : (t : Token) (m : Marks) (a : Items) (k : BehindItems) (w : List ℕ) → marked_step t m a k
    ≡ left_out w → Form t w
unfolding marked_step
form_marked t m a k w =
    skip (is_sign Star t) _ _ w
    (skip (is_sign Percent t) _ _ w (skip (is_sign Hash t) _ _ w (at_sign Bang t (codes "!") _ w form_mark
    (skip (is_key If t) _ _ w (λ h. absurd (call_stays t (callee t) m a k w h))))))

pub form_first : (t : Token) (a : Items) (k : BehindItems) (w : List ℕ) → first_step t a k ≡ left_out w → Form t w
unfolding first_step
form_first t a k w =
    at_key Include t (codes "include") _ w form_include
    (at_key Use t (codes "use") _ w form_use (form_marked t no_marks a k w))

pub form_definition : (d : Bool) (t : Token) (a : Items) (k : BehindItems) (w : List ℕ) → definition_step d t a k
    ≡ left_out w → Form t w
unfolding definition_step
form_definition false t a k w h = form_first t a k w h
form_definition true t a k w h = skip (is_key Module t) _ _ w (skip (is_key Function t) _ _ w (form_first t a k w)) h

pub form_start : (d : Bool) (t : Token) (o : Option (List ℕ)) (a : Items) (k : BehindItems) (w : List ℕ) →
    start_step d t o a k ≡ left_out w → Form t w
form_start d t (Some n) a k w h = absurd (no_go h)
form_start d t None a k w h = form_definition d t a k w h

pub form_statement : (d : Bool) (t : Token) (a : Items) (k : BehindItems) (w : List ℕ) → statement_step d t a k
    ≡ left_out w → Form t w
unfolding statement_step
form_statement d t a k w =
    skip (is_sign Semicolon t) _ _ w (skip (is_sign OpenCurly t) _ _ w (form_start d t (word_of t) a k w))

pub form_child : (t : Token) (k : BehindItems) (w : List ℕ) → child_step t k ≡ left_out w → Form t w
unfolding child_step
form_child t k w = skip (is_sign Semicolon t) _ _ w (skip (is_sign OpenCurly t) _ _ w (form_first t no_items k w))

pub form_items : (a : Items) (k : BehindItems) (t : Token) (w : List ℕ) → after_items a k t ≡ left_out w → Form t w
unfolding after_items
form_items a in_program t w h = form_statement true t a in_program w h
form_items a (in_group d k) t w h = skip (is_sign CloseCurly t) _ _ w (form_statement d t a (in_group d k) w) h
form_items a (module_body at n all outer k) t w h = form_items (with_item outer (module_of at n all a)) k t w h
form_items a (child_of at m n all outer k) t w h =
    form_items (with_statement m outer (call_of at m.percent m.hash n all a)) k t w h
form_items a (held_child at m e outer k) t w h =
    skip (is_key Else t) _ _ w (form_items (with_statement m outer (choice at m.percent m.hash e a no_items)) k t w) h
form_items a (other_child at m e held outer k) t w h =
    form_items (with_statement m outer (choice at m.percent m.hash e held a)) k t w h

pub defined_stays : (what : Defined) (at : Place) (o : Option (List ℕ)) (a : Items) (k : BehindItems) (w : List ℕ) →
    defined_name what at o a k ≡ left_out w → ⊥
defined_stays what at (Some n) a k w h = no_go h
defined_stays what at None a k w h = no_stuck h

pub parameter_word_stays : (o : Option (List ℕ)) (all : List Parameter) (k : BehindParameters) (w : List ℕ) →
    parameter_step o all k ≡ left_out w → ⊥
parameter_word_stays (Some n) all k w h = no_go h
parameter_word_stays None all k w h = no_stuck h

pub member_name_stays : (at : Place) (e : Expression) (count : ℕ) (k : BehindOperand) (o : Option (List ℕ))
    (w : List ℕ) →
    member_name at e count k o ≡ left_out w → ⊥
member_name_stays at e count k (Some n) w h = no_go h
member_name_stays at e count k None w h = no_stuck h

pub left_form : (s : State) (t : Token) (w : List ℕ) → step s t ≡ left_out w → Form t w
unfolding step word_statement parameters_step
left_form (want_expression k) t w h = form_expression t k w h
left_form (have_expression e k) t w h = absurd (expression_stays e k t w h)
left_form (want_unary k) t w h = absurd (unary_stays t k w h)
left_form (have_operand e k) t w h = absurd (operand_stays e k t w h)
left_form (have_name at n k) t w h = form_name at n k t w h
left_form (have_post count e k) t w h = form_post count e k t w h
left_form (want_member at e count k) t w h = absurd (member_name_stays at e count k (word_of t) w h)
left_form (have_links n count e k) t w h =
    absurd (link_stays n count e k t (operator n t) (after_operand e k t) w (operand_stays e k t w) h)
left_form (want_arguments k) t w h = absurd (only_stays _ _ w h)
left_form (in_arguments a k) t w h = form_arguments t a k w h
left_form (have_word at n a k) t w h = form_word at n a k t w h
left_form (after_argument a k) t w h = absurd (argument_stays a k t w h)
left_form (have_arguments a k) t w h = absurd (end_arguments_stays a k t w h)
left_form (want_element k) t w h = form_element t k w h
left_form (have_element el k) t w h = absurd (element_stays el k t w h)
left_form (want_test at k) t w h = absurd (only_stays _ _ w h)
left_form (in_elements at a k) t w h = skip (is_sign CloseSquare t) _ _ w (form_element t (in_vector at a k) w) h
left_form (after_one at a k) t w h = absurd (one_stays at a k t w h)
left_form (have_elements at a k) t w h = absurd (only_stays _ _ w h)
left_form (want_statement d a k) t w h = form_statement d t a k w h
left_form (have_items a k) t w h = form_items a k t w h
left_form (have_start d at n a k) t w h = absurd (skip (is_sign Assign t) _ _ w (only_stays _ _ w) h)
left_form (want_marked m a k) t w h = form_marked t m a k w h
left_form (want_choice at m a k) t w h = absurd (only_stays _ _ w h)
left_form (want_child k) t w h = form_child t k w h
left_form (want_defined what at a k) t w h = absurd (defined_stays what at (word_of t) a k w h)
left_form (want_parameters k) t w h = absurd (only_stays _ _ w h)
left_form (in_parameters a k) t w h =
    absurd (by_cases (is_sign CloseRound t) _ _ w (λ _. end_parameters_stays a k t w)
    (parameter_word_stays (word_of t) a k w) h)
left_form (have_parameter n a k) t w h =
    absurd (skip (is_sign Assign t) _ _ w (parameter_stays (with_parameter a n None) k t w) h)
left_form (after_parameter a k) t w h = absurd (parameter_stays a k t w h)
left_form (have_parameters a k) t w h = absurd (end_parameters_stays a k t w h)
left_form (want_assign at n all a k) t w h = absurd (only_stays _ _ w h)
