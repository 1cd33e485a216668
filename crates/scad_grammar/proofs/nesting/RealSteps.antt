-- No step leaves a reader where it stands within a step only.
use Rattle.std.proofs.Common.{◌≡◌, ℕ, Bool, true, false, List, [], ◌∷◌, Option, Some, None, subst, sym}
use Rattle.std.proofs.Common.{◌∙◌}
use Rattle.scad_fault.specs.declared.place.Place.{Place}
use Rattle.scad_lex.specs.declared.token.Token.{Token}
use Rattle.scad_lex.specs.declared.token.Sign.TheVariants.{OpenRound, CloseRound, CloseSquare, Semicolon}
use Rattle.scad_lex.specs.declared.token.Sign.TheVariants.{OpenCurly, CloseCurly, Assign}
use Rattle.scad_lex.specs.declared.token.Sign.TheVariants.{Bang, Star, Percent, Hash}
use Rattle.scad_lex.specs.declared.token.Key.TheVariants.{Function, If, Else, Module}
use Rattle.scad_lex.specs.declared.token.Key.TheVariants.{Include, Use}
use Rattle.scad_ast.specs.Tree.{Parameter, Items}
use Rattle.scad_grammar.specs.Tokens.{is_sign, is_key, word_of, operator}
use Rattle.scad_grammar.specs.Lists.{Marks}
use Rattle.scad_grammar.specs.Behind.{Defined, BehindItems, in_program, in_group, module_body}
use Rattle.scad_grammar.specs.Behind.{child_of, held_child, other_child, BehindParameters}
use Rattle.scad_grammar.specs.Behind.{in_vector}
use Rattle.scad_grammar.specs.State.{State, want_expression, have_expression, want_unary, have_operand, have_name}
use Rattle.scad_grammar.specs.State.{have_post, want_member, have_links, want_arguments, in_arguments, have_word}
use Rattle.scad_grammar.specs.State.{after_argument, have_arguments, want_element, have_element, want_test}
use Rattle.scad_grammar.specs.State.{in_elements, after_one, have_elements, want_statement, have_items, have_start}
use Rattle.scad_grammar.specs.State.{want_marked, want_choice, want_child, want_defined, want_parameters}
use Rattle.scad_grammar.specs.State.{in_parameters, have_parameter, after_parameter, have_parameters, want_assign}
use Rattle.scad_grammar.specs.Move.{Move, go, left_out, stuck}
use Rattle.scad_grammar.specs.StatementSteps.{callee, call_step, marked_step, first_step, definition_step, start_step}
use Rattle.scad_grammar.specs.StatementSteps.{statement_step, word_statement, child_step, after_items, defined_name}
use Rattle.scad_grammar.specs.StatementSteps.{parameter_step, parameters_step}
use Rattle.scad_grammar.specs.Machine.{step, reach}
use Rattle.scad_grammar.proofs.reader.Prefix.{reach_by, by_reach}
use Rattle.scad_grammar.proofs.nesting.Real.{IsReal, GoesReal, either, unary_real, expression_real, element_real}
use Rattle.scad_grammar.proofs.nesting.Real.{end_arguments_real, after_argument_real, arguments_real}
use Rattle.scad_grammar.proofs.nesting.Real.{end_parameters_real, after_parameter_real, after_one_real}
use Rattle.scad_grammar.proofs.nesting.Real.{after_element_real, after_expression_real, link_real, after_operand_real}
use Rattle.scad_grammar.proofs.nesting.Real.{post_real, name_real, word_argument_real, member_name_real}
use Rattle.std.proofs.lemmas.Option.{same_Some, none-some}

call_real : (t : Token) (o : Option (List ℕ)) (m : Marks) (a : Items) (k : BehindItems) →
    GoesReal (call_step t o m a k)
call_real t (Some w) m a k = tt
call_real t None m a k = tt

marked_real : (t : Token) (m : Marks) (a : Items) (k : BehindItems) → GoesReal (marked_step t m a k)
unfolding marked_step
marked_real t m a k =
    either (is_sign Star t) _ _ tt (either (is_sign Percent t) _ _ tt (either (is_sign Hash t) _ _ tt
    (either (is_sign Bang t) _ _ tt (either (is_key If t) _ _ tt (call_real t (callee t) m a k)))))

first_real : (t : Token) (a : Items) (k : BehindItems) → GoesReal (first_step t a k)
unfolding first_step
first_real t a k = either (is_key Include t) _ _ tt (either (is_key Use t) _ _ tt (marked_real t _ a k))

definition_real : (d : Bool) (t : Token) (a : Items) (k : BehindItems) → GoesReal (definition_step d t a k)
unfolding definition_step
definition_real false t a k = first_real t a k
definition_real true t a k = either (is_key Module t) _ _ tt (either (is_key Function t) _ _ tt (first_real t a k))

start_real : (d : Bool) (t : Token) (o : Option (List ℕ)) (a : Items) (k : BehindItems) →
    GoesReal (start_step d t o a k)
start_real d t (Some w) a k = tt
start_real d t None a k = definition_real d t a k

statement_real : (d : Bool) (t : Token) (a : Items) (k : BehindItems) → GoesReal (statement_step d t a k)
unfolding statement_step
statement_real d t a k =
    either (is_sign Semicolon t) _ _ tt (either (is_sign OpenCurly t) _ _ tt (start_real d t (word_of t) a k))

word_statement_real : (at : Place) (w : List ℕ) (a : Items) (k : BehindItems) (t : Token) →
    GoesReal (word_statement at w a k t)
unfolding word_statement
word_statement_real at w a k t = either (is_sign Assign t) _ _ tt (either (is_sign OpenRound t) _ _ tt tt)

child_real : (t : Token) (k : BehindItems) → GoesReal (child_step t k)
unfolding child_step
child_real t k = either (is_sign Semicolon t) _ _ tt (either (is_sign OpenCurly t) _ _ tt (first_real t _ k))

after_items_real : (a : Items) (k : BehindItems) (t : Token) → GoesReal (after_items a k t)
unfolding after_items
after_items_real a in_program t = statement_real true t a in_program
after_items_real a (in_group d k) t = either (is_sign CloseCurly t) _ _ tt (statement_real d t a (in_group d k))
after_items_real a (module_body at w all outer k) t = after_items_real _ k t
after_items_real a (child_of at m w all outer k) t = after_items_real _ k t
after_items_real a (held_child at m e outer k) t = either (is_key Else t) _ _ tt (after_items_real _ k t)
after_items_real a (other_child at m e held outer k) t = after_items_real _ k t

defined_real : (what : Defined) (at : Place) (o : Option (List ℕ)) (a : Items) (k : BehindItems) →
    GoesReal (defined_name what at o a k)
defined_real what at (Some w) a k = tt
defined_real what at None a k = tt

parameter_real : (o : Option (List ℕ)) (all : List Parameter) (k : BehindParameters) →
    GoesReal (parameter_step o all k)
parameter_real (Some w) all k = tt
parameter_real None all k = tt

parameters_real : (t : Token) (all : List Parameter) (k : BehindParameters) → GoesReal (parameters_step t all k)
unfolding parameters_step
parameters_real t all k =
    either (is_sign CloseRound t) _ _ (end_parameters_real all k t) (parameter_real (word_of t) all k)

step_real : (s : State) (t : Token) → GoesReal (step s t)
unfolding step
step_real (want_expression k) t = expression_real t k
step_real (have_expression e k) t = after_expression_real e k t
step_real (want_unary k) t = unary_real t k
step_real (have_operand e k) t = after_operand_real e k t
step_real (have_name at w k) t = name_real at w k t
step_real (have_post count e k) t = post_real count e k t
step_real (want_member at e count k) t = member_name_real at e count k (word_of t)
step_real (have_links n count e k) t = link_real n count e k t (operator n t) _ (after_operand_real e k t)
step_real (want_arguments k) t = either (is_sign OpenRound t) _ _ tt tt
step_real (in_arguments all k) t = arguments_real t all k
step_real (have_word at w all k) t = word_argument_real at w all k t
step_real (after_argument all k) t = after_argument_real all k t
step_real (have_arguments all k) t = end_arguments_real all k t
step_real (want_element k) t = element_real t k
step_real (have_element el k) t = after_element_real el k t
step_real (want_test at k) t = either (is_sign OpenRound t) _ _ tt tt
step_real (in_elements at all k) t = either (is_sign CloseSquare t) _ _ tt (element_real t (in_vector at all k))
step_real (after_one at all k) t = after_one_real at all k t
step_real (have_elements at all k) t = either (is_sign CloseSquare t) _ _ tt tt
step_real (want_statement d a k) t = statement_real d t a k
step_real (have_items a k) t = after_items_real a k t
step_real (have_start d at w a k) t = word_statement_real at w a k t
step_real (want_marked m a k) t = marked_real t m a k
step_real (want_choice at m a k) t = either (is_sign OpenRound t) _ _ tt tt
step_real (want_child k) t = child_real t k
step_real (want_defined what at a k) t = defined_real what at (word_of t) a k
step_real (want_parameters k) t = either (is_sign OpenRound t) _ _ tt tt
step_real (in_parameters all k) t = parameters_real t all k
step_real (have_parameter w all k) t = either (is_sign Assign t) _ _ tt (after_parameter_real _ k t)
step_real (after_parameter all k) t = after_parameter_real all k t
step_real (have_parameters all k) t = end_parameters_real all k t
step_real (want_assign at w all a k) t = either (is_sign Assign t) _ _ tt tt

-- so what is reached from where a reader may stand is such a place
pub reached_real : (ts : List Token) (s reached : State) → IsReal s → reach s ts ≡ Some reached → IsReal reached
unfolding reach
reached_real [] s reached real e = subst IsReal (same_Some s reached e) real
reached_real (t ∷ ts) s reached real e =
    by_move (step s t) (step_real s t) (sym (by_reach s t ts) ∙ e) (λ next. reached_real ts next reached)
  where
    by_move : (m : Move) → GoesReal m → reach_by m ts ≡ Some reached →
        ((next : State) → IsReal next → reach next ts ≡ Some reached → IsReal reached) → IsReal reached
    by_move (go next) h f go_on = go_on next h f
    by_move (left_out w) h f go_on = absurd (none-some _ f)
    by_move stuck h f go_on = absurd (none-some _ f)
