-- Where a form that is left out is met, the token that stands for its place may stand; and the other way round.
use Rattle.std.proofs.Common.{◌≡◌, ℕ, true, false, List, None, refl, codes}
use Rattle.scad_fault.specs.declared.place.Place.{Place}
use Rattle.scad_lex.specs.declared.token.Token.{Token}
use Rattle.scad_lex.specs.declared.token.Sign.TheVariants.{OpenCurly, Bang, Caret, Hash, Dot}
use Rattle.scad_lex.specs.declared.token.Key.TheVariants.{Function, Echo, Include, Use}
use Rattle.scad_ast.specs.Tree.{name}
use Rattle.scad_grammar.specs.Tokens.{sign, key}
use Rattle.scad_grammar.specs.Lists.{with_parameter}
use Rattle.scad_grammar.specs.Behind.{tested, argument_of}
use Rattle.scad_grammar.specs.State.{State, want_expression, have_expression, want_unary, have_operand, have_name}
use Rattle.scad_grammar.specs.State.{have_post, want_member, have_links, want_arguments, in_arguments, have_word}
use Rattle.scad_grammar.specs.State.{after_argument, have_arguments, want_element, have_element, want_test}
use Rattle.scad_grammar.specs.State.{in_elements, after_one, have_elements, want_statement, have_items, have_start}
use Rattle.scad_grammar.specs.State.{want_marked, want_choice, want_child, want_defined, want_parameters}
use Rattle.scad_grammar.specs.State.{in_parameters, have_parameter, after_parameter, have_parameters, want_assign}
use Rattle.scad_grammar.specs.State.{opened}
use Rattle.scad_grammar.specs.Steps.{prim_step, unary_step, expression_step, element_step, arguments_step}
use Rattle.scad_grammar.specs.Steps.{after_one_step, after_operand, post_step, name_step, word_argument}
use Rattle.scad_grammar.specs.StatementSteps.{marked_step, first_step, definition_step, statement_step}
use Rattle.scad_grammar.specs.StatementSteps.{word_statement, child_step, parameters_step}
use Rattle.scad_grammar.specs.Machine.{step}
use Rattle.scad_grammar.proofs.faults.Foreign.{foreign_include, foreign_use, foreign_curly, foreign_bang}
use Rattle.scad_grammar.proofs.faults.Foreign.{foreign_hash, foreign_caret, foreign_dot, foreign_function}
use Rattle.scad_grammar.proofs.faults.Foreign.{foreign_echo, stuck_end_arguments, stuck_argument}
use Rattle.scad_grammar.proofs.faults.Foreign.{stuck_end_parameters, stuck_parameter, stuck_element, stuck_expression}
use Rattle.scad_grammar.proofs.faults.Foreign.{stuck_link, stuck_operand}
use Rattle.scad_grammar.proofs.faults.Pairs.{Pair, pair_first, pair_second, left_part, told, told_only, both_stuck}
use Rattle.scad_grammar.proofs.faults.Pairs.{stuck_function, items_pair, items_function, pair_include, pair_use}
use Rattle.scad_grammar.proofs.faults.Pairs.{pair_mark, pair_operator}

-- at this state a form is left out exactly where the token for its place may stand
abbrev Paired : State → Token → Token → List ℕ → Type 0
Paired s t u w = left_part (step s t) ≡ told (step s u) w

-- so it is for each form
each_pair : (s : State) → ((at : Place) → Paired s (key Include at) (sign OpenCurly at) (codes "include"))
    → ((at : Place) → Paired s (key Use at) (sign OpenCurly at) (codes "use"))
    → ((at : Place) → Paired s (sign Bang at) (sign Hash at) (codes "!"))
    → ((at : Place) → Paired s (sign Caret at) (sign Dot at) (codes "^"))
    → {t u : Token} {w : List ℕ} → Pair t u w → Paired s t u w
each_pair s a b c d (pair_include {at = q}) = a q
each_pair s a b c d (pair_use {at = q}) = b q
each_pair s a b c d (pair_mark {at = q}) = c q
each_pair s a b c d (pair_operator {at = q}) = d q

-- a form is left out exactly where the token for its place may stand
pub paired : (s : State) {t u : Token} {w : List ℕ} → Pair t u w → left_part (step s t) ≡ told (step s u) w
unfolding step prim_step unary_step expression_step element_step arguments_step after_one_step post_step
    name_step word_argument marked_step first_step definition_step statement_step word_statement child_step
    parameters_step
paired (have_expression e k) {w = w} c =
    both_stuck w (stuck_expression e k (pair_first c)) (stuck_expression e k (pair_second c))
paired (have_operand e k) {w = w} c =
    both_stuck w (stuck_operand e k (pair_first c)) (stuck_operand e k (pair_second c))
paired (after_argument all k) {w = w} c =
    both_stuck w (stuck_argument all k (pair_first c)) (stuck_argument all k (pair_second c))
paired (have_arguments all k) {w = w} c =
    both_stuck w (stuck_end_arguments all k (pair_first c)) (stuck_end_arguments all k (pair_second c))
paired (have_element el k) {w = w} c =
    both_stuck w (stuck_element el k (pair_first c)) (stuck_element el k (pair_second c))
paired (after_parameter all k) {w = w} c =
    both_stuck w (stuck_parameter all k (pair_first c)) (stuck_parameter all k (pair_second c))
paired (have_parameters all k) {w = w} c =
    both_stuck w (stuck_end_parameters all k (pair_first c)) (stuck_end_parameters all k (pair_second c))
paired (have_links n count e k) {t = t} {u = u} {w = w} c =
    both_stuck w (stuck_link n count e k (after_operand e k t) (pair_first c) (stuck_operand e k (pair_first c)))
    (stuck_link n count e k (after_operand e k u) (pair_second c) (stuck_operand e k (pair_second c)))
paired (have_post count e k) pair_include =
    both_stuck (codes "include") (stuck_operand e k foreign_include) (stuck_operand e k foreign_curly)
paired (have_name at n k) pair_include =
    both_stuck (codes "include") (stuck_operand (name at n) k foreign_include)
    (stuck_operand (name at n) k foreign_curly)
paired (have_word at n all k) pair_include =
    both_stuck (codes "include")
    (stuck_operand (name at n) (opened 6 (tested (argument_of None all k))) foreign_include)
    (stuck_operand (name at n) (opened 6 (tested (argument_of None all k))) foreign_curly)
paired (have_parameter n all k) pair_include =
    both_stuck (codes "include") (stuck_parameter (with_parameter all n None) k foreign_include)
    (stuck_parameter (with_parameter all n None) k foreign_curly)
paired (have_post count e k) pair_use =
    both_stuck (codes "use") (stuck_operand e k foreign_use) (stuck_operand e k foreign_curly)
paired (have_name at n k) pair_use =
    both_stuck (codes "use") (stuck_operand (name at n) k foreign_use) (stuck_operand (name at n) k foreign_curly)
paired (have_word at n all k) pair_use =
    both_stuck (codes "use") (stuck_operand (name at n) (opened 6 (tested (argument_of None all k)))
    foreign_use) (stuck_operand (name at n) (opened 6 (tested (argument_of None all k))) foreign_curly)
paired (have_parameter n all k) pair_use =
    both_stuck (codes "use") (stuck_parameter (with_parameter all n None) k foreign_use)
    (stuck_parameter (with_parameter all n None) k foreign_curly)
paired (have_post count e k) pair_mark =
    both_stuck (codes "!") (stuck_operand e k foreign_bang) (stuck_operand e k foreign_hash)
paired (have_name at n k) pair_mark =
    both_stuck (codes "!") (stuck_operand (name at n) k foreign_bang) (stuck_operand (name at n) k foreign_hash)
paired (have_word at n all k) pair_mark =
    both_stuck (codes "!") (stuck_operand (name at n) (opened 6 (tested (argument_of None all k))) foreign_bang)
    (stuck_operand (name at n) (opened 6 (tested (argument_of None all k))) foreign_hash)
paired (have_parameter n all k) pair_mark =
    both_stuck (codes "!") (stuck_parameter (with_parameter all n None) k foreign_bang)
    (stuck_parameter (with_parameter all n None) k foreign_hash)
paired (have_post count e k) pair_operator = refl
paired (have_name at n k) pair_operator = refl
paired (have_word at n all k) pair_operator = refl
paired (have_parameter n all k) pair_operator =
    both_stuck (codes "^") (stuck_parameter (with_parameter all n None) k foreign_caret)
    (stuck_parameter (with_parameter all n None) k foreign_dot)
paired (have_items a k) c = items_pair a k c
paired (want_expression k) c = each_pair (want_expression k) (λ q. refl) (λ q. refl) (λ q. refl) (λ q. refl) c
paired (want_unary k) c = each_pair (want_unary k) (λ q. refl) (λ q. refl) (λ q. refl) (λ q. refl) c
paired (want_member at e count k) c =
    each_pair (want_member at e count k) (λ q. refl) (λ q. refl) (λ q. refl) (λ q. refl) c
paired (want_arguments k) c = each_pair (want_arguments k) (λ q. refl) (λ q. refl) (λ q. refl) (λ q. refl) c
paired (in_arguments all k) c = each_pair (in_arguments all k) (λ q. refl) (λ q. refl) (λ q. refl) (λ q. refl) c
paired (want_element k) c = each_pair (want_element k) (λ q. refl) (λ q. refl) (λ q. refl) (λ q. refl) c
paired (want_test at k) c = each_pair (want_test at k) (λ q. refl) (λ q. refl) (λ q. refl) (λ q. refl) c
paired (in_elements at all k) c = each_pair (in_elements at all k) (λ q. refl) (λ q. refl) (λ q. refl) (λ q. refl) c
paired (after_one at all k) c = each_pair (after_one at all k) (λ q. refl) (λ q. refl) (λ q. refl) (λ q. refl) c
paired (have_elements at all k) c =
    each_pair (have_elements at all k) (λ q. refl) (λ q. refl) (λ q. refl) (λ q. refl) c
paired (want_statement false a k) c =
    each_pair (want_statement false a k) (λ q. refl) (λ q. refl) (λ q. refl) (λ q. refl) c
paired (want_statement true a k) c =
    each_pair (want_statement true a k) (λ q. refl) (λ q. refl) (λ q. refl) (λ q. refl) c
paired (have_start d at n a k) c = each_pair (have_start d at n a k) (λ q. refl) (λ q. refl) (λ q. refl) (λ q. refl) c
paired (want_marked m a k) c = each_pair (want_marked m a k) (λ q. refl) (λ q. refl) (λ q. refl) (λ q. refl) c
paired (want_choice at m a k) c = each_pair (want_choice at m a k) (λ q. refl) (λ q. refl) (λ q. refl) (λ q. refl) c
paired (want_child k) c = each_pair (want_child k) (λ q. refl) (λ q. refl) (λ q. refl) (λ q. refl) c
paired (want_defined what at a k) c =
    each_pair (want_defined what at a k) (λ q. refl) (λ q. refl) (λ q. refl) (λ q. refl) c
paired (want_parameters k) c = each_pair (want_parameters k) (λ q. refl) (λ q. refl) (λ q. refl) (λ q. refl) c
paired (in_parameters all k) c = each_pair (in_parameters all k) (λ q. refl) (λ q. refl) (λ q. refl) (λ q. refl) c
paired (want_assign at n all a k) c =
    each_pair (want_assign at n all a k) (λ q. refl) (λ q. refl) (λ q. refl) (λ q. refl) c

pub paired_function : (s : State) (at : Place) →
    left_part (step s (key Function at)) ≡ told_only (step s (key Echo at)) (step s (sign Hash at)) (codes "function")
unfolding step prim_step unary_step expression_step element_step arguments_step after_one_step post_step
    name_step word_argument marked_step first_step definition_step statement_step word_statement child_step
    parameters_step
paired_function (have_expression e k) q =
    stuck_function (step (have_expression e k) (sign Hash q)) (codes "function")
    (stuck_expression e k foreign_function) (stuck_expression e k foreign_echo)
paired_function (have_operand e k) q =
    stuck_function (step (have_operand e k) (sign Hash q)) (codes "function")
    (stuck_operand e k foreign_function) (stuck_operand e k foreign_echo)
paired_function (after_argument all k) q =
    stuck_function (step (after_argument all k) (sign Hash q)) (codes "function")
    (stuck_argument all k foreign_function) (stuck_argument all k foreign_echo)
paired_function (have_arguments all k) q =
    stuck_function (step (have_arguments all k) (sign Hash q)) (codes "function")
    (stuck_end_arguments all k foreign_function) (stuck_end_arguments all k foreign_echo)
paired_function (have_element el k) q =
    stuck_function (step (have_element el k) (sign Hash q)) (codes "function")
    (stuck_element el k foreign_function) (stuck_element el k foreign_echo)
paired_function (after_parameter all k) q =
    stuck_function (step (after_parameter all k) (sign Hash q)) (codes "function")
    (stuck_parameter all k foreign_function) (stuck_parameter all k foreign_echo)
paired_function (have_parameters all k) q =
    stuck_function (step (have_parameters all k) (sign Hash q)) (codes "function")
    (stuck_end_parameters all k foreign_function) (stuck_end_parameters all k foreign_echo)
paired_function (have_links n count e k) q =
    stuck_function (step (have_links n count e k) (sign Hash q)) (codes "function")
    (stuck_link n count e k (after_operand e k (key Function q)) (foreign_function {at = q})
    (stuck_operand e k (foreign_function {at = q})))
    (stuck_link n count e k (after_operand e k (key Echo q)) (foreign_echo {at = q})
    (stuck_operand e k (foreign_echo {at = q})))
paired_function (have_post count e k) q =
    stuck_function (step (have_post count e k) (sign Hash q)) (codes "function")
    (stuck_operand e k foreign_function) (stuck_operand e k foreign_echo)
paired_function (have_name at n k) q =
    stuck_function (step (have_name at n k) (sign Hash q)) (codes "function")
    (stuck_operand (name at n) k foreign_function) (stuck_operand (name at n) k foreign_echo)
paired_function (have_word at n all k) q =
    stuck_function (step (have_word at n all k) (sign Hash q)) (codes "function")
    (stuck_operand (name at n) (opened 6 (tested (argument_of None all k))) foreign_function)
    (stuck_operand (name at n) (opened 6 (tested (argument_of None all k))) foreign_echo)
paired_function (have_parameter n all k) q =
    stuck_function (step (have_parameter n all k) (sign Hash q)) (codes "function")
    (stuck_parameter (with_parameter all n None) k foreign_function)
    (stuck_parameter (with_parameter all n None) k foreign_echo)
paired_function (have_items a k) q = items_function a k q
paired_function (want_expression k) q = refl
paired_function (want_unary k) q = refl
paired_function (want_member at e count k) q = refl
paired_function (want_arguments k) q = refl
paired_function (in_arguments all k) q = refl
paired_function (want_element k) q = refl
paired_function (want_test at k) q = refl
paired_function (in_elements at all k) q = refl
paired_function (after_one at all k) q = refl
paired_function (have_elements at all k) q = refl
paired_function (want_statement false a k) q = refl
paired_function (want_statement true a k) q = refl
paired_function (have_start d at n a k) q = refl
paired_function (want_marked m a k) q = refl
paired_function (want_choice at m a k) q = refl
paired_function (want_child k) q = refl
paired_function (want_defined what at a k) q = refl
paired_function (want_parameters k) q = refl
paired_function (in_parameters all k) q = refl
paired_function (want_assign at n all a k) q = refl
