-- Where a part has ended and no token goes on with it, what is open behind it is kept.
use Rattle.std.proofs.Common.{◌≡◌, ℕ, ◌+◌, Bool, true, false, if◌then◌else◌, List, [], ◌∷◌, Option, Some, None, refl}
use Rattle.std.proofs.Common.{ap, sym, ◌∙◌, arith}
use Rattle.std.proofs.lemmas.Bool.{cond-false, cond-true}
use Rattle.scad_fault.specs.declared.place.Place.{Place}
use Rattle.scad_lex.specs.declared.token.Token.{Token}
use Rattle.scad_lex.specs.declared.token.Sign.TheVariants.{OpenRound, OpenSquare, CloseSquare, Comma, Question}
use Rattle.scad_lex.specs.declared.token.Sign.TheVariants.{Assign, Dot, Caret}
use Rattle.scad_lex.specs.declared.token.Key.TheVariants.{Else}
use Rattle.scad_ast.specs.Tree.{Expression, name, vector, Arguments, Element, if_element, Parameter, Items, no_items}
use Rattle.scad_ast.specs.Tree.{choice, Elements}
use Rattle.scad_ast.specs.declared.operator.BinOp.{BinOp}
use Rattle.scad_grammar.specs.Tokens.{sign, begins_with, begins_with_key, first_operator}
use Rattle.scad_grammar.specs.Lists.{with_parameter, with_statement, with_element, Marks}
use Rattle.scad_grammar.specs.Grammar.{at_end_of_arguments, MoreElems, last_elem, comma_elem}
use Rattle.scad_grammar.specs.Behind.{BehindItems, held_child, BehindOperand, tested, BehindExpression, argument_of}
use Rattle.scad_grammar.specs.Behind.{BehindElement, held_element, in_vector, BehindArguments, BehindParameters}
use Rattle.scad_grammar.specs.Behind.{open_arguments, open_operand}
use Rattle.scad_grammar.specs.State.{have_expression, have_operand, have_name, have_post, have_links, in_elements}
use Rattle.scad_grammar.specs.State.{in_arguments, have_word, after_argument, have_arguments, have_element, after_one}
use Rattle.scad_grammar.specs.State.{have_items, have_parameter, after_parameter, opened}
use Rattle.scad_grammar.specs.Steps.{link_step, name_step, word_argument, post_step, after_operand, tested_step}
use Rattle.scad_grammar.specs.Steps.{arguments_step, after_argument_step, after_element, member_step, after_one_step}
use Rattle.scad_grammar.specs.StatementSteps.{after_items}
use Rattle.scad_grammar.specs.Move.{go}
use Rattle.scad_grammar.specs.Machine.{step}
use Rattle.scad_grammar.proofs.reader.Runs.{ending_is_no_comma}
use Rattle.scad_grammar.proofs.nesting.OpenRest.{kept, kept_link, kept_operand}
use Rattle.scad_grammar.proofs.nesting.Places.{Alike, FirstAlike, by_first}

pub ended_links : (n count : ℕ) (a : Expression) (k : BehindOperand) (ts : List Token) → first_operator n ts ≡ None →
    Alike (have_links n count a k) (have_operand a k) ts
unfolding step
ended_links n count a k ts h =
    by_first (have_links n count a k) (have_operand a k) ts (first ts h)
    (ap (λ (o : Option BinOp). kept_link o (count + open_operand k) (kept_operand k ts)) h)
  where
    first : (ts : List Token) → first_operator n ts ≡ None → FirstAlike (have_links n count a k) (have_operand a k) ts
    first [] h = tt
    first (t ∷ ts) h = ap (λ (o : Option BinOp). link_step n count a k t o (after_operand a k t)) h

pub ended_test : (a : Expression) (k : BehindExpression) (ts : List Token) → begins_with Question ts ≡ false →
    Alike (have_operand a (tested k)) (have_expression a k) ts
unfolding step after_operand tested_step
ended_test a k ts h = by_first (have_operand a (tested k)) (have_expression a k) ts (first ts h) (cond-false _ _ _ h)
  where
    first : (ts : List Token) → begins_with Question ts ≡ false →
        FirstAlike (have_operand a (tested k)) (have_expression a k) ts
    first [] h = tt
    first (t ∷ ts) h = cond-false _ _ _ h

pub ended_posts : (count : ℕ) (a : Expression) (k : BehindOperand) (ts : List Token) →
    begins_with OpenSquare ts ≡ false → begins_with Dot ts ≡ false → begins_with Caret ts ≡ false →
    Alike (have_post count a k) (have_operand a k) ts
unfolding step post_step
ended_posts count a k ts h₁ h₂ h₃ =
    by_first (have_post count a k) (have_operand a k) ts (first ts h₁ h₂ h₃)
    (cond-false _ _ _ h₁ ∙ (cond-false _ _ _ h₂ ∙ cond-false _ _ _ h₃))
  where
    first : (ts : List Token) → begins_with OpenSquare ts ≡ false → begins_with Dot ts ≡ false →
        begins_with Caret ts ≡ false →
        FirstAlike (have_post count a k) (have_operand a k) ts
    first [] h₁ h₂ h₃ = tt
    first (t ∷ ts) h₁ h₂ h₃ = cond-false _ _ _ h₁ ∙ (cond-false _ _ _ h₂ ∙ cond-false _ _ _ h₃)

pub ended_name : (at : Place) (w : List ℕ) (k : BehindOperand) (ts : List Token) → begins_with OpenRound ts ≡ false →
    Alike (have_name at w k) (have_post 0 (name at w) k) ts
unfolding step name_step
ended_name at w k ts h = by_first (have_name at w k) (have_post 0 (name at w) k) ts (first ts h) (cond-false _ _ _ h)
  where
    first : (ts : List Token) → begins_with OpenRound ts ≡ false →
        FirstAlike (have_name at w k) (have_post 0 (name at w) k) ts
    first [] h = tt
    first (t ∷ ts) h = cond-false _ _ _ h

-- whatever comes behind the first operand of an argument, the argument is open
same_link : (o : Option BinOp) (x y n : ℕ) → x ≡ n → y ≡ n → kept_link o x y ≡ n
same_link (Some op) x y n h g = h
same_link None x y n h g = g

same_choice : (b : Bool) (x y n : ℕ) → x ≡ n → y ≡ n → (if b then x else y) ≡ n
same_choice true x y n h g = h
same_choice false x y n h g = g

argument_kept : (all : Arguments) (k : BehindArguments) (ts : List Token) →
    kept_operand (opened 6 (tested (argument_of None all k))) ts ≡ 1 + open_arguments k
argument_kept all k ts =
    same_link (first_operator 0 ts) _ _ _ (omega arith) (same_link (first_operator 1 ts) _ _ _ (omega arith)
    (same_link (first_operator 2 ts) _ _ _ (omega arith) (same_link (first_operator 3 ts) _ _ _ (omega arith)
    (same_link (first_operator 4 ts) _ _ _ (omega arith) (same_link (first_operator 5 ts) _ _ _ (omega arith)
    (same_choice (begins_with Question ts) _ _ _ refl refl))))))

name_kept : (at : Place) (w : List ℕ) (all : Arguments) (k : BehindArguments) (ts : List Token) →
    kept (have_name at w (opened 6 (tested (argument_of None all k)))) ts ≡ 1 + open_arguments k
name_kept at w all k ts =
    same_choice (begins_with OpenRound ts) _ _ _ refl (same_choice (begins_with OpenSquare ts) _ _ _ (omega arith)
    (same_choice (begins_with Dot ts) _ _ _ (omega arith) (same_choice (begins_with Caret ts) _ _ _ (omega arith)
    (argument_kept all k ts))))

-- a WORD that begins an unnamed argument
pub ended_word : (at : Place) (w : List ℕ) (all : Arguments) (k : BehindArguments) (ts : List Token) →
    begins_with Assign ts ≡ false →
    Alike (have_word at w all k) (have_name at w (opened 6 (tested (argument_of None all k)))) ts
unfolding step word_argument
ended_word at w all k ts h =
    by_first (have_word at w all k) (have_name at w (opened 6 (tested (argument_of None all k)))) ts (first ts h)
    (sym (name_kept at w all k ts))
  where
    first : (ts : List Token) → begins_with Assign ts ≡ false →
        FirstAlike (have_word at w all k) (have_name at w (opened 6 (tested (argument_of None all k)))) ts
    first [] h = tt
    first (t ∷ ts) h = cond-false _ _ _ h

pub ended_arguments : (all : Arguments) (k : BehindArguments) (ts : List Token) → at_end_of_arguments ts ≡ true →
    Alike (in_arguments all k) (have_arguments all k) ts
unfolding step arguments_step
ended_arguments all k ts h = by_first (in_arguments all k) (have_arguments all k) ts (first ts h) refl
  where
    first : (ts : List Token) → at_end_of_arguments ts ≡ true →
        FirstAlike (in_arguments all k) (have_arguments all k) ts
    first [] h = tt
    first (t ∷ ts) h = cond-true _ _ _ h

pub ended_argument : (all : Arguments) (k : BehindArguments) (ts : List Token) → at_end_of_arguments ts ≡ true →
    Alike (after_argument all k) (have_arguments all k) ts
unfolding step after_argument_step
ended_argument all k ts h = by_first (after_argument all k) (have_arguments all k) ts (first ts h) refl
  where
    first : (ts : List Token) → at_end_of_arguments ts ≡ true →
        FirstAlike (after_argument all k) (have_arguments all k) ts
    first [] h = tt
    first (t ∷ ts) h = cond-false _ _ _ (ending_is_no_comma t.kind h)

pub ended_if : (at : Place) (e : Expression) (held : Element) (k : BehindElement) (ts : List Token) →
    begins_with_key Else ts ≡ false →
    Alike (have_element held (held_element at e k)) (have_element (if_element at e held) k) ts
unfolding step after_element
ended_if at e held k ts h =
    by_first (have_element held (held_element at e k)) (have_element (if_element at e held) k) ts (first ts h)
    (cond-false _ _ _ h)
  where
    first : (ts : List Token) → begins_with_key Else ts ≡ false →
        FirstAlike (have_element held (held_element at e k)) (have_element (if_element at e held) k) ts
    first [] h = tt
    first (t ∷ ts) h = cond-false _ _ _ h

pub ended_parameter : (w : List ℕ) (all : List Parameter) (k : BehindParameters) (ts : List Token) →
    begins_with Assign ts ≡ false →
    Alike (have_parameter w all k) (after_parameter (with_parameter all w None) k) ts
unfolding step
ended_parameter w all k ts h =
    by_first (have_parameter w all k) (after_parameter (with_parameter all w None) k) ts (first ts h) refl
  where
    first : (ts : List Token) → begins_with Assign ts ≡ false →
        FirstAlike (have_parameter w all k) (after_parameter (with_parameter all w None) k) ts
    first [] h = tt
    first (t ∷ ts) h = cond-false _ _ _ h

pub ended_choice : (at : Place) (m : Marks) (e : Expression) (a outer : Items) (k : BehindItems) (ts : List Token) →
    begins_with_key Else ts ≡ false →
    Alike (have_items a (held_child at m e outer k))
    (have_items (with_statement m outer (choice at m.percent m.hash e a no_items)) k) ts
unfolding step after_items
ended_choice at m e a outer k ts h =
    by_first (have_items a (held_child at m e outer k))
    (have_items (with_statement m outer (choice at m.percent m.hash e a no_items)) k) ts (first ts h)
    (cond-false _ _ _ h)
  where
    first : (ts : List Token) → begins_with_key Else ts ≡ false →
        FirstAlike (have_items a (held_child at m e outer k))
        (have_items (with_statement m outer (choice at m.percent m.hash e a no_items)) k) ts
    first [] h = tt
    first (t ∷ ts) h = cond-false _ _ _ h

-- a further element, or the end of the elements
pub ended_element : {a all : Elements} {ts us : List Token} → MoreElems a ts us all →
    (so_far : Elements) (el : Element) →
    a ≡ with_element so_far el → (at : Place) (k : BehindOperand) →
    Alike (have_element el (in_vector at so_far k)) (after_one at a k) ts
unfolding step after_element member_step after_one_step
ended_element (last_elem {q = q} {all = a} {ts = ts}) so_far el h at k =
    by_first (have_element el (in_vector at so_far k)) (after_one at a k) (sign CloseSquare q ∷ ts)
    (ap (λ (x : Elements). go (have_post 0 (vector at x) k)) (sym h)) refl
ended_element (comma_elem {p = p} {a = a} {ts = ts} d) so_far el h at k =
    by_first (have_element el (in_vector at so_far k)) (after_one at a k) (sign Comma p ∷ ts)
    (ap (λ (x : Elements). go (in_elements at x k)) (sym h)) refl
