-- Runs from states at which each token does the same, and where a part that could go on has ended.
use Rattle.std.proofs.Common.{◌≡◌, ℕ, suc, true, false, List, [], ◌∷◌, Option, Some, None, refl, ap, ◌∙◌, sym}
use Rattle.std.proofs.lemmas.Bool.{cond-false, cond-true}
use Rattle.scad_fault.specs.declared.place.Place.{Place}
use Rattle.scad_lex.specs.declared.token.Token.{Token}
use Rattle.scad_lex.specs.declared.token.Sign.TheVariants.{OpenRound, OpenSquare, Question, Assign, Caret, Dot}
use Rattle.scad_lex.specs.declared.token.Key.TheVariants.{Else}
use Rattle.scad_ast.specs.Tree.{Expression, name, Arguments, Element, if_element, Parameter}
use Rattle.scad_grammar.specs.Tokens.{begins_with, begins_with_key, first_operator}
use Rattle.scad_grammar.specs.Lists.{with_parameter}
use Rattle.scad_lex.specs.declared.token.TokenKind.{TokenKind}
use Rattle.scad_lex.specs.declared.token.TokenKind.TheVariants.{Sign}
use Rattle.scad_lex.specs.declared.token.Sign.TheVariants.{CloseRound, Semicolon, Comma}
use Rattle.scad_ast.specs.declared.operator.BinOp.{BinOp}
use Rattle.scad_grammar.specs.Tokens.{is_sign_kind, operator}
use Rattle.scad_grammar.specs.Grammar.{at_end_of_arguments, ends_arguments_kind}
use Rattle.scad_grammar.specs.Behind.{BehindOperand, right_of, tested, BehindExpression, argument_of, BehindArguments}
use Rattle.scad_grammar.specs.Behind.{BehindElement, held_element, BehindParameters}
use Rattle.scad_ast.specs.Tree.{Items}
use Rattle.scad_grammar.specs.Move.{Move, go, left_out, stuck}
use Rattle.scad_grammar.specs.State.{State, want_operand, have_operand, have_expression, have_name, have_post}
use Rattle.scad_grammar.specs.State.{have_links, have_word, opened, in_arguments, have_arguments, after_argument}
use Rattle.scad_grammar.specs.State.{have_element, have_parameter, after_parameter}
use Rattle.scad_grammar.specs.Steps.{link_step, name_step, word_argument, post_step, after_operand, tested_step}
use Rattle.scad_grammar.specs.Steps.{arguments_step, after_argument_step, after_element}
use Rattle.scad_grammar.specs.Machine.{step, finish, run}

-- what a run gives behind a move
abbrev pub follow : Move → List Token → Option Items
follow (go next) ts = run next ts
follow (left_out w) ts = None
follow stuck ts = None

pub by_move : (s : State) (t : Token) (ts : List Token) → run s (t ∷ ts) ≡ follow (step s t) ts
unfolding run
by_move s t ts = go_by (step s t)
  where
    go_by : (m : Move) → elim m as (λ x. Option Items) [
      | go next ↦ run next ts
      | left_out w ↦ None
      | stuck
          ↦ None
    ] ≡ follow m ts
    go_by (go next) = refl
    go_by (left_out w) = refl
    go_by stuck = refl

pub same_step : (s s' : State) (t : Token) (ts : List Token) → step s t ≡ step s' t → run s (t ∷ ts) ≡ run s' (t ∷ ts)
same_step s s' t ts h = by_move s t ts ∙ (ap (λ m. follow m ts) h ∙ sym (by_move s' t ts))

-- states at which each token does the same have the same runs
pub settle : (s s' : State) → ((t : Token) → step s t ≡ step s' t) → finish s ≡ finish s' → (ts : List Token) →
    run s ts ≡ run s' ts
unfolding run
settle s s' same end [] = end
settle s s' same end (t ∷ ts) = same_step s s' t ts (same t)

pub ended_links : (n count : ℕ) (a : Expression) (k : BehindOperand) (ts : List Token) →
    first_operator n ts ≡ None → run (have_links n count a k) ts ≡ run (have_operand a k) ts
unfolding run step finish
ended_links n count a k [] h = refl
ended_links n count a k (t ∷ ts) h =
    same_step (have_links n count a k) (have_operand a k) t ts
    (ap (λ o. link_step n count a k t o (after_operand a k t)) h)

-- an operator that goes on with a line
pub linked : (n count : ℕ) (op : BinOp) (a : Expression) (k : BehindOperand) (t : Token) (ts : List Token) →
    operator n t ≡ Some op →
    run (have_links n count a k) (t ∷ ts) ≡ run (want_operand n (right_of n (suc count) a op t.at k)) ts
unfolding step
linked n count op a k t ts h =
    by_move (have_links n count a k) t ts ∙ ap (λ o. follow (link_step n count a k t o (after_operand a k t)) ts) h

pub ended_test : (a : Expression) (k : BehindExpression) (ts : List Token) →
    begins_with Question ts ≡ false → run (have_operand a (tested k)) ts ≡ run (have_expression a k) ts
unfolding run step finish after_operand tested_step
ended_test a k [] h = refl
ended_test a k (t ∷ ts) h = same_step (have_operand a (tested k)) (have_expression a k) t ts (cond-false _ _ _ h)

pub ended_posts : (count : ℕ) (a : Expression) (k : BehindOperand) (ts : List Token) →
    begins_with OpenSquare ts ≡ false → begins_with Dot ts ≡ false → begins_with Caret ts ≡ false →
    run (have_post count a k) ts ≡ run (have_operand a k) ts
unfolding run step finish post_step
ended_posts count a k [] h₁ h₂ h₃ = refl
ended_posts count a k (t ∷ ts) h₁ h₂ h₃ =
    same_step (have_post count a k) (have_operand a k) t ts
    (cond-false _ _ _ h₁ ∙ (cond-false _ _ _ h₂ ∙ cond-false _ _ _ h₃))

pub ended_name : (at : Place) (w : List ℕ) (k : BehindOperand) (ts : List Token) →
    begins_with OpenRound ts ≡ false → run (have_name at w k) ts ≡ run (have_post 0 (name at w) k) ts
unfolding run step finish name_step
ended_name at w k [] h = refl
ended_name at w k (t ∷ ts) h = same_step (have_name at w k) (have_post 0 (name at w) k) t ts (cond-false _ _ _ h)

-- a WORD that begins an unnamed argument
pub ended_word : (at : Place) (w : List ℕ) (all : Arguments) (k : BehindArguments) (ts : List Token) →
    begins_with Assign ts ≡ false →
    run (have_word at w all k) ts ≡ run (have_name at w (opened 6 (tested (argument_of None all k)))) ts
unfolding run step finish word_argument
ended_word at w all k [] h = refl
ended_word at w all k (t ∷ ts) h =
    same_step (have_word at w all k) (have_name at w (opened 6 (tested (argument_of None all k)))) t ts
    (cond-false _ _ _ h)

pub ended_arguments : (all : Arguments) (k : BehindArguments) (ts : List Token) →
    at_end_of_arguments ts ≡ true → run (in_arguments all k) ts ≡ run (have_arguments all k) ts
unfolding run step finish arguments_step
ended_arguments all k [] h = refl
ended_arguments all k (t ∷ ts) h = same_step (in_arguments all k) (have_arguments all k) t ts (cond-true _ _ _ h)

pub ending_is_no_comma : (kind : TokenKind) → ends_arguments_kind kind ≡ true → is_sign_kind Comma kind ≡ false
ending_is_no_comma (Sign CloseRound) h = refl
ending_is_no_comma (Sign Semicolon) h = refl
ending_is_no_comma (Sign Comma) h = sym h
ending_is_no_comma (Sign _) h = refl
ending_is_no_comma _ h = refl

pub ended_argument : (all : Arguments) (k : BehindArguments) (ts : List Token) →
    at_end_of_arguments ts ≡ true → run (after_argument all k) ts ≡ run (have_arguments all k) ts
unfolding run step finish after_argument_step
ended_argument all k [] h = refl
ended_argument all k (t ∷ ts) h =
    same_step (after_argument all k) (have_arguments all k) t ts (cond-false _ _ _ (ending_is_no_comma t.kind h))

pub ended_if : (at : Place) (e : Expression) (held : Element) (k : BehindElement) (ts : List Token) →
    begins_with_key Else ts ≡ false →
    run (have_element held (held_element at e k)) ts ≡ run (have_element (if_element at e held) k) ts
unfolding run step finish after_element
ended_if at e held k [] h = refl
ended_if at e held k (t ∷ ts) h =
    same_step (have_element held (held_element at e k)) (have_element (if_element at e held) k) t ts
    (cond-false _ _ _ h)

pub ended_parameter : (w : List ℕ) (all : List Parameter) (k : BehindParameters) (ts : List Token) →
    begins_with Assign ts ≡ false →
    run (have_parameter w all k) ts ≡ run (after_parameter (with_parameter all w None) k) ts
unfolding run step finish
ended_parameter w all k [] h = refl
ended_parameter w all k (t ∷ ts) h =
    same_step (have_parameter w all k) (after_parameter (with_parameter all w None) k) t ts (cond-false _ _ _ h)
