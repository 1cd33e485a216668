-- What it is that rules give the reader's outcome, where so many constructs may open.
use Rattle.std.proofs.Common.{◌≡◌, ℕ, zero, suc, ◌+◌, ◌≤◌, List, Option, Some, None, Result, ◌∙◌, arith}
use Rattle.scad_fault.specs.declared.place.Place.{Place}
use Rattle.scad_lex.specs.declared.token.Token.{Token}
use Rattle.scad_lex.specs.declared.token.Sign.TheVariants.{OpenRound, CloseRound}
use Rattle.scad_ast.specs.Tree.{Expression, index, Arguments, no_arguments, no_elements, Element, Items}
use Rattle.scad_grammar.specs.Tokens.{is_sign}
use Rattle.scad_grammar.specs.Behind.{BehindOperand, BehindExpression, in_index, BehindElement, for_of, loop_of}
use Rattle.scad_grammar.specs.Behind.{held_element, BehindArguments, of_for, open_operand, open_expression}
use Rattle.scad_grammar.specs.Behind.{open_element, open_arguments}
use Rattle.scad_grammar.specs.State.{State, open_count, want_expression, have_expression, want_unary, want_operand}
use Rattle.scad_grammar.specs.State.{have_operand, have_links, have_post, want_arguments, in_arguments, in_elements}
use Rattle.scad_grammar.specs.State.{want_element, have_element}
use Rattle.scad_grammar.specs.Move.{go}
use Rattle.scad_grammar.specs.Steps.{only, end_arguments, after_expression}
use Rattle.scad_grammar.specs.Machine.{step, finish, Refusal, most_open, outcome}
use Rattle.scad_grammar.specs.Rules.{Read, Rules, Head, for_all, for_steps, deeper}
use Rattle.scad_grammar.proofs.rules.Turns.{follow, answered, goes, too_deep}

-- behind the head of a `for`
abbrev pub behind_head : Place → Head → BehindElement → BehindElement
behind_head at (for_all all) k = for_of at all k
behind_head at (for_steps starts e all) k = loop_of at starts e all k

pub record Linked (end : Place) (n : ℕ) (r : Rules) : Type 0 where
  pub expr : (ts : List Token) (k : BehindExpression) → open_expression k + n ≡ most_open →
      outcome (want_expression k) ts end ≡ follow (r.expr ts) (λ e us. outcome (have_expression e k) us end)
  pub operand : (line : ℕ) (ts : List Token) (k : BehindOperand) → open_operand k + n ≡ most_open →
      outcome (want_operand line k) ts end ≡ follow (r.operand line ts) (λ e us. outcome (have_operand e k) us end)
  pub links : (line count : ℕ) (a : Expression) (ts : List Token) (k : BehindOperand) →
      (count + open_operand k) + n ≡ most_open →
      outcome (have_links line count a k) ts end ≡ follow (r.links line a ts)
      (λ e us. outcome (have_operand e k) us end)
  pub unary_rule : (ts : List Token) (k : BehindOperand) → open_operand k + n ≡ most_open →
      outcome (want_unary k) ts end ≡ follow (r.unary_rule ts) (λ e us. outcome (have_operand e k) us end)
  pub posts : (count : ℕ) (e : Expression) (ts : List Token) (k : BehindOperand) →
      (count + open_operand k) + n ≡ most_open →
      outcome (have_post count e k) ts end ≡ follow (r.posts e ts) (λ x us. outcome (have_operand x k) us end)
  pub indexed : (at : Place) (e : Expression) (count : ℕ) (ts : List Token) (k : BehindOperand) →
      (1 + (count + open_operand k)) + n ≡ most_open →
      answered end at ts (go (want_expression (in_index at e count k)))
      ≡ follow (r.indexed at ts) (λ i us. outcome (have_post (suc count) (index at e i) k) us end)
  pub brackets : (at : Place) (ts : List Token) (k : BehindOperand) → (1 + open_operand k) + n ≡ most_open →
      outcome (in_elements at no_elements k) ts end ≡ follow (r.brackets at ts)
      (λ e us. outcome (have_post 0 e k) us end)
  pub args_closed : (ts : List Token) (k : BehindArguments) (next : Arguments → State) →
      ((all : Arguments) (t : Token) → end_arguments all k t ≡ only (is_sign CloseRound t) (next all)) →
      ((all : Arguments) → open_count (next all) ≤ most_open) → (1 + open_arguments k) + n ≡ most_open →
      outcome (in_arguments no_arguments k) ts end ≡ follow (r.args_closed ts) (λ all us. outcome (next all) us end)
  pub round_args : (ts : List Token) (k : BehindArguments) (next : Arguments → State) →
      ((all : Arguments) (t : Token) → end_arguments all k t ≡ only (is_sign CloseRound t) (next all)) →
      ((all : Arguments) → open_count (next all) ≤ most_open) → open_arguments k + n ≡ most_open →
      outcome (want_arguments k) ts end ≡ follow (r.round_args ts) (λ all us. outcome (next all) us end)
  pub round_expr : (ts : List Token) (s : State) (k : BehindExpression) (next : Expression → State) →
      finish s ≡ None → ((t : Token) → step s t ≡ only (is_sign OpenRound t) (want_expression k)) →
      ((e : Expression) (t : Token) → after_expression e k t ≡ only (is_sign CloseRound t) (next e)) →
      ((e : Expression) → open_count (next e) ≤ most_open) →
      open_expression k ≡ 1 + open_count s → open_count s + n ≡ most_open →
      outcome s ts end ≡ follow (r.round_expr ts) (λ e us. outcome (next e) us end)
  pub elem : (ts : List Token) (k : BehindElement) → open_element k + n ≡ most_open →
      outcome (want_element k) ts end ≡ follow (r.elem ts) (λ el us. outcome (have_element el k) us end)
  pub for_head : (at : Place) (ts : List Token) (k : BehindElement) → (2 + open_element k) + n ≡ most_open →
      outcome (in_arguments no_arguments (of_for at k)) ts end
      ≡ follow (r.for_head ts) (λ head us. outcome (want_element (behind_head at head k)) us end)
  pub for_behind : (at : Place) (ts : List Token) (k : BehindElement) → (1 + open_element k) + n ≡ most_open →
      outcome (want_arguments (of_for at k)) ts end ≡ follow (r.for_behind at ts)
      (λ el us. outcome (have_element el k) us end)
  pub else_end : (at : Place) (e : Expression) (held : Element) (ts : List Token) (k : BehindElement) →
      (1 + open_element k) + n ≡ most_open →
      outcome (have_element held (held_element at e k)) ts end
      ≡ follow (r.else_end at e held ts) (λ el us. outcome (have_element el k) us end)

-- the rules for one construct less, or none where no more may open
abbrev pub Below : Place → ℕ → Option Rules → Type 0
Below end zero None = Unit {0}
Below end zero (Some r) = ⊥
Below end (suc m) None = ⊥
Below end (suc m) (Some r) = Linked end m r

-- a construct that opens with the token that stands there
pub deeper_gives : {A : Type 0} (end : Place) (n : ℕ) (below : Option Rules) → Below end n below →
    (next : State) (at : Place)
    (ts : List Token) (f : Rules → Read A) (then : A → List Token → Result Items Refusal) (base : ℕ) →
    base + n ≡ most_open → open_count next ≡ 1 + base →
    ((m : ℕ) (r : Rules) → Linked end m r → (1 + base) + m ≡ most_open → outcome next ts end ≡ follow (f r) then) →
    answered end at ts (go next) ≡ follow (deeper below at f) then
deeper_gives end zero None below next at ts f then base room opens inside =
    too_deep next at ts end (omega (arith, room, opens))
deeper_gives end zero (Some r) below next at ts f then base room opens inside = absurd below
deeper_gives end (suc m) None below next at ts f then base room opens inside = absurd below
deeper_gives end (suc m) (Some r) below next at ts f then base room opens inside =
    goes next at ts end (omega (arith, room, opens)) ∙ inside m r below (omega (arith, room))
