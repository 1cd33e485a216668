-- What it is that rules of statements give the reader's outcome.
use Rattle.std.proofs.Common.{◌≡◌, ℕ, zero, suc, ◌+◌, ◌≤◌, Bool, List, [], Option}
use Rattle.std.proofs.Common.{Some, None, Result, ◌∙◌, arith}
use Rattle.scad_fault.specs.declared.place.Place.{Place}
use Rattle.scad_lex.specs.declared.token.Token.{Token}
use Rattle.scad_lex.specs.declared.token.Sign.TheVariants.{CloseRound}
use Rattle.scad_ast.specs.Tree.{Parameter, Items}
use Rattle.scad_grammar.specs.Tokens.{is_sign}
use Rattle.scad_grammar.specs.Lists.{Marks}
use Rattle.scad_grammar.specs.Behind.{a_module, a_function, BehindItems, in_group}
use Rattle.scad_grammar.specs.Behind.{BehindParameters}
use Rattle.scad_grammar.specs.Behind.{of_statement}
use Rattle.scad_grammar.specs.Behind.{open_items, open_parameters}
use Rattle.scad_grammar.specs.State.{State, open_count, want_arguments}
use Rattle.scad_grammar.specs.State.{want_statement, have_items, have_start, want_marked, want_choice}
use Rattle.scad_grammar.specs.State.{want_defined, in_parameters}
use Rattle.scad_grammar.specs.Move.{go}
use Rattle.scad_grammar.specs.Steps.{only, end_parameters}
use Rattle.scad_grammar.specs.Machine.{Refusal, most_open, outcome}
use Rattle.scad_grammar.specs.Rules.{Read, deeper}
use Rattle.scad_grammar.specs.StatementRules.{StatementRules}
use Rattle.scad_grammar.proofs.rules.Turns.{follow, answered, goes, too_deep}

pub record LinkedStatements (end : Place) (n : ℕ) (r : StatementRules) : Type 0 where
  pub statement : (d : Bool) (all : Items) (ts : List Token) (k : BehindItems) → open_items k + n ≡ most_open →
      outcome (want_statement d all k) ts end ≡ follow (r.statement d all ts)
      (λ b us. outcome (have_items b k) us end)
  pub group : (d : Bool) (all : Items) (ts : List Token) (k : BehindItems) → (1 + open_items k) + n ≡ most_open →
      outcome (have_items all (in_group d k)) ts end ≡ follow (r.group d all ts)
      (λ b us. outcome (have_items b k) us end)
  pub word_behind : (d : Bool) (at : Place) (w : List ℕ) (all : Items) (ts : List Token) (k : BehindItems) →
      (1 + open_items k) + n ≡ most_open →
      outcome (have_start d at w all k) ts end ≡ follow (r.word_behind at w all ts)
      (λ b us. outcome (have_items b k) us end)
  pub marked : (m : Marks) (all : Items) (ts : List Token) (k : BehindItems) → (1 + open_items k) + n ≡ most_open →
      outcome (want_marked m all k) ts end ≡ follow (r.marked m all ts) (λ b us. outcome (have_items b k) us end)
  pub call_behind : (at : Place) (m : Marks) (w : List ℕ) (all : Items) (ts : List Token) (k : BehindItems) →
      (1 + open_items k) + n ≡ most_open →
      outcome (want_arguments (of_statement at m w all k)) ts end ≡ follow (r.call_behind at m w all ts)
      (λ b us. outcome (have_items b k) us end)
  pub choice_behind : (at : Place) (m : Marks) (all : Items) (ts : List Token) (k : BehindItems) →
      (1 + open_items k) + n ≡ most_open →
      outcome (want_choice at m all k) ts end ≡ follow (r.choice_behind at m all ts)
      (λ b us. outcome (have_items b k) us end)
  pub module_behind : (at : Place) (all : Items) (ts : List Token) (k : BehindItems) →
      (1 + open_items k) + n ≡ most_open →
      outcome (want_defined a_module at all k) ts end ≡ follow (r.module_behind at all ts)
      (λ b us. outcome (have_items b k) us end)
  pub function_behind : (at : Place) (all : Items) (ts : List Token) (k : BehindItems) →
      (1 + open_items k) + n ≡ most_open →
      outcome (want_defined a_function at all k) ts end ≡ follow (r.function_behind at all ts)
      (λ b us. outcome (have_items b k) us end)
  pub params_closed : (ts : List Token) (k : BehindParameters) (next : List Parameter → State) →
      ((all : List Parameter) (t : Token) → end_parameters all k t ≡ only (is_sign CloseRound t) (next all)) →
      ((all : List Parameter) → open_count (next all) ≤ most_open) → (1 + open_parameters k) + n ≡ most_open →
      outcome (in_parameters [] k) ts end ≡ follow (r.params_closed ts) (λ all us. outcome (next all) us end)

abbrev pub BelowStatements : Place → ℕ → Option StatementRules → Type 0
BelowStatements end zero None = Unit {0}
BelowStatements end zero (Some r) = ⊥
BelowStatements end (suc m) None = ⊥
BelowStatements end (suc m) (Some r) = LinkedStatements end m r

pub deeper_gives : {A : Type 0} (end : Place) (n : ℕ) (below : Option StatementRules) → BelowStatements end n below →
    (next : State) (at : Place)
    (ts : List Token) (f : StatementRules → Read A) (onward : A → List Token → Result Items Refusal) (base : ℕ) →
    base + n ≡ most_open → open_count next ≡ 1 + base →
    ((m : ℕ) (r : StatementRules) → LinkedStatements end m r → (1 + base) + m ≡ most_open →
    outcome next ts end ≡ follow (f r) onward) →
    answered end at ts (go next) ≡ follow (deeper below at f) onward
deeper_gives end zero None below next at ts f onward base room opens inside =
    too_deep next at ts end (omega (arith, room, opens))
deeper_gives end zero (Some r) below next at ts f onward base room opens inside = absurd below
deeper_gives end (suc m) None below next at ts f onward base room opens inside = absurd below
deeper_gives end (suc m) (Some r) below next at ts f onward base room opens inside =
    goes next at ts end (omega (arith, room, opens)) ∙ inside m r below (omega (arith, room))
