-- Assignments that are evaluated one by one.
use Rattle.std.proofs.Common.{◌≡◌, ℕ, ◌+◌, ◌<◌, ◌≤◌, List, [], ◌∷◌, length, get_or, drop, sym, ap, ◌∙◌}
use Rattle.std.proofs.lemmas.List.{drop_more, drop_all}
use Rattle.scad_ast.specs.Tree.{Items}
use Rattle.scad_bindings.specs.declared.binding.Binding.{Binding}
use Rattle.scad_scope.specs.Env.{Env}
use Rattle.scad_machine.specs.declared.fault.EvalFault.{EvalFault}
use Rattle.scad_expr.specs.State.{State, Outcome, gives, refuses, and_then, pure}
use Rattle.scad_expr.specs.Variables.{Bound, set}
use Rattle.scad_expr.proofs.Loops.{twice}
use Rattle.scad_members.specs.Meaning.{Below, assigned}

-- what comes behind a value
goes : {A B : Type 0} (o : Outcome A) (f : A → B) (g : B → State → Outcome B) (b : B) (t : State)
    → and_then o (λ a. pure (f a)) ≡ gives b t → and_then o (λ a. g (f a)) ≡ g b t
goes o f g b t e = sym (twice o (λ a. pure (f a)) g) ∙ ap (λ p. and_then p g) e

stops : {A B : Type 0} (o : Outcome A) (f : A → B) (g : B → State → Outcome B) (x : EvalFault) (t : State)
    → and_then o (λ a. pure (f a)) ≡ refuses x t → and_then o (λ a. g (f a)) ≡ refuses x t
stops o f g x t e = sym (twice o (λ a. pure (f a)) g) ∙ ap (λ p. and_then p g) e

module _ (below : Below) (scope : Items) (env along : Env) where
  pub names-goes : (all : List Binding) (i : ℕ) (p : Binding) (b c : Bound) (s t : State) → i < length all
      → p ≡ get_or all i p → assigned below scope env along (p ∷ []) b s ≡ gives c t → assigned below scope env along
      (drop (i + 1) all) c t ≡ assigned below scope env along (drop i all) b s
  unfolding assigned
  names-goes all i p b c s t inside is e =
      sym (ap (λ l. assigned below scope env along l b s) (drop_more all i p inside ∙ ap (λ q. q ∷ drop (i + 1) all)
      (sym is))
      ∙ goes _ (λ d. set p.name d b) (assigned below scope env along (drop (i + 1) all)) c t e)

  pub names-stops : (all : List Binding) (i : ℕ) (p : Binding) (b : Bound) (s t : State) (x : EvalFault)
      → i < length all → p ≡ get_or all i p → assigned below scope env along (p ∷ []) b s ≡ refuses x t
      → assigned below scope env along (drop i all) b s ≡ refuses x t
  unfolding assigned
  names-stops all i p b s t x inside is e =
      ap (λ l. assigned below scope env along l b s) (drop_more all i p inside ∙ ap (λ q. q ∷ drop (i + 1) all)
      (sym is))
      ∙ stops _ (λ d. set p.name d b) (assigned below scope env along (drop (i + 1) all)) x t e

  pub names-end : (all : List Binding) (i : ℕ) (b : Bound) (s : State) → length all ≤ i → assigned below scope env along
      (drop i all) b s ≡ gives b s
  unfolding assigned
  names-end all i b s past = ap (λ l. assigned below scope env along l b s) (drop_all i all past)

pub ruleset names = (names-goes, names-stops, names-end)
