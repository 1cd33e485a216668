-- The count of turns of a loop with start, test and step never ends.
use Rattle.std.proofs.Common.{◌≡◌, ℕ, zero, suc, ◌+◌, ◌≤◌, Bool, true, false, List, if◌then◌else◌, refl, arith}
use Rattle.scad_ast.specs.Tree.{Expression, Element}
use Rattle.scad_value.specs.Datum.{Datum}
use Rattle.scad_value.specs.Comparison.{truth}
use Rattle.scad_scope.specs.Env.{Env}
use Rattle.scad_machine.specs.State.{State, Outcome, gives, refuses, Action, and_then, step, step_limit}
use Rattle.scad_stack.specs.Places.{place, element_place}
use Rattle.scad_machine.specs.Variables.{within}
use Rattle.scad_stack.specs.Meaning.{meaning, value, bound_in_order, loop_turns}
use Rattle.scad_expr.specs.Laws.{Within, StepsRise, TurnsDontEnd}
use Rattle.scad_expr.proofs.Rising.{Rising, rising-over, step-counts}
use Rattle.scad_expr.proofs.RisingNodes.{rising-bound_in_order, rising-layer, rising-element}

rising : (depth : ℕ) → ((env along : Env) (e : Expression) → Rising (value depth env along e))
    × ((env along : Env) (e : Element) (so_far : List Datum) → Rising ((meaning depth).element env along e so_far))
unfolding meaning
rising zero = (
  (λ env along e. rising-over Datum (place e)),
  (λ env along e so_far. rising-over (List Datum)
      (element_place e)),
)
rising (suc depth) = (
  rising-layer (meaning depth) (rising depth).0 (rising depth).1,
  rising-element (meaning depth) (rising depth).0
      (rising depth).1,
)

pub steps_rise : StepsRise
steps_rise depth env along e s low = (rising depth).0 env along e s low

-- what follows the same outcome is the same, where it is from each state that the outcome may have
same-then : {A B : Type 0} (n : ℕ) (o : Outcome A) (f g : A → Action B) → Within n o
    → ((a : A) (s : State) → n ≤ s.steps → s.steps ≤ step_limit → f a s ≡ g a s)
    → and_then o f ≡ and_then o g
same-then n (gives a s) f g w h = h a s w.0 w.1
same-then n (refuses e s) f g w h = refl

same-if : {A : Type 0} (c : Bool) (m n k : Action A) (s : State) → m s ≡ n s → (if c then m else k) s
    ≡ (if c then n else k) s
same-if true m n k s e = e
same-if false m n k s e = refl

pub turns_dont_end : TurnsDontEnd
unfolding loop_turns
turns_dont_end depth zero m at test steps body env along b so_far s low past other = absurd (let no : ⊥ = omega (arith, low, past) in no)
turns_dont_end depth (suc n) zero at test steps body env along b so_far s low past other = absurd (let no : ⊥ = omega (arith, low, other) in no)
turns_dont_end depth (suc n) (suc m) at test steps body env along b so_far s low past other =
    let inside = within env b.names in
    let calls = within along b.dollars in
    same-then s.steps (value depth inside calls test s) _ _ ((rising depth).0 inside calls test s low)
    (λ holds s1 up1 low1. same-if (truth holds) _ _ _ s1
    (same-then (s1.steps + 1) (step at s1) _ _ (step-counts at s1 low1)
    (λ u s2 up2 low2. same-then s2.steps ((meaning depth).element inside calls body so_far s2) _ _
    ((rising depth).1 inside calls body so_far s2 low2)
    (λ now s3 up3 low3. same-then s3.steps (bound_in_order (meaning depth) env along steps b s3) _ _
    (rising-bound_in_order (meaning depth) (rising depth).0 (rising depth).1 env along steps b s3 low3)
    (λ next s4 up4 low4. turns_dont_end depth n m at test steps body env along next now s4 low4
    (omega (arith, past, up1, up2, up3, up4)) (omega (arith, other, up1, up2, up3, up4)))))))
