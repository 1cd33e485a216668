-- Levels of depth.
use Rattle.std.proofs.Common.{◌≡◌, ◌≢◌, ℕ, zero, suc, ◌-◌, refl, sym, ap, ◌∙◌, arith}
use Rattle.scad_fault.specs.declared.place.Place.{Place}
use Rattle.scad_fault.specs.declared.budget.BudgetKind.TheVariants.{Depth}
use Rattle.scad_ast.specs.Tree.{Expression, Item}
use Rattle.scad_scope.specs.Env.{Env}
use Rattle.scad_expr.specs.Machine.{Held, env_in, along_in}
use Rattle.scad_expr.specs.Meaning.{meaning}
use Rattle.scad_expr.specs.State.{State, ◌>>◌, over, step}
use Rattle.scad_leaves.specs.declared.space.Where.{Where}
use Rattle.scad_members.specs.Frames.{with_depth}
use Rattle.scad_members.specs.Meaning.{statements_meaning, statement_layer}
use Rattle.scad_members.specs.Scopes.{item_place}

-- where no level is left
pub assignment-none : (d : ℕ) (env along : Env) (at : Place) (e : Expression) (s : State) → d ≡ 0
    → (statements_meaning d).assignment env along at e s ≡ over Depth at s
unfolding statements_meaning
assignment-none zero env along at e s is = refl
assignment-none (suc d) env along at e s is = absurd (let no : ⊥ = omega (arith, is) in no)

pub statement-none : (d : ℕ) (w : Where) (env along : Env) (i : Item) (s : State) → d ≡ 0
    → (statements_meaning d).statement w env along i s ≡ over Depth (item_place i) s
unfolding statements_meaning
statement-none zero w env along i s is = refl
statement-none (suc d) w env along i s is = absurd (let no : ⊥ = omega (arith, is) in no)

pub less : (d : ℕ) → suc d - 1 ≡ d
less d = omega arith

-- where some are
pub assignment-some : (d : ℕ) (env along : Env) (at : Place) (e : Expression) (s : State) → d ≢ 0
    → (statements_meaning d).assignment env along at e s ≡ (step at >> (meaning (d - 1)).value env along e) s
unfolding statements_meaning
assignment-some zero env along at e s some = absurd (some refl)
assignment-some (suc d) env along at e s some = ap (λ n. (step at >> (meaning n).value env along e) s) (sym (less d))

pub statement-some : (d : ℕ) (w : Where) (env along : Env) (i : Item) (s : State) → d ≢ 0
    → (statements_meaning d).statement w env along i s ≡ statement_layer (statements_meaning (d - 1)) w env along i s
unfolding statements_meaning
statement-some zero w env along i s some = absurd (some refl)
statement-some (suc d) w env along i s some = ap (λ n. statement_layer (statements_meaning n) w env along i s)
    (sym (less d))

pub expressions-are : (d : ℕ) → (statements_meaning d).expressions ≡ meaning d
unfolding statements_meaning
expressions-are zero = refl
expressions-are (suc d) = refl

-- how deep a machine is doesn't change what names mean
pub env_in-depth : (d : ℕ) (h : Held) → env_in (with_depth d h) ≡ env_in h
unfolding env_in
env_in-depth d h = refl

pub along_in-depth : (d : ℕ) (h : Held) → along_in (with_depth d h) ≡ along_in h
unfolding along_in
along_in-depth d h = refl

pub depth-back : (d : ℕ) (h n : Held) → n ≡ with_depth d h → (e : ℕ) → e ≡ h.depth → with_depth e n ≡ h
depth-back d h n is e same = ap (with_depth e) is ∙ ap (λ k. with_depth k h) same

pub ruleset levels = (assignment-none, statement-none, assignment-some, statement-some, env_in-depth, along_in-depth)

pub ruleset back = (depth-back, less)

pub ruleset expressions = (expressions-are)
