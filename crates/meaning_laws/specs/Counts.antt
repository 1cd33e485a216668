-- What programs count: steps, leaves and triangles.
use Rattle.std.specs.Prelude.{ℕ, ◌≤◌}
use Rattle.scad_ast.specs.Tree.{Items, Item}
use Rattle.scad_scope.specs.Env.{Env}
use Rattle.scad_expr.specs.State.{State, Outcome, gives, refuses, step_limit}
use Rattle.scad_shapes.specs.Limits.{triangle_limit}
use Rattle.scad_leaves.specs.declared.space.Where.{Where}
use Rattle.scad_leaves.specs.Products.{leaf_limit}
use Rattle.scad_inst.specs.Meaning.{statements_meaning, means}

-- no count is past its limit
pub record IsWithin (s : State) : Type 0 where
  pub steps : s.steps ≤ step_limit
  pub leaves : s.leaves ≤ leaf_limit
  pub triangles : s.triangles ≤ triangle_limit

-- from one state to a later one no count falls, nor passes its limit
pub record Rises (earlier later : State) : Type 0 where
  pub steps : earlier.steps ≤ later.steps
  pub leaves : earlier.leaves ≤ later.leaves
  pub triangles : earlier.triangles ≤ later.triangles
  pub within : IsWithin earlier → IsWithin later

-- the state in which an outcome came
abbrev pub state_of : {A : Type 0} → Outcome A → State
state_of (gives a s) = s
state_of (refuses fault s) = s

-- a statement lets no count fall or pass its limit, wherever it stands, whatever it ends in
abbrev pub CountsRise : Type 0
CountsRise =
    (depth : ℕ) (w : Where) (env along : Env) (i : Item) (s : State)
    → Rises s (state_of ((statements_meaning depth).statement w env along i s))

-- when a program ends or is refused no count is past its limit
abbrev pub CountsStayWithin : Type 0
CountsStayWithin = (program : Items) → IsWithin (state_of (means program))
