-- The part of a range whose numbers can name children.
use Rattle.std.specs.Prelude.{◌≡◌, ℕ, zero, suc, ◌<◌, ℤ, pos, ◌+ℤ◌, ◌<ℤ◌, true, false, List, None}
use Rattle.scad_ast.specs.Tree.{Items}
use Rattle.scad_value.specs.Datum.{Datum, number}
use Rattle.scad_scope.specs.Env.{Env}
use Rattle.scad_expr.specs.State.{State}
use Rattle.scad_expr.specs.Runs.{is_past}
use Rattle.scad_tree.specs.Solid.{Solid}
use Rattle.scad_leaves.specs.declared.space.Where.{Where}
use Rattle.scad_members.specs.Choice.{child_named}
use Rattle.scad_members.specs.Meaning.{Below, children_by}

-- values name the same children as others, wherever they run
pub record NameAlike (scope : Items) (few all : List Datum) : Type 0 where
  pub alike : (below : Below) (w : Where) (env along : Env) (so_far : List Solid) (s : State)
      → children_by below w env along scope few so_far s ≡ children_by below w env along scope all so_far s

-- a number names no child
abbrev pub IsNobody : Items → ℤ → Type 0
IsNobody scope z = child_named scope (number z) ≡ None

-- so many steps together
abbrev pub steps : ℕ → ℤ → ℤ
steps zero step = pos 0
steps (suc count) step = step +ℤ steps count step

-- a number that is reached from a start by steps from numbers that name no child
pub record IsReached (scope : Items) (start step first : ℤ) : Type 0 where
  pub count : ℕ
  pub is : first ≡ start +ℤ steps count step
  pub nobody : (j : ℕ) → j < count → IsNobody scope (start +ℤ steps j step)

-- an end that comes no later than another one, and between the two no number names a child
pub record IsEnough (scope : Items) (step end last : ℤ) : Type 0 where
  pub sooner : (z : ℤ) → is_past z step end ≡ true → is_past z step last ≡ true
  pub nobody : (z : ℤ) → is_past z step last ≡ true → is_past z step end ≡ false → IsNobody scope z

-- no number past this one names a child
pub record IsBehind (scope : Items) (high : ℤ) : Type 0 where
  pub nobody : (z : ℤ) → high <ℤ z → IsNobody scope z
