-- Hulls of the trees of statements, with their budgets (OpenSCAD User Manual, "Transformations", "hull"). A hull takes
-- the place of the leaves whose points it is made of; those stay counted. Inside `rotate_extrude` it is a profile
-- round the points of theirs; anywhere else a solid round the corners of theirs.
use Rattle.std.specs.Prelude.{ℕ, List, length, Option, Some, None, Result, Ok, Err, if◌then◌else◌}
use Rattle.scad_fault.specs.declared.place.Place.{Place}
use Rattle.scad_fault.specs.declared.fault.FaultKind.TheVariants.{LeftOut as IsLeftOut}
use Rattle.scad_fault.specs.declared.budget.BudgetKind.TheVariants.{HullPoints}
use Rattle.scad_solid.specs.declared.triangle.Triangle.{Triangle}
use Rattle.scad_matrix.specs.declared.matrix.Matrix.{Matrix}
use Rattle.scad_hull.specs.declared.fault.HullFault.{HullFault}
use Rattle.scad_hull.specs.declared.fault.HullFault.TheVariants.{Points, Memory}
use Rattle.scad_hull.specs.Faces.{hull_of}
use Rattle.scad_hull.specs.Flat.{ring_hull_of}
use Rattle.scad_modules.specs.Outline.{Pair}
use Rattle.scad_tree.specs.Points.{is_united, points_of}
use Rattle.scad_tree.specs.Solid.{Solid, nothing, surface}
use Rattle.scad_machine.specs.declared.fault.EvalFault.{EvalFault}
use Rattle.scad_machine.specs.declared.fault.EvalFault.TheVariants.{Over, Memory as WantOfMemory}
use Rattle.scad_machine.specs.State.{Action, pure, ◌>>=◌, ◌>>◌, refuse, fault_of}
use Rattle.scad_leaves.specs.declared.space.Space.{Space}
use Rattle.scad_leaves.specs.declared.space.Space.TheVariants.{Solid as Outside, Linear, Turned}
use Rattle.scad_leaves.specs.declared.space.Turning.{Turning}
use Rattle.scad_leaves.specs.declared.space.Where.{Where}
use Rattle.scad_leaves.specs.FlatLeaves.{judge_points, judge_sides, swept}
use Rattle.scad_leaves.specs.Products.{count_leaf, count_triangles}
use Rattle.scad_leaves.specs.Profiles.{profiles_from, replace_profiles}

-- the tree of a hull's children has neither an intersection nor a difference
unfoldable pub judge_united : Place → List ℕ → Solid → Action (Unit {0})
judge_united at name t = if is_united t then pure tt else fault_of IsLeftOut at name

-- why points have no hull: they are more than it may have
abbrev pub hull_refusal : Place → HullFault → EvalFault
hull_refusal at (Points count) = Over (record { kind = HullPoints; at = at; layer = 0; count = 0 })
hull_refusal at Memory = WantOfMemory

-- the hull of points, none where they are flat; or why there is none
unfoldable pub hulled : {A : Type 0} → Place → Result (Option A) HullFault → Action (Option A)
hulled at (Ok hull) = pure hull
hulled at (Err why) = refuse (hull_refusal at why)

-- ---- outside of `rotate_extrude`
-- the leaf of a hull is counted, and then its triangles; no hull is no leaf
unfoldable pub hull_leaf : Place → Option (List Triangle) → Action Solid
hull_leaf at None = pure nothing
hull_leaf at (Some ts) = do
  count_leaf at
  count_triangles (length ts) at
  pure (surface ts)

-- a hull of the corners of all leaves, which were placed
unfoldable pub solid_hull : Place → Solid → Action Solid
solid_hull at t = do
  hull ← hulled at (hull_of (points_of t))
  hull_leaf at hull

-- ---- inside `rotate_extrude`
-- a hull is a profile that isn't moved any more: it is counted, judged and turned as any other, and its points take
-- the place of those of the profiles that it is made of, which are those from a number on
unfoldable pub hull_profile : Place → ℕ → Turning → Matrix → Option (List Pair) → Action Solid
hull_profile at from t whole None = pure nothing
hull_profile at from t whole (Some ring) = do
  count_leaf at
  judge_points at (length ring)
  judge_sides t.word ring
  replace_profiles from ring
  swept at ring t whole

unfoldable pub turned_hull : Place → ℕ → Turning → Matrix → Action Solid
turned_hull at from t whole = do
  points ← profiles_from from
  hull ← hulled at (ring_hull_of points)
  hull_profile at from t whole hull

-- ---- either
unfoldable pub hull_in : Place → ℕ → Matrix → Space → Solid → Action Solid
hull_in at from whole Outside t = solid_hull at t
hull_in at from whole (Linear height center) t = solid_hull at t
hull_in at from whole (Turned turning) t = turned_hull at from turning whole

-- the hull of the tree of its children, whose profiles' points are those from a number on
unfoldable pub hull_made : Place → List ℕ → Where → ℕ → Solid → Action Solid
hull_made at name w from t = do
  judge_united at name t
  hull_in at from w.whole w.space t
