-- Leaves inside extrusions, each of one outline, with their budgets (OpenSCAD User Manual, "2D to 3D Extrusion").
use Rattle.std.specs.Prelude.{ℕ, ℤ, Bool, nat_lt, List, [], ◌∷◌, ◌++◌, length, codes, if◌then◌else◌}
use Rattle.scad_fault.specs.declared.place.Place.{Place}
use Rattle.scad_fault.specs.declared.fault.FaultKind.TheVariants.{BadArgument, MixedDimensions}
use Rattle.scad_fault.specs.declared.budget.BudgetKind.TheVariants.{Triangles}
use Rattle.scad_matrix.specs.declared.matrix.Matrix.{Matrix}
use Rattle.scad_shapes.specs.Rings.{solid_of_rings}
use Rattle.scad_extrude.specs.declared.count.FlatForm.TheVariants.{Linear as Prism, Turned as Sweep}
use Rattle.scad_extrude.specs.Count.{triangles_of}
use Rattle.scad_extrude.specs.Linear.{linear_rings}
use Rattle.scad_extrude.specs.Revolution.{turned_of}
use Rattle.scad_modules.specs.Outline.{Pair, Outline, points_in, ring_of}
use Rattle.scad_modules.specs.Profile.{profile_of, crosses_axis, turns_of}
use Rattle.scad_tree.specs.Solid.{Solid}
use Rattle.scad_machine.specs.State.{Action, pure, ◌>>=◌, ◌>>◌, fault, fault_of, over}
use Rattle.scad_leaves.specs.declared.space.Space.{Space}
use Rattle.scad_leaves.specs.declared.space.Space.TheVariants.{Solid as Outside, Linear, Turned}
use Rattle.scad_leaves.specs.declared.space.Turning.{Turning}
use Rattle.scad_leaves.specs.declared.space.Where.{Where}
use Rattle.scad_shapes.specs.Limits.{triangle_limit}
use Rattle.scad_leaves.specs.Products.{count_leaf, count_triangles, placed, argued}
use Rattle.scad_leaves.specs.Profiles.{keep_profile}

-- ---- inside `linear_extrude`
-- a leaf is counted, then its triangles, and then it is placed
unfoldable pub linear_leaf : Place → Outline → ℤ → Bool → Matrix → Action Solid
linear_leaf at o height center whole = do
  count_leaf at
  count_triangles (triangles_of (Prism (points_in o))) at
  placed at (solid_of_rings (linear_rings (ring_of o) height center whole))

-- ---- inside `rotate_extrude`
-- an outline has at most as many points as all leaves have triangles
unfoldable pub judge_points : Place → ℕ → Action (Unit {0})
judge_points at count = if nat_lt triangle_limit count then over Triangles at else pure tt

-- no profile stands on both sides of the axis
unfoldable pub judge_sides : Place → List Pair → Action (Unit {0})
judge_sides word ring = if crosses_axis ring then fault_of BadArgument word (codes "rotate_extrude") else pure tt

-- a profile is turned: its triangles are counted, and then it is placed
unfoldable pub swept : Place → List Pair → Turning → Matrix → Action Solid
swept at ring t whole = do
  count_triangles (triangles_of (Sweep (length ring) (turns_of t.resolution ring))) at
  placed at (turned_of ring (turns_of t.resolution ring) whole)

-- a placed profile is judged, kept for a hull and turned
unfoldable pub profile_turned : Place → List Pair → Turning → Matrix → Action Solid
profile_turned at ring t whole = do
  judge_sides t.word ring
  keep_profile ring
  swept at ring t whole

-- a leaf is counted, then the points of its outline are judged; the outline is placed as a profile, which is judged
-- in its turn, kept for a hull and turned
unfoldable pub turned_leaf : Place → List ℕ → Outline → Turning → Matrix → Action Solid
turned_leaf at name o t whole = do
  count_leaf at
  judge_points at (points_in o)
  ring ← argued at name (profile_of t.profile (ring_of o))
  profile_turned at ring t whole

-- ---- inside either
unfoldable pub leaf_in : Place → List ℕ → Outline → Matrix → Space → Action Solid
leaf_in at name o whole Outside = fault MixedDimensions at
leaf_in at name o whole (Linear height center) = linear_leaf at o height center whole
leaf_in at name o whole (Turned t) = turned_leaf at name o t whole

-- the leaves of outlines, behind the trees so far
unfoldable pub flat_leaves : Place → List ℕ → Where → List Outline → List Solid → Action (List Solid)
flat_leaves at name w [] so_far = pure so_far
flat_leaves at name w (o ∷ more) so_far = do
  s ← leaf_in at name o w.whole w.space
  flat_leaves at name w more (so_far ++ s ∷ [])
