-- Solids that a program makes, with their budgets.
use Rattle.std.specs.Prelude.{ℕ, ◌+◌, nat_lt, List, [], Result, Ok, Err, if◌then◌else◌}
use Rattle.scad_fault.specs.declared.place.Place.{Place}
use Rattle.scad_fault.specs.declared.fault.FaultKind.TheVariants.{LeftOut as IsLeftOut, BadArgument as IsBadArgument, NumberRange as IsNumberRange, NotClosed as IsNotClosed, CoordinateRange as IsFar, MixedDimensions}
use Rattle.scad_fault.specs.declared.budget.BudgetKind.TheVariants.{Depth, Leaves, Triangles}
use Rattle.scad_solid.specs.declared.triangle.Triangle.{Triangle}
use Rattle.scad_matrix.specs.declared.matrix.Matrix.{Matrix}
use Rattle.scad_matrix.specs.declared.matrix.MatrixFault.{MatrixFault}
use Rattle.scad_matrix.specs.declared.matrix.MatrixFault.TheVariants.{Range}
use Rattle.scad_shapes.specs.Limits.{triangle_limit}
use Rattle.scad_shapes.specs.declared.fault.ShapeFault.{ShapeFault}
use Rattle.scad_shapes.specs.declared.fault.ShapeFault.TheVariants.{CoordinateRange, NotClosed, Memory}
use Rattle.scad_modules.specs.declared.fault.ArgumentFault.{ArgumentFault}
use Rattle.scad_modules.specs.declared.fault.ArgumentFault.TheVariants.{BadArgument, LeftOut, NumberRange}
use Rattle.scad_modules.specs.declared.fault.ArgumentFault.TheVariants.{Memory as NoMemory}
use Rattle.scad_modules.specs.Primitive.{Primitive, triangles_of, solid_of}
use Rattle.scad_modules.specs.Reading.{Read}
use Rattle.scad_tree.specs.Nesting.{nesting}
use Rattle.scad_tree.specs.Solid.{Solid, surface}
use Rattle.scad_machine.specs.declared.fault.EvalFault.{EvalFault}
use Rattle.scad_machine.specs.declared.fault.EvalFault.TheVariants.{Fault, Memory as WantOfMemory}
use Rattle.scad_machine.specs.State.{Action, pure, ◌>>◌, refuse, fault, over}
use Rattle.scad_leaves.specs.declared.space.Space.{Space}
use Rattle.scad_leaves.specs.declared.space.Space.TheVariants.{Solid as Outside, Linear, Turned}
use Rattle.scad_leaves.specs.declared.space.Where.{Where}

-- a program makes at most so many leaves
abbrev pub leaf_limit : ℕ
leaf_limit = 4096

-- the parts of a tree lie at most so deep in one another
abbrev pub tree_limit : ℕ
tree_limit = 200

-- one leaf more
unfoldable pub count_leaf : Place → Action (Unit {0})
count_leaf at = λ s.
    if nat_lt leaf_limit (s.leaves + 1) then over Leaves at s
    else pure tt (record s { leaves = s.leaves + 1 })

-- so many triangles more
unfoldable pub count_triangles : ℕ → Place → Action (Unit {0})
count_triangles count at = λ s.
    if nat_lt triangle_limit (s.triangles + count) then over Triangles at s
    else pure tt (record s { triangles = s.triangles + count })

-- a placed solid as a tree, or why there is none
unfoldable pub placed : Place → Result (List Triangle) ShapeFault → Action Solid
placed at (Ok ts) = pure (surface ts)
placed at (Err CoordinateRange) = fault IsFar at
placed at (Err NotClosed) = fault IsNotClosed at
placed at (Err Memory) = refuse WantOfMemory

-- a leaf: it is counted, then its triangles, and then it is placed
unfoldable pub leaf : Place → Primitive → Matrix → Action Solid
leaf at p m = do
  count_leaf at
  count_triangles (triangles_of p) at
  placed at (solid_of p m)

-- the fault of arguments at the name of their call
abbrev pub argument_fault : Place → List ℕ → ArgumentFault → EvalFault
argument_fault at name BadArgument = Fault (record { kind = IsBadArgument; at = at; name = name })
argument_fault at name LeftOut = Fault (record { kind = IsLeftOut; at = at; name = name })
argument_fault at name NumberRange = Fault (record { kind = IsNumberRange; at = at; name = [] })
argument_fault at name NoMemory = WantOfMemory

-- what the arguments of a call say, or their fault
unfoldable pub argued : {A : Type 0} → Place → List ℕ → Read A → Action A
argued at name (Ok a) = pure a
argued at name (Err e) = refuse (argument_fault at name e)

-- the place of a transformation's children
unfoldable pub placed_by : Place → Result Where MatrixFault → Action Where
placed_by at (Ok w) = pure w
placed_by at (Err Range) = fault IsNumberRange at

-- a solid, or an extrusion, stands outside of every extrusion alone
unfoldable pub judge_solid : Place → Space → Action (Unit {0})
judge_solid at Outside = pure tt
judge_solid at (Linear height center) = fault MixedDimensions at
judge_solid at (Turned t) = fault MixedDimensions at

-- a flat shape stands inside of an extrusion alone
unfoldable pub judge_flat : Place → Space → Action (Unit {0})
judge_flat at Outside = fault MixedDimensions at
judge_flat at (Linear height center) = pure tt
judge_flat at (Turned t) = pure tt

-- a tree that a statement makes
unfoldable pub judged : Place → Solid → Action Solid
judged at s = if nat_lt tree_limit (nesting s) then over Depth at else pure s
