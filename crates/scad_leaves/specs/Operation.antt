-- Set operations over the statements of a scope.
use Rattle.std.specs.Prelude.{List}
use Rattle.scad_tree.specs.Solid.{Solid}
use Rattle.scad_tree.specs.Normal.{united, intersected, subtracted}
use Rattle.scad_leaves.specs.declared.operation.Operation.{Operation}
use Rattle.scad_leaves.specs.declared.operation.Operation.TheVariants.{Unite, Intersect, Subtract}

-- the tree of an operation, in normal form
abbrev pub operated : Operation → List Solid → Solid
operated Unite ss = united ss
operated Intersect ss = intersected ss
operated Subtract ss = subtracted ss
