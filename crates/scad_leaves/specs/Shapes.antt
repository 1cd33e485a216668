-- What calls of shapes make, by the values of their arguments; their children aren't run (OpenSCAD User Manual,
-- "Primitive Solids", "2D Primitives").
use Rattle.std.specs.Prelude.{ℕ, List, []}
use Rattle.scad_fault.specs.declared.place.Place.{Place}
use Rattle.scad_ast.specs.Tree.{Arguments}
use Rattle.scad_value.specs.Datum.{Datum}
use Rattle.scad_scope.specs.Env.{Env}
use Rattle.scad_tree.specs.Solid.{Solid}
use Rattle.scad_tree.specs.Normal.{subtracted}
use Rattle.scad_modules.specs.declared.module.Flat.{Flat}
use Rattle.scad_modules.specs.declared.module.Shape.{Shape}
use Rattle.scad_modules.specs.FlatShapes.{outlines_of}
use Rattle.scad_modules.specs.Outline.{Outline}
use Rattle.scad_modules.specs.Shapes.{primitive_of}
use Rattle.scad_machine.specs.State.{Action, ◌>>=◌, ◌>>◌}
use Rattle.scad_leaves.specs.declared.space.Where.{Where}
use Rattle.scad_leaves.specs.Fineness.{fineness}
use Rattle.scad_leaves.specs.FlatLeaves.{flat_leaves}
use Rattle.scad_leaves.specs.Products.{leaf, argued, judge_solid, judge_flat, judged}

-- `cube`, `sphere`, `cylinder`, `polyhedron`: a leaf
unfoldable pub primitive_made : Shape → Place → List ℕ → Where → Env → Env → Arguments → List Datum → Action Solid
primitive_made s at name w env along args found = do
  judge_solid at w.space
  p ← argued at name (primitive_of s (fineness env along) args found)
  leaf at p w.whole

-- the leaves of outlines, and the first without the others
unfoldable pub first_without_others : Place → List ℕ → Where → List Outline → Action Solid
first_without_others at name w os = do
  ss ← flat_leaves at name w os []
  judged at (subtracted ss)

-- `square`, `circle`, `polygon`: a leaf for each outline, the first without the others
unfoldable pub flat_made : Flat → Place → List ℕ → Where → Env → Env → Arguments → List Datum → Action Solid
flat_made f at name w env along args found = do
  judge_flat at w.space
  os ← argued at name (outlines_of f (fineness env along) args found)
  first_without_others at name w os
