-- The names of modules (OpenSCAD User Manual, "Primitive Solids", "Transformations", "CSG Modelling", "Conditional
-- and Iterator Functions", "User-Defined Functions and Modules"): those of the language, and those of the manual
-- that it leaves out.
use Rattle.std.specs.Prelude.{ℕ, List, [], ◌∷◌, codes}
use Rattle.scad_table.specs.Meanings.{found_in}
use Rattle.scad_modules.specs.declared.module.Shape.TheVariants.{Cube, Sphere, Cylinder, Polyhedron}
use Rattle.scad_modules.specs.declared.module.Flat.TheVariants.{Square, Circle, Polygon}
use Rattle.scad_modules.specs.declared.module.Extrusion.TheVariants.{Linear, Rotate as RotateExtrude}
use Rattle.scad_modules.specs.declared.module.Transform.TheVariants.{Translate, Scale, Rotate, Mirror, Multmatrix}
use Rattle.scad_modules.specs.declared.module.Module.TheVariants.{Shape, Flat, Extrusion, Transform, Union, Difference, Intersection, Hull, Children, Echo, Assert}
use Rattle.scad_modules.specs.declared.module.Name.{Name}
use Rattle.scad_modules.specs.declared.module.Name.TheVariants.{Known, For, IntersectionFor, Let, LeftOut, Unknown}

-- what each name means
abbrev pub meanings : List (List ℕ × Name)
meanings =
    (codes "assert", Known Assert) ∷ (codes "assign", LeftOut) ∷ (codes "child", LeftOut)
    ∷ (codes "children", Known Children) ∷ (codes "circle", Known (Flat Circle))
    ∷ (codes "color", Known Union) ∷ (codes "cube", Known (Shape Cube))
    ∷ (codes "cylinder", Known (Shape Cylinder)) ∷ (codes "difference", Known Difference)
    ∷ (codes "echo", Known Echo) ∷ (codes "for", For) ∷ (codes "group", Known Union)
    ∷ (codes "hull", Known Hull) ∷ (codes "import", LeftOut) ∷ (codes "intersection", Known Intersection)
    ∷ (codes "intersection_for", IntersectionFor) ∷ (codes "let", Let)
    ∷ (codes "linear_extrude", Known (Extrusion Linear)) ∷ (codes "minkowski", LeftOut)
    ∷ (codes "mirror", Known (Transform Mirror)) ∷ (codes "multmatrix", Known (Transform Multmatrix))
    ∷ (codes "offset", LeftOut) ∷ (codes "polygon", Known (Flat Polygon))
    ∷ (codes "polyhedron", Known (Shape Polyhedron)) ∷ (codes "projection", LeftOut)
    ∷ (codes "render", Known Union) ∷ (codes "resize", LeftOut) ∷ (codes "rotate", Known (Transform Rotate))
    ∷ (codes "rotate_extrude", Known (Extrusion RotateExtrude)) ∷ (codes "scale", Known (Transform Scale))
    ∷ (codes "sphere", Known (Shape Sphere)) ∷ (codes "square", Known (Flat Square))
    ∷ (codes "surface", LeftOut) ∷ (codes "text", LeftOut)
    ∷ (codes "translate", Known (Transform Translate)) ∷ (codes "union", Known Union)
    ∷ []

-- what a name means where a module is called and the program defines none of this name
unfoldable pub meaning_of : List ℕ → Name
meaning_of name = found_in meanings Unknown name
