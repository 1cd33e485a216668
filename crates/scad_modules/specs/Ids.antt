-- How the table in memory numbers the names: an id for each meaning, and one for all names that are left out.
use Rattle.std.specs.Prelude.{ℕ, List, [], ◌∷◌, ◌==◌, if◌then◌else◌, codes}
use Rattle.scad_modules.specs.declared.module.Shape.TheVariants.{Cube, Sphere, Cylinder, Polyhedron}
use Rattle.scad_modules.specs.declared.module.Flat.TheVariants.{Square, Circle, Polygon}
use Rattle.scad_modules.specs.declared.module.Extrusion.TheVariants.{Linear, Rotate as RotateExtrude}
use Rattle.scad_modules.specs.declared.module.Transform.TheVariants.{Translate, Scale, Rotate, Mirror, Multmatrix}
use Rattle.scad_modules.specs.declared.module.Module.TheVariants.{Shape, Flat, Extrusion, Transform, Union, Difference, Intersection, Hull, Children, Echo, Assert}
use Rattle.scad_modules.specs.declared.module.Name.{Name}
use Rattle.scad_modules.specs.declared.module.Name.TheVariants.{Known, For, IntersectionFor, Let, LeftOut, Unknown}
use Rattle.scad_modules.specs.declared.id.TheConstants.{CUBE, SPHERE, CYLINDER, POLYHEDRON, SQUARE, CIRCLE, POLYGON, LINEAR_EXTRUDE, ROTATE_EXTRUDE, TRANSLATE, SCALE, ROTATE, MIRROR, MULTMATRIX, UNION, DIFFERENCE, INTERSECTION, FOR, INTERSECTION_FOR, LET, CHILDREN, ECHO, ASSERT, LEFT_OUT, HULL}

-- each name with its id
abbrev pub name_table : List (List ℕ × ℕ)
name_table =
    (codes "assert", ASSERT) ∷ (codes "assign", LEFT_OUT) ∷ (codes "child", LEFT_OUT)
    ∷ (codes "children", CHILDREN) ∷ (codes "circle", CIRCLE) ∷ (codes "color", UNION) ∷ (codes "cube", CUBE)
    ∷ (codes "cylinder", CYLINDER) ∷ (codes "difference", DIFFERENCE) ∷ (codes "echo", ECHO)
    ∷ (codes "for", FOR) ∷ (codes "group", UNION) ∷ (codes "hull", HULL) ∷ (codes "import", LEFT_OUT)
    ∷ (codes "intersection", INTERSECTION) ∷ (codes "intersection_for", INTERSECTION_FOR)
    ∷ (codes "let", LET) ∷ (codes "linear_extrude", LINEAR_EXTRUDE) ∷ (codes "minkowski", LEFT_OUT)
    ∷ (codes "mirror", MIRROR) ∷ (codes "multmatrix", MULTMATRIX) ∷ (codes "offset", LEFT_OUT)
    ∷ (codes "polygon", POLYGON) ∷ (codes "polyhedron", POLYHEDRON) ∷ (codes "projection", LEFT_OUT)
    ∷ (codes "render", UNION) ∷ (codes "resize", LEFT_OUT) ∷ (codes "rotate", ROTATE)
    ∷ (codes "rotate_extrude", ROTATE_EXTRUDE) ∷ (codes "scale", SCALE) ∷ (codes "sphere", SPHERE)
    ∷ (codes "square", SQUARE) ∷ (codes "surface", LEFT_OUT) ∷ (codes "text", LEFT_OUT)
    ∷ (codes "translate", TRANSLATE) ∷ (codes "union", UNION)
    ∷ []

-- what the name of an id means
unfoldable pub numbered_name : ℕ → Name
numbered_name n =
    if n == CUBE then Known (Shape Cube)
    else (if n == SPHERE then Known (Shape Sphere)
    else (if n == CYLINDER then Known (Shape Cylinder)
    else (if n == POLYHEDRON then Known (Shape Polyhedron)
    else (if n == SQUARE then Known (Flat Square)
    else (if n == CIRCLE then Known (Flat Circle)
    else (if n == POLYGON then Known (Flat Polygon)
    else (if n == LINEAR_EXTRUDE then Known (Extrusion Linear)
    else (if n == ROTATE_EXTRUDE then Known (Extrusion RotateExtrude)
    else (if n == TRANSLATE then Known (Transform Translate)
    else (if n == SCALE then Known (Transform Scale)
    else (if n == ROTATE then Known (Transform Rotate)
    else (if n == MIRROR then Known (Transform Mirror)
    else (if n == MULTMATRIX then Known (Transform Multmatrix)
    else (if n == UNION then Known Union
    else (if n == DIFFERENCE then Known Difference
    else (if n == INTERSECTION then Known Intersection
    else (if n == FOR then For
    else (if n == INTERSECTION_FOR then IntersectionFor
    else (if n == LET then Let
    else (if n == CHILDREN then Known Children
    else (if n == ECHO then Known Echo
    else (if n == ASSERT then Known Assert
    else (if n == LEFT_OUT then LeftOut
    else (if n == HULL then Known Hull
    else Unknown))))))))))))))))))))))))
