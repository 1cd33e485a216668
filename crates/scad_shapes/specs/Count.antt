-- How many triangles a primitive has, as its form alone tells.
use Rattle.std.specs.Prelude.{ℕ, ◌+◌, ◌-◌, ◌*◌, ◌≤◌, List, length}
use Rattle.std.specs.List.{sum_by}
use Rattle.scad_cos.specs.Circle.{fragment_limit}
use Rattle.scad_shapes.specs.declared.count.Form.{Form}
use Rattle.scad_shapes.specs.declared.count.Form.TheVariants.{Cube, Sphere, Cylinder, Polyhedron}
use Rattle.scad_shapes.specs.Outline.{sphere_rings}

-- the triangles between two rings of so many points, their top and bottom included
abbrev pub prism_triangles : ℕ → ℕ
prism_triangles n = 4 * n - 4

-- those of a sphere of so many fragments
abbrev pub sphere_triangles : ℕ → ℕ
sphere_triangles n = 2 * (n - 2) + 2 * n * (sphere_rings n - 1)

-- the triangles of a primitive: of so many fragments, or of so many points of all faces less two each
abbrev pub triangles_of : Form → ℕ
triangles_of Cube = 12
triangles_of (Sphere n) = sphere_triangles n
triangles_of (Cylinder n) = prism_triangles n
triangles_of (Polyhedron n) = n

-- a circle has three fragments at least, and no more than the limit
pub record AreFragments (n : ℕ) : Type 0 where
  pub some : 3 ≤ n
  pub few : n ≤ fragment_limit

-- so has one of the form, where it has circles
abbrev pub HasFragments : Form → Type 0
HasFragments Cube = Unit {0}
HasFragments (Sphere n) = AreFragments n
HasFragments (Cylinder n) = AreFragments n
HasFragments (Polyhedron n) = Unit {0}

-- the points of all faces less two each
abbrev pub face_triangles : List (List ℕ) → ℕ
face_triangles faces = sum_by (λ face. length face - 2) faces
