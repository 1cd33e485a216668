-- Counts of triangles.
use Rattle.std.proofs.Common.{◌≡◌, ℕ, ◌+◌, ◌-◌, ◌<◌, ◌≤◌, true, ◌&&◌, List, [], ◌∷◌, length, get_or, drop, refl, ap, sym, ◌∙◌, arith}
use Rattle.std.specs.Prelude.{nat_le}
use Rattle.std.specs.List.{list_all}
use Rattle.std.proofs.lemmas.Bool.{true≢false, and_from}
use Rattle.std.proofs.lemmas.Bool.Decides.{nat_tests}
use Rattle.std.proofs.lemmas.List.{drop_all}
use Rattle.std.proofs.lemmas.List.Sums.{sum_by-cons, sum_by-drop_more}
use Rattle.scad_solid.specs.Solid.{names_points}
use Rattle.scad_shapes.specs.Polyhedron.{name_points}
use Rattle.scad_shapes.specs.Limits.{triangle_limit}
use Rattle.scad_modules.specs.Primitive.{is_face}
use Rattle.scad_shapes.specs.Count.{face_triangles, sphere_triangles, prism_triangles}
use Rattle.std.specs.Cmp.{first_so, second_so}

pub faces-drop : (all : List (List ℕ)) (i : ℕ) (f : List ℕ) → i < length all → f ≡ get_or all i f
    → face_triangles (drop i all) ≡ (length f - 2) + face_triangles (drop (i + 1) all)
faces-drop all i f below is =
    sum_by-drop_more (λ g. length g - 2) all i f below
    ∙ ap (λ g. (length g - 2) + face_triangles (drop (i + 1) all)) (sym is)

pub faces-drop_all : (all : List (List ℕ)) (i : ℕ) → length all ≤ i → face_triangles (drop i all) ≡ 0
faces-drop_all all i past = ap face_triangles (drop_all i all past)

pub ruleset counts = (faces-drop, faces-drop_all)

-- a prism or a sphere of few triangles has few fragments
pub prism-few : (n : ℕ) → prism_triangles n ≤ triangle_limit → n ≤ triangle_limit
prism-few n few = omega arith

pub sphere-few : (n : ℕ) → sphere_triangles n ≤ triangle_limit → n ≤ triangle_limit
sphere-few n few = omega arith

pub ruleset bounds = (prism-few, sphere-few)

-- ---- the faces of a polyhedron

-- they name points alone
pub all-named : (count : ℕ) (faces : List (List ℕ)) → list_all (is_face count) faces ≡ true → name_points count faces
    ≡ true
all-named count [] e = refl
all-named count (f ∷ faces) e =
    let here = first_so (is_face count f) (list_all (is_face count) faces) e in
    let more = second_so (is_face count f) (list_all (is_face count) faces) e in
    and_from (names_points count f) (name_points count faces) (second_so (nat_le 3 (length f)) (names_points count f)
    here) (all-named count faces more)

pub polyhedron-named : (count : ℕ) (faces : List (List ℕ)) → (nat_le 1 (length faces) && list_all (is_face count) faces)
    ≡ true → name_points count faces ≡ true
polyhedron-named count faces e = all-named count faces (second_so (nat_le 1 (length faces))
    (list_all (is_face count) faces) e)

three : (n : ℕ) → nat_le 3 n ≡ true → 3 ≤ n
three n e = grind (arith, nat_tests)

-- and have triangles
pub polyhedron-some : (count : ℕ) (faces : List (List ℕ)) → (nat_le 1 (length faces) && list_all (is_face count) faces)
    ≡ true → 0 < face_triangles faces
polyhedron-some count [] e = absurd (true≢false (sym e))
polyhedron-some count (f ∷ faces) e =
    let here = first_so (is_face count f) (list_all (is_face count) faces) (second_so (nat_le 1 (length (f ∷ faces)))
    (list_all (is_face count) (f ∷ faces)) e) in
    let many = three (length f) (first_so (nat_le 3 (length f)) (names_points count f) here) in
    let cut = sum_by-cons (λ g. length g - 2) f faces in
    omega (arith, cut)

pub ruleset polyhedra = (polyhedron-named, polyhedron-some)
