-- The paths of a polygon.
use Rattle.std.proofs.Common.{◌≡◌, ℕ, ◌+◌, ◌<◌, true, List, [], ◌∷◌, ◌++◌, length, get_or, drop, refl, ap, sym, ◌∙◌, Ok, Err}
use Rattle.std.specs.Prelude.{nat_le}
use Rattle.std.proofs.lemmas.Bool.{and_parts}
use Rattle.std.proofs.lemmas.List.{length-map}
use Rattle.scad_base.specs.Results.{and_then}
use Rattle.scad_solid.specs.Solid.{names_points}
use Rattle.scad_value.specs.declared.value.Value.{Value}
use Rattle.scad_value.specs.View.{datum_of, elements}
use Rattle.scad_value.proofs.Rows.{elements-drop}
use Rattle.scad_modules.specs.declared.fault.ArgumentFault.{ArgumentFault}
use Rattle.scad_modules.specs.declared.outline.Outline.{Outline}
use Rattle.scad_modules.specs.FlatShapes.{path_in, paths_onto, points_at}
use Rattle.scad_modules.specs.Outline.{Pair}
use Rattle.scad_modules.specs.Primitive.{is_face}
use Rattle.scad_modules.specs.View.{outline, outlines}

pub path-named : (count : ℕ) (face : List ℕ) → is_face count face ≡ true → names_points count face ≡ true
path-named count face e = (and_parts (nat_le 3 (length face)) (names_points count face) e).1

pub path-long : (points : List Pair) (face : List ℕ) → is_face (length points) face ≡ true
    → nat_le 3 (length (points_at points face)) ≡ true
path-long points face e =
    ap (λ n. nat_le 3 n) (length-map face _) ∙ (and_parts (nat_le 3 (length face)) (names_points (length points) face)
    e).0

pub ruleset lengths = (path-named, path-long)

-- one outline more
pub outlines-push : (made : List Outline) (o : Outline) → outlines (made ++ o ∷ []) ≡ outlines made ++ outline o ∷ []
outlines-push [] o = refl
outlines-push (p ∷ made) o = ap (λ all. outline p ∷ all) (outlines-push made o)

-- the next of the paths
pub paths-goes : (points : List Pair) (made : List Outline) (all : List Value) (i : ℕ) (v : Value) (o : Outline)
    → i < length all → v ≡ get_or all i v → path_in points (datum_of v) ≡ Ok (outline o)
    → paths_onto points (outlines (made ++ o ∷ [])) (elements (drop (i + 1) all)) ≡ paths_onto points (outlines made)
    (elements (drop i all))
paths-goes points made all i v o below is r =
    ap (λ so_far. paths_onto points so_far (elements (drop (i + 1) all))) (outlines-push made o)
    ∙ sym (ap (paths_onto points (outlines made)) (elements-drop all i v below is) ∙ ap
    (λ r. and_then r (λ q. paths_onto points (outlines made ++ q ∷ []) (elements (drop (i + 1) all)))) r)

pub paths-stops : (points : List Pair) (made : List Outline) (all : List Value) (i : ℕ) (v : Value) (e : ArgumentFault)
    → i < length all → v ≡ get_or all i v → path_in points (datum_of v) ≡ Err e → paths_onto points (outlines made)
    (elements (drop i all)) ≡ Err e
paths-stops points made all i v e below is r =
    ap (paths_onto points (outlines made)) (elements-drop all i v below is) ∙ ap
    (λ r. and_then r (λ q. paths_onto points (outlines made ++ q ∷ []) (elements (drop (i + 1) all)))) r
