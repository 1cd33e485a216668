-- Faces put in order by their corners with the heights first; and their fans, one face after another.
use Rattle.std.proofs.Common.{◌≡◌, ℕ, suc, ◌+◌, ◌<◌, Bool, true, false, Result, Ok, Err, List, [], ◌∷◌, ◌++◌, length, get_or, drop, map, refl, sym, ap, ap₂, ◌∙◌, arith, append_assoc}
use Rattle.std.proofs.Math.Seq.{drop-cons}
use Rattle.std.specs.Global.{Vec}
use Rattle.std.specs.Prelude.{OnOk}
use Rattle.std.specs.Result.{is_err}
use Rattle.std.specs.BTreeSet.{insert_key}
use Rattle.std.specs.Cmp.Lexicographic.{slice_cmp}
use Rattle.std.specs.List.{flat_map}
use Rattle.std.specs.Ordering.{ordering_then}
use Rattle.std.specs.declared.cmp.Ordering.{Ordering}
use Rattle.scad_geom.specs.declared.point3.Pt3.{Pt3}
use Rattle.scad_solid.specs.declared.triangle.Triangle.{Triangle}
use Rattle.scad_solid.specs.Solid.{fan, fans}
use Rattle.scad_hull.specs.declared.faces.Face.{Face}
use Rattle.scad_hull.specs.declared.node.Node.{Node}
use Rattle.scad_hull.specs.Distinct.{with_all}
use Rattle.scad_hull.specs.Node.{node_of, point_of}
use Rattle.scad_hull.specs.Space.{space_cmp}
use Rattle.scad_hull.specs.Faces.{face_cmp}
use Rattle.scad_hull.specs.Wrapping.{rings_of}
use Rattle.scad_hull.proofs.Orders.{node_cmp, put_same, points_again}

abbrev pub points_in : Vec Node → List Pt3
points_in r = map point_of r.items

abbrev pub ring_cmp : Vec Node → Vec Node → Ordering
ring_cmp x y = slice_cmp node_cmp x.items y.items

cmp_same : (xs ys : List Node) → slice_cmp node_cmp xs ys ≡ slice_cmp space_cmp (map point_of xs) (map point_of ys)
cmp_same [] [] = refl
cmp_same [] (y ∷ ys) = refl
cmp_same (x ∷ xs) [] = refl
cmp_same (x ∷ xs) (y ∷ ys) = ap (ordering_then (node_cmp x y)) (cmp_same xs ys)

one_more : {X : Type 0} (xs : List X) (i : ℕ) (x : X) → i < length xs → x ≡ get_or xs i x
    → drop i xs ≡ x ∷ drop (i + 1) xs
one_more xs i x h e =
    drop-cons xs i x h ∙ ap₂ (λ y ys. y ∷ ys) (sym e) (ap (λ k. drop k xs) next)
  where
    next : suc i ≡ i + 1
    next = omega arith

-- one more point put in order
pub put_point : {X : Type 0} (cmp : X → X → Ordering) (points : List X) (i : ℕ) (p : X) → i < length points
    → p ≡ get_or points i p → (keys new : List X) → new ≡ insert_key cmp keys p
    → with_all cmp new (drop (i + 1) points) ≡ with_all cmp keys (drop i points)
put_point cmp points i p h e keys new is =
    ap (λ ks. with_all cmp ks (drop (i + 1) points)) is ∙ ap (with_all cmp keys) (sym (one_more points i p h e))

-- one more face put in order
pub put_face : (faces : List Face) (i : ℕ) (f : Face) → i < length faces → f ≡ get_or faces i f
    → (keys new : List (Vec Node)) (k : Vec Node)
    → k.items ≡ map node_of f.ring.items → new ≡ insert_key ring_cmp keys k → (all : List (List Pt3))
    → with_all face_cmp (map points_in keys) (rings_of (drop i faces)) ≡ all
    → with_all face_cmp (map points_in new) (rings_of (drop (i + 1) faces)) ≡ all
put_face faces i f h e keys new k is en all before =
    ap (λ ks. with_all face_cmp ks (rings_of (drop (i + 1) faces)))
    (ap (map points_in) en ∙ put_same points_in ring_cmp face_cmp (λ x y. cmp_same x.items y.items) keys k
    ∙ ap (insert_key face_cmp (map points_in keys)) (ap (map point_of) is ∙ points_again f.ring.items))
    ∙ ap (λ fs. with_all face_cmp (map points_in keys) (rings_of fs)) (sym (one_more faces i f h e)) ∙ before

-- one more fan
pub put_fan : (rings : List (Vec Node)) (i : ℕ) (r : Vec Node) → i < length rings → r ≡ get_or rings i r
    → (old new : List Triangle)
    (corners : List Pt3) → corners ≡ map point_of r.items → new ≡ old ++ fan corners → (all : List Triangle)
    → old ++ flat_map (λ x. fan (map point_of x.items)) (drop i rings) ≡ all
    → new ++ flat_map (λ x. fan (map point_of x.items)) (drop (i + 1) rings) ≡ all
put_fan rings i r h e old new corners is en all before =
    ap (λ ts. ts ++ flat_map (λ x. fan (map point_of x.items)) (drop (i + 1) rings))
    (en ∙ ap (λ ps. old ++ fan ps) is)
    ∙ append_assoc old (fan (map point_of r.items)) (flat_map (λ x. fan (map point_of x.items)) (drop (i + 1) rings))
    ∙ ap (λ rs. old ++ flat_map (λ x. fan (map point_of x.items)) rs) (sym (one_more rings i r h e)) ∙ before

-- the fans of rings seen as points
pub fans_of : (rings : List (Vec Node)) → flat_map (λ x. fan (map point_of x.items)) rings
    ≡ fans (map points_in rings)
fans_of [] = refl
fans_of (r ∷ rs) = ap (λ ts. fan (map point_of r.items) ++ ts) (fans_of rs)

-- a result that isn't an error has what it has where it is there
pub on_no_err : {T E P : Type 0} (r : Result T E) (b : Bool) → b ≡ is_err r → b ≡ false → OnOk r P → P
on_no_err (Ok x) b e f h = h
on_no_err (Err x) b e f h = absurd (told_apart (sym e ∙ f))
  where
    told_apart : true ≡ false → ⊥
    told_apart g = cc
