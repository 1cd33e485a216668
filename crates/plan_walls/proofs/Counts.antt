-- How many edges a wall's shape has.
use Rattle.std.proofs.Common.{◌≡◌, ℕ, suc, ◌+◌, ◌*◌, ◌≤◌, List, [], ◌∷◌, length, refl, sym}
use Rattle.std.proofs.Common.{ap, ap₂, ◌∙◌, arith}
use Rattle.std.specs.Prelude.{sum_by}
use Rattle.std.proofs.lemmas.List.{length-map, length-append}
use Rattle.std.proofs.lemmas.List.Sums.{sum_by-cons}
use Rattle.scad_geom.specs.declared.point.Pt.{Pt}
use Rattle.scad_geom.specs.declared.point.Edge.{Edge}
use Rattle.scad_geom.specs.Loop.{path, sides}
use Rattle.scad_ring.specs.Corners.{corners_of}
use Rattle.scad_ring.proofs.Shapes.{corners_of-few}
use Rattle.plan_walls.specs.Walls.{of_leaf, rings_from, with_rings}

-- how many corners the ring round an edge has
abbrev pub corner_count : ℕ → Edge → ℕ
corner_count c e = length (corners_of c e)

pub corner_few : (c : ℕ) (e : Edge) → corner_count c e ≤ 10
corner_few c e = corners_of-few c e

-- a closed way has as many sides as vertices
length-path : (from last : Pt) (ps : List Pt) → length (path from ps last) ≡ suc (length ps)
length-path from last [] = refl
length-path from last (p ∷ ps) = ap suc (length-path p last ps)

length-sides : (l : List Pt) → length (sides l) ≡ length l
length-sides [] = refl
length-sides (p ∷ ps) = length-path p p ps

length-rings : (c k : ℕ) (es : List Edge) → length (rings_from c k es) ≡ sum_by (corner_count c) es
length-rings c k [] = refl
length-rings c k (e ∷ es) =
    length-append (of_leaf k (sides (corners_of c e))) (rings_from c (k + 1) es)
    ∙ ap₂ (λ m n. m + n) (length-map (sides (corners_of c e)) (λ f. record { leaf = k; edge = f })
    ∙ length-sides (corners_of c e)) (length-rings c (k + 1) es)
    ∙ sym (sum_by-cons (corner_count c) e es)

pub count_is : (c : ℕ) (es : List Edge) → length (with_rings c es) ≡ length es + sum_by (corner_count c) es
count_is c es =
    length-append (of_leaf 0 es) (rings_from c 1 es)
    ∙ ap₂ (λ m n. m + n) (length-map es (λ f. record { leaf = 0; edge = f })) (length-rings c 1 es)

pub sides_fewer : (c : ℕ) (es : List Edge) → length es ≤ length (with_rings c es)
sides_fewer c es = let e = count_is c es in omega (arith, e)

pub sum_few : (c : ℕ) (es : List Edge) → sum_by (corner_count c) es ≤ 10 * length es
sum_few c [] = omega arith
sum_few c (e ∷ es) =
    let s = sum_by-cons (corner_count c) e es in
    let f = corner_few c e in
    let r = sum_few c es in
    omega (arith, s, f, r)
