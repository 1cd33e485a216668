-- How many triangles faces and stacked rings have.
use Rattle.std.proofs.Common.{◌≡◌, ℕ, suc, ◌+◌, ◌-◌, ◌*◌, ◌==◌, true, List, [], ◌∷◌, ◌++◌, length, map, reverse, arith, refl, ap, ap₂, sym, ◌∙◌, length-append}
use Rattle.std.proofs.lemmas.Bool.{and_parts, eqb-true}
use Rattle.std.specs.List.{zip, list_all, sum_by}
use Rattle.std.proofs.lemmas.Grind.{flat_map-append}
use Rattle.std.proofs.lemmas.List.{length-reverse}
use Rattle.std.proofs.lemmas.List.Sums.{sum_by-cons}
use Rattle.scad_geom.specs.declared.point3.Pt3.{Pt3}
use Rattle.scad_solid.specs.declared.side.Side.{Side}
use Rattle.scad_solid.specs.Solid.{fan, fan_around, fans}
use Rattle.scad_solid.specs.Stack.{path, ring_sides, quad, band, faces_below, stacked}
use Rattle.scad_solid.specs.Wrap.{bands, wrapped}

length-fan_around : (p q : Pt3) (rs : List Pt3) → length (fan_around p q rs) ≡ length rs
length-fan_around p q [] = refl
length-fan_around p q (r ∷ rs) = ap suc (length-fan_around p r rs)

-- a face has two triangles less than points
pub length-fan : (ps : List Pt3) → length (fan ps) ≡ length ps - 2
length-fan [] = refl
length-fan (p ∷ []) = refl
length-fan (p ∷ q ∷ rs) = length-fan_around p q rs ∙ omega arith

pub length-fans-more : (us vs : List (List Pt3)) → length (fans (us ++ vs)) ≡ length (fans us) + length (fans vs)
length-fans-more us vs = ap length (flat_map-append fan us vs) ∙ length-append (fans us) (fans vs)

length-path : (p : Pt3) (qs : List Pt3) (last : Pt3) → length (path p qs last) ≡ suc (length qs)
length-path p [] last = refl
length-path p (q ∷ qs) last = ap suc (length-path q qs last)

length-ring_sides : (ring : List Pt3) → length (ring_sides ring) ≡ length ring
length-ring_sides [] = refl
length-ring_sides (p ∷ ps) = length-path p ps p

-- two triangles for each pair of sides
length-quads : (us vs : List Side) → length us ≡ length vs → length (fans (map quad (zip us vs))) ≡ 2 * length us
length-quads [] vs e = refl
length-quads (a ∷ us) [] e = absurd (omega arith)
length-quads (a ∷ us) (b ∷ vs) e = let more = length-quads us vs (omega arith) in omega arith

pub length-band : (upper lower : List Pt3) → length upper ≡ length lower → length (fans (band upper lower))
    ≡ 2 * length upper
length-band upper lower e =
    length-quads (ring_sides upper) (ring_sides lower) (length-ring_sides upper ∙ e ∙ sym (length-ring_sides lower)) ∙
    ap (λ n. 2 * n) (length-ring_sides upper)

length-below : (m : ℕ) (ring : List Pt3) (rings : List (List Pt3)) → length ring ≡ m → list_all (λ r. length r == m)
    rings ≡ true → length (fans (faces_below ring rings)) ≡ 2 * m * length rings + (m - 2)
length-below m ring [] e all = length-append (fan ring) [] ∙ omega (arith, length-fan ring)
length-below m ring (next ∷ rings) e all =
    let parts = and_parts (length next == m) (list_all (λ r. length r == m) rings) all in
    let same = eqb-true (length next) m parts.0 in
    let here = length-band ring next (e ∙ sym same) in
    let below = length-below m next rings same parts.1 in
    length-fans-more (band ring next) (faces_below next rings) ∙ ap₂ (λ a b. a + b) (here ∙ ap (λ n. 2 * n) e) below ∙
    omega arith

-- the triangles of rings of m points each: top and bottom, and 2 m between each two
pub length-stacked : (m : ℕ) (top : List Pt3) (rings : List (List Pt3)) → length top ≡ m → list_all (λ r. length r == m)
    rings ≡ true → length (stacked (top ∷ rings)) ≡ 2 * (m - 2) + 2 * m * length rings
unfolding stacked
length-stacked m top rings e all =
    let turned = length-fan (reverse top) ∙ ap (λ n. n - 2) (length-reverse top ∙ e) in
    let below = length-below m top rings e all in
    length-append (fan (reverse top)) (fans (faces_below top rings)) ∙ ap₂ (λ a b. a + b) turned below ∙ omega arith

length-bands : (m : ℕ) (ring last : List Pt3) (rings : List (List Pt3)) → length ring ≡ m → length last ≡ m
    → list_all (λ r. length r == m) rings ≡ true → length (fans (bands ring (rings ++ last ∷ [])))
    ≡ 2 * m * (length rings + 1)
length-bands m ring last [] e f all =
    length-fans-more (band ring last) [] ∙ ap (λ n. n + 0) (length-band ring last (e ∙ sym f) ∙ ap (λ n. 2 * n) e) ∙
    omega arith
length-bands m ring last (next ∷ rings) e f all =
    let parts = and_parts (length next == m) (list_all (λ r. length r == m) rings) all in
    let same = eqb-true (length next) m parts.0 in
    let here = length-band ring next (e ∙ sym same) in
    let rest = length-bands m next last rings same f parts.1 in
    length-fans-more (band ring next) (bands next (rings ++ last ∷ [])) ∙ ap₂ (λ a b. a + b) (here ∙ ap (λ n. 2 * n) e)
    rest ∙ omega arith

-- the triangles of rings on a way that comes back to its start: 2 m from each to the next
pub length-wrapped : (m : ℕ) (first : List Pt3) (rings : List (List Pt3)) → length first ≡ m
    → list_all (λ r. length r == m) rings ≡ true → length (wrapped (first ∷ rings)) ≡ 2 * m * (length rings + 1)
unfolding wrapped
length-wrapped m first rings e all = length-bands m first first rings e e all

-- and those of given faces
pub length-fans : (faces : List (List Pt3)) → length (fans faces) ≡ sum_by (λ face. length face - 2) faces
length-fans [] = refl
length-fans (face ∷ faces) =
    length-append (fan face) (fans faces) ∙ ap₂ (λ a b. a + b) (length-fan face) (length-fans faces) ∙ sym
    (sum_by-cons (λ f. length f - 2) face faces)
