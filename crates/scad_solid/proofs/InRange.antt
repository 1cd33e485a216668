-- Fans over points in range are in range.
use Rattle.std.proofs.Common.{◌≡◌, ℕ, zero, suc, Bool, true, ◌&&◌, List, [], ◌∷◌, map, reverse, pos, refl, ap, ◌∙◌}
use Rattle.std.proofs.lemmas.Bool.{and_parts, and_from}
use Rattle.std.specs.List.{zip, list_all, slice_index_or}
use Rattle.std.proofs.lemmas.List.Folds.{list_all-append}
use Rattle.std.proofs.lemmas.Grind.{reverse_onto}
use Rattle.scad_geom.specs.declared.point3.Pt3.{Pt3}
use Rattle.scad_geom.specs.PointRange.{is_in_range}
use Rattle.scad_solid.specs.Range.{is_triangle_in_range}
use Rattle.scad_solid.specs.declared.side.Side.{Side}
use Rattle.scad_solid.specs.Solid.{corners, fan, fan_around, fans}
use Rattle.scad_solid.specs.Stack.{path, ring_sides, quad, band, faces_below, stack_faces, stacked, rings_in_range}

abbrev origin : Pt3
origin = record { x = pos 0; y = pos 0; z = pos 0 }

point_in_range : (points : List Pt3) (i : ℕ) → list_all is_in_range points ≡ true
    → is_in_range (slice_index_or points i origin) ≡ true
point_in_range [] i all = refl
point_in_range (p ∷ points) zero all = (and_parts (is_in_range p) (list_all is_in_range points) all).0
point_in_range (p ∷ points) (suc i) all = point_in_range points i
    (and_parts (is_in_range p) (list_all is_in_range points) all).1

corners_in_range : (points : List Pt3) (face : List ℕ) → list_all is_in_range points ≡ true
    → list_all is_in_range (corners points face) ≡ true
corners_in_range points [] all = refl
corners_in_range points (i ∷ face) all = and_from _ _ (point_in_range points i all) (corners_in_range points face all)

fan_around_in_range : (p q : Pt3) (rs : List Pt3) → is_in_range p ≡ true → is_in_range q ≡ true
    → list_all is_in_range rs ≡ true → list_all is_triangle_in_range (fan_around p q rs) ≡ true
fan_around_in_range p q [] at_p at_q all = refl
fan_around_in_range p q (r ∷ rs) at_p at_q all =
    let rest = and_parts (is_in_range r) (list_all is_in_range rs) all in
    and_from _ _ (and_from _ _ at_p (and_from _ _ at_q rest.0)) (fan_around_in_range p r rs at_p rest.0 rest.1)

pub fan_in_range : (ps : List Pt3) → list_all is_in_range ps ≡ true → list_all is_triangle_in_range (fan ps) ≡ true
fan_in_range [] all = refl
fan_in_range (p ∷ []) all = refl
fan_in_range (p ∷ q ∷ rs) all =
    let first = and_parts (is_in_range p) (is_in_range q && list_all is_in_range rs) all in
    let second = and_parts (is_in_range q) (list_all is_in_range rs) first.1 in
    fan_around_in_range p q rs first.0 second.0 second.1

pub fans_in_range : (points : List Pt3) (faces : List (List ℕ)) → list_all is_in_range points ≡ true
    → list_all is_triangle_in_range (fans (map (corners points) faces)) ≡ true
fans_in_range points [] all = refl
fans_in_range points (face ∷ faces) all =
    list_all-append is_triangle_in_range (fan (corners points face)) (fans (map (corners points) faces))
    ∙ and_from _ _ (fan_in_range (corners points face) (corners_in_range points face all))
    (fans_in_range points faces all)

pub faces_in_range : (faces : List (List Pt3)) → list_all (λ face. list_all is_in_range face) faces ≡ true
    → list_all is_triangle_in_range (fans faces) ≡ true
faces_in_range [] all = refl
faces_in_range (face ∷ faces) all =
    let one = and_parts (list_all is_in_range face) (list_all (λ f. list_all is_in_range f) faces) all in
    list_all-append is_triangle_in_range (fan face) (fans faces) ∙ and_from _ _ (fan_in_range face one.0)
    (faces_in_range faces one.1)

reverse_in_range : (ps : List Pt3) → list_all is_in_range ps ≡ true → list_all is_in_range (reverse ps) ≡ true
reverse_in_range [] all = refl
reverse_in_range (p ∷ ps) all =
    let one = and_parts (is_in_range p) (list_all is_in_range ps) all in
    ap (list_all is_in_range) (reverse_onto ps p []) ∙ list_all-append is_in_range (reverse ps) (p ∷ []) ∙ and_from _ _
    (reverse_in_range ps one.1) (and_from _ _ one.0 refl)

-- both ends of a side are in range
abbrev ends_in_range : Side → Bool
ends_in_range s = is_in_range s.from && is_in_range s.to

path_in_range : (p : Pt3) (ps : List Pt3) (last : Pt3) → is_in_range p ≡ true → list_all is_in_range ps ≡ true
    → is_in_range last ≡ true → list_all ends_in_range (path p ps last) ≡ true
path_in_range p [] last at_p all at_last = and_from _ _ (and_from _ _ at_p at_last) refl
path_in_range p (q ∷ qs) last at_p all at_last =
    let one = and_parts (is_in_range q) (list_all is_in_range qs) all in
    and_from _ _ (and_from _ _ at_p one.0) (path_in_range q qs last one.0 one.1 at_last)

pub sides_in_range : (ps : List Pt3) → list_all is_in_range ps ≡ true → list_all ends_in_range (ring_sides ps) ≡ true
sides_in_range [] all = refl
sides_in_range (p ∷ ps) all =
    let one = and_parts (is_in_range p) (list_all is_in_range ps) all in
    path_in_range p ps p one.0 one.1 one.0

pub quads_in_range : (ss ts : List Side) → list_all ends_in_range ss ≡ true → list_all ends_in_range ts ≡ true
    → list_all (λ face. list_all is_in_range face) (map quad (zip ss ts)) ≡ true
quads_in_range [] ts all_s all_t = refl
quads_in_range (s ∷ ss) [] all_s all_t = refl
quads_in_range (s ∷ ss) (t ∷ ts) all_s all_t =
    let one_s = and_parts (ends_in_range s) (list_all ends_in_range ss) all_s in
    let one_t = and_parts (ends_in_range t) (list_all ends_in_range ts) all_t in
    let at_s = and_parts (is_in_range s.from) (is_in_range s.to) one_s.0 in
    let at_t = and_parts (is_in_range t.from) (is_in_range t.to) one_t.0 in
    and_from _ _ (and_from _ _ at_s.0 (and_from _ _ at_s.1 (and_from _ _ at_t.1 (and_from _ _ at_t.0 refl))))
    (quads_in_range ss ts one_s.1 one_t.1)

faces_below_in_range : (ring : List Pt3) (rings : List (List Pt3)) → list_all is_in_range ring ≡ true
    → rings_in_range rings ≡ true → list_all (λ face. list_all is_in_range face) (faces_below ring rings) ≡ true
faces_below_in_range ring [] at all = and_from _ _ at refl
faces_below_in_range ring (next ∷ rings) at all =
    let one = and_parts (list_all is_in_range next) (rings_in_range rings) all in
    list_all-append (λ face. list_all is_in_range face) (band ring next) (faces_below next rings)
    ∙ and_from _ _ (quads_in_range (ring_sides ring) (ring_sides next) (sides_in_range ring at)
    (sides_in_range next one.0)) (faces_below_in_range next rings one.0 one.1)

pub stacked_in_range : (rings : List (List Pt3)) → rings_in_range rings ≡ true → list_all is_triangle_in_range
    (stacked rings) ≡ true
unfolding stacked
stacked_in_range [] all = refl
stacked_in_range (top ∷ rings) all =
    let one = and_parts (list_all is_in_range top) (rings_in_range rings) all in
    faces_in_range (stack_faces (top ∷ rings)) (and_from _ _ (reverse_in_range top one.0)
    (faces_below_in_range top rings one.0 one.1))
