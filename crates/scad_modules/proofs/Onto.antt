-- Points, indices and faces that are read one by one.
use Rattle.std.proofs.Common.{◌≡◌, ℕ, ◌+◌, ◌<◌, Bool, true, List, [], ◌∷◌, ◌++◌, length, get_or, drop, Ok, Err, refl, ap, sym, ◌∙◌}
use Rattle.std.specs.List.{list_all}
use Rattle.std.proofs.lemmas.Bool.{and_from}
use Rattle.std.proofs.lemmas.List.{length_push}
use Rattle.std.proofs.lemmas.List.Folds.{list_all-append}
use Rattle.scad_base.specs.Results.{and_then}
use Rattle.scad_value.specs.declared.value.Value.{Value}
use Rattle.scad_value.specs.View.{datum_of, elements}
use Rattle.scad_value.proofs.Rows.{elements-drop}
use Rattle.scad_modules.specs.declared.fault.ArgumentFault.{ArgumentFault}
use Rattle.scad_modules.specs.FlatShapes.{pair_of, pairs_onto}
use Rattle.scad_modules.specs.Outline.{Pair}
use Rattle.scad_modules.specs.Reading.{Triple, point_of, points_onto, index_of, indices_onto, face_of, faces_onto}

-- what all so far pass, and one more
pub all-more : {X : Type 0} (test : X → Bool) (so_far : List X) (x : X) → list_all test so_far ≡ true → test x ≡ true
    → list_all test (so_far ++ x ∷ []) ≡ true
all-more test so_far x are is =
    list_all-append test so_far (x ∷ []) ∙ and_from (list_all test so_far) (list_all test (x ∷ [])) are
    (and_from (test x) true is refl)

-- one more is counted
pub one-more : {X : Type 0} (all so_far : List X) (x : X) (i : ℕ) → all ≡ so_far ++ x ∷ [] → length so_far ≡ i
    → length all ≡ i + 1
one-more all so_far x i is count = ap length is ∙ length_push so_far x ∙ ap (λ n. n + 1) count

-- the next of the points
pub points-goes : (so_far : List Triple) (all : List Value) (i : ℕ) (v : Value) (p : Triple) → i < length all
    → v ≡ get_or all i v → Ok p ≡ point_of (datum_of v) → points_onto (so_far ++ p ∷ []) (elements (drop (i + 1) all))
    ≡ points_onto so_far (elements (drop i all))
points-goes so_far all i v p below is r =
    sym (ap (points_onto so_far) (elements-drop all i v below is) ∙ ap
    (λ r. and_then r (λ q. points_onto (so_far ++ q ∷ []) (elements (drop (i + 1) all)))) (sym r))

pub points-stops : (so_far : List Triple) (all : List Value) (i : ℕ) (v : Value) (e : ArgumentFault) → i < length all
    → v ≡ get_or all i v → Err e ≡ point_of (datum_of v) → points_onto so_far (elements (drop i all)) ≡ Err e
points-stops so_far all i v e below is r =
    ap (points_onto so_far) (elements-drop all i v below is) ∙ ap
    (λ r. and_then r (λ q. points_onto (so_far ++ q ∷ []) (elements (drop (i + 1) all)))) (sym r)

-- the next of the points of a polygon
pub pairs-goes : (so_far : List Pair) (all : List Value) (i : ℕ) (v : Value) (p : Pair) → i < length all
    → v ≡ get_or all i v → Ok p ≡ pair_of (datum_of v) → pairs_onto (so_far ++ p ∷ []) (elements (drop (i + 1) all))
    ≡ pairs_onto so_far (elements (drop i all))
pairs-goes so_far all i v p below is r =
    sym (ap (pairs_onto so_far) (elements-drop all i v below is) ∙ ap
    (λ r. and_then r (λ q. pairs_onto (so_far ++ q ∷ []) (elements (drop (i + 1) all)))) (sym r))

pub pairs-stops : (so_far : List Pair) (all : List Value) (i : ℕ) (v : Value) (e : ArgumentFault) → i < length all
    → v ≡ get_or all i v → Err e ≡ pair_of (datum_of v) → pairs_onto so_far (elements (drop i all)) ≡ Err e
pairs-stops so_far all i v e below is r =
    ap (pairs_onto so_far) (elements-drop all i v below is) ∙ ap
    (λ r. and_then r (λ q. pairs_onto (so_far ++ q ∷ []) (elements (drop (i + 1) all)))) (sym r)

-- the next of the indices
pub indices-goes : (limit : ℕ) (so_far : List ℕ) (all : List Value) (i : ℕ) (v : Value) (p : ℕ) → i < length all
    → v ≡ get_or all i v → Ok p ≡ index_of limit (datum_of v) → indices_onto limit (so_far ++ p ∷ [])
    (elements (drop (i + 1) all)) ≡ indices_onto limit so_far (elements (drop i all))
indices-goes limit so_far all i v p below is r =
    sym (ap (indices_onto limit so_far) (elements-drop all i v below is) ∙ ap
    (λ r. and_then r (λ q. indices_onto limit (so_far ++ q ∷ []) (elements (drop (i + 1) all)))) (sym r))

pub indices-stops : (limit : ℕ) (so_far : List ℕ) (all : List Value) (i : ℕ) (v : Value) (e : ArgumentFault)
    → i < length all → v ≡ get_or all i v → Err e ≡ index_of limit (datum_of v)
    → indices_onto limit so_far (elements (drop i all)) ≡ Err e
indices-stops limit so_far all i v e below is r =
    ap (indices_onto limit so_far) (elements-drop all i v below is) ∙ ap
    (λ r. and_then r (λ q. indices_onto limit (so_far ++ q ∷ []) (elements (drop (i + 1) all)))) (sym r)

-- the next of the faces
pub faces-goes : (limit : ℕ) (so_far : List (List ℕ)) (all : List Value) (i : ℕ) (v : Value) (p : List ℕ)
    → i < length all → v ≡ get_or all i v → face_of limit (datum_of v) ≡ Ok p → faces_onto limit (so_far ++ p ∷ [])
    (elements (drop (i + 1) all)) ≡ faces_onto limit so_far (elements (drop i all))
faces-goes limit so_far all i v p below is r =
    sym (ap (faces_onto limit so_far) (elements-drop all i v below is) ∙ ap
    (λ r. and_then r (λ q. faces_onto limit (so_far ++ q ∷ []) (elements (drop (i + 1) all)))) r)

pub faces-stops : (limit : ℕ) (so_far : List (List ℕ)) (all : List Value) (i : ℕ) (v : Value) (e : ArgumentFault)
    → i < length all → v ≡ get_or all i v → face_of limit (datum_of v) ≡ Err e
    → faces_onto limit so_far (elements (drop i all)) ≡ Err e
faces-stops limit so_far all i v e below is r =
    ap (faces_onto limit so_far) (elements-drop all i v below is) ∙ ap
    (λ r. and_then r (λ q. faces_onto limit (so_far ++ q ∷ []) (elements (drop (i + 1) all)))) r
