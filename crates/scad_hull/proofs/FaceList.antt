-- The plane of a face has its ring among the listed faces; and the listed faces are faces.
use Rattle.std.proofs.Common.{◌≡◌, List, [], ◌∷◌, ◌++◌, map, refl, sym, ap, ap₂, ◌∙◌, subst, Option, Some, None}
use Rattle.std.specs.Cmp.Lexicographic.{slice_cmp}
use Rattle.std.specs.List.{AllByRecursion, Contains, filter_map, flat_map, cons_option}
use Rattle.std.specs.List.Sorted.{IsStrictlySortedBy}
use Rattle.std.specs.declared.cmp.Ordering.TheVariants.{Equal}
use Rattle.std.proofs.lemmas.List.Elements.{All-from_recursion, All-contains, All-contains_itself}
use Rattle.scad_base.proofs.Tests.{both_equal}
use Rattle.scad_geom.specs.declared.point3.Pt3.{Pt3}
use Rattle.scad_hull.specs.declared.turning.Normal.{Normal}
use Rattle.scad_hull.specs.Distinct.{distinct}
use Rattle.scad_hull.specs.Space.{space_cmp}
use Rattle.scad_hull.specs.Faces.{face_in, face_through, face_cmp, triples, faces_of, IsFacePlane, IsFace}
use Rattle.scad_hull.specs.Laws.{FacesAreConvex}
use Rattle.scad_hull.proofs.Distincts.{distinct_had, distinct_sorted}
use Rattle.scad_hull.proofs.FacePlanes.{space_total, space_exact, faces_are}
use Rattle.scad_hull.proofs.FacesOne.{plane_of, only_ring}
use Rattle.scad_hull.proofs.SamePlanes.{face_found}
use Rattle.scad_hull.proofs.Whole.{recursion_of}

pub faces_exact : (xs ys : List Pt3) → face_cmp xs ys ≡ Equal → xs ≡ ys
faces_exact [] [] e = refl
faces_exact [] (y ∷ ys) e = cc
faces_exact (x ∷ xs) [] e = cc
faces_exact (x ∷ xs) (y ∷ ys) e =
    let both = both_equal (space_cmp x y) (slice_cmp space_cmp xs ys) e in
    ap₂ (λ p ps. p ∷ ps) (space_exact x y both.0) (faces_exact xs ys both.1)

-- ---- what holds of all of a list made of another
parted : {X : Type 0} (P : X → Type 0) (xs ys : List X) → AllByRecursion P (xs ++ ys)
    → AllByRecursion P xs × AllByRecursion P ys
parted P [] ys h = (tt, h)
parted P (x ∷ xs) ys h = let rest = parted P xs ys h.1 in ((h.0, rest.0), rest.1)

of_mapped : {X Y : Type 0} (P : Y → Type 0) (f : X → Y) (xs : List X) → AllByRecursion P (map f xs)
    → AllByRecursion (λ x. P (f x)) xs
of_mapped P f [] h = tt
of_mapped P f (x ∷ xs) h = (h.0, of_mapped P f xs h.1)

of_flat_mapped : {X Y : Type 0} (P : Y → Type 0) (f : X → List Y) (xs : List X) → AllByRecursion P (flat_map f xs)
    → AllByRecursion (λ x. AllByRecursion P (f x)) xs
of_flat_mapped P f [] h = tt
of_flat_mapped P f (x ∷ xs) h = let both = parted P (f x) (flat_map f xs) h in (both.0, of_flat_mapped P f xs both.1)

of_picked : {X Y : Type 0} (P : Y → Type 0) (f : X → Option Y) (xs : List X) → AllByRecursion P (filter_map f xs)
    → AllByRecursion (λ x. (y : Y) → f x ≡ Some y → P y) xs
of_picked P f [] h = tt
of_picked {Y = Y} P f (x ∷ xs) h = by_answer (of_picked P f xs) (f x) refl h
  where
    refused : (y : Y) → None ≡ Some y → ⊥
    refused y e = cc

    value : Y → Option Y → Y
    value d None = d
    value d (Some y) = y

    by_answer : (AllByRecursion P (filter_map f xs) → AllByRecursion (λ z. (y : Y) → f z ≡ Some y → P y) xs)
        → (o : Option Y) → f x ≡ o → AllByRecursion P (cons_option o (filter_map f xs))
        → ((y : Y) → f x ≡ Some y → P y) × AllByRecursion (λ x. (y : Y) → f x ≡ Some y → P y) xs
    by_answer rest None e h = (λ y g. absurd (refused y (sym e ∙ g)), rest h)
    by_answer rest (Some z) e h = (λ y g. subst P (ap (value z) (sym e ∙ g)) h.0, rest h.1)

module _ (ps : List Pt3) (P : Pt3 × Pt3 × Pt3 → Type 0) (a b c : Pt3) (ia : Contains ps a) (ib : Contains ps b) (ic : Contains ps c) where
  of_triples : AllByRecursion P (triples ps) → P (a, b, c)
  of_triples h =
      let rows = All-contains (λ x. AllByRecursion P (flat_map (λ y. map (λ z. (x, y, z)) ps) ps)) ps a
      (All-from_recursion _ ps (of_flat_mapped P (λ x. flat_map (λ y. map (λ z. (x, y, z)) ps) ps) ps h)) ia in
      let row = All-contains (λ y. AllByRecursion P (map (λ z. (a, y, z)) ps)) ps b
      (All-from_recursion _ ps (of_flat_mapped P (λ y. map (λ z. (a, y, z)) ps) ps rows)) ib in
      All-contains (λ z. P (a, b, z)) ps c (All-from_recursion _ ps (of_mapped P (λ z. (a, b, z)) ps row)) ic

-- ---- the faces
module _ (ps : List Pt3) where
  pub ring_listed : (a : Pt3) (n : Normal) → IsFacePlane ps a n → Contains (faces_of ps) (face_in ps a n)
  ring_listed a n plane =
      of_triples ps (λ t. (face : List Pt3) → face_through ps t ≡ Some face → Contains (faces_of ps) face)
      plane.first plane.second plane.third plane.has_first plane.has_second plane.has_third
      (of_picked (Contains (faces_of ps)) (face_through ps) (triples ps)
      (distinct_had face_cmp faces_exact (Contains (faces_of ps)) (filter_map (face_through ps) (triples ps))
      (recursion_of (Contains (faces_of ps)) (faces_of ps) (All-contains_itself (faces_of ps)))))
      (face_in ps a n) (face_found ps a n plane)

module _ (ps : List Pt3) (sorted : IsStrictlySortedBy space_cmp ps) where
  pub face_listed : (face : List Pt3) → IsFace ps face → Contains (faces_of ps) face
  face_listed face h =
      let plane = plane_of ps sorted h.base h.normal h.some h.inward face h.ring in
      subst (Contains (faces_of ps)) (sym (only_ring ps sorted h.base h.normal plane face h.ring))
      (ring_listed ps h.base h.normal plane)

pub faces_are_convex : FacesAreConvex
faces_are_convex = record {
  each = λ points. All-from_recursion (IsFace (distinct space_cmp points)) (faces_of (distinct space_cmp points))
      (faces_are (distinct space_cmp points) (distinct_sorted space_cmp space_total points));
  all = λ points face h. face_listed (distinct space_cmp points) (distinct_sorted space_cmp space_total points) face h;
}
