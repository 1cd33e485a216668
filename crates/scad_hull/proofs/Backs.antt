-- Behind each side of the faces of points there is one of them, so that they are closed; and points that don't lie in
-- one plane have a face.
use Rattle.std.proofs.Common.{◌≡◌, ◌⊎◌, inl, inr, ℕ, zero, suc, ◌+◌, ◌<◌, ◌≤◌, Bool, true, false, ◌&&◌, List, [], ◌∷◌, length, get_or, refl, sym, ap, ap₂, ◌∙◌, arith, subst, Option, Some, None, Result, Ok, Err}
use lib.IntN.{pos}
use Rattle.std.specs.Prelude.{int_lt, if◌then◌else◌, nat_lt}
use Rattle.std.specs.List.{AllByRecursion, Contains, list_all, list_any, filter_map}
use Rattle.std.specs.List.Sorted.{IsStrictlySortedBy}
use Rattle.std.specs.Prelude.{All}
use Rattle.std.proofs.lemmas.List.Elements.{All-contains, All-contains_itself, All-filter, filter_passes}
use Rattle.scad_geom.specs.Sign.{is_zero}
use Rattle.scad_geom.specs.declared.point3.Pt3.{Pt3}
use Rattle.scad_geom.proofs.Signs.{zero_true}
use Rattle.scad_solid.specs.declared.triangle.Triangle.{Triangle}
use Rattle.scad_solid.specs.Surface.{is_closed}
use Rattle.scad_solid.specs.Solid.{fans}
use Rattle.scad_hull.specs.declared.fault.HullFault.{HullFault}
use Rattle.scad_hull.specs.declared.fault.HullFault.TheVariants.{Points}
use Rattle.scad_hull.specs.declared.turning.Normal.{Normal}
use Rattle.scad_hull.specs.Distinct.{distinct}
use Rattle.scad_hull.specs.Flat.{point_count_limit}
use Rattle.scad_hull.specs.Space.{space_cmp, normal_of, depth_of, beside, is_none, IsTurned}
use Rattle.scad_hull.specs.Faces.{in_plane, face_in, face_through, triples, faces_of, face_cmp, are_flat, hull_of, IsFacePlane, IsRing, IsSpread, HasBacks}
use Rattle.scad_hull.specs.Laws.{HullsClose}
use Rattle.scad_hull.proofs.Beyond.{turned_beyond, apart}
use Rattle.scad_hull.proofs.Closing.{of_in, closed}
use Rattle.scad_hull.proofs.Complete.{faces_total, ring_of}
use Rattle.scad_hull.proofs.Distincts.{distinct_sorted}
use Rattle.scad_hull.proofs.FacePlanes.{all_changed, faces_are, space_total}
use Rattle.scad_hull.proofs.FirstFaces.{no_inner, some_inner, on_x_line, on_d_line, met_off, lowest}
use Rattle.scad_hull.proofs.FirstPlanes.{none_by, some, first_plane, turned_again, two_points}
use Rattle.scad_hull.proofs.FoundPlanes.{plane_found}
use Rattle.scad_hull.proofs.FaceList.{ring_listed}
use Rattle.scad_hull.proofs.NextPlanes.{IsNotLower, turned_at_least}
use Rattle.scad_hull.proofs.NextSides.{side_beyond}
use Rattle.scad_hull.proofs.SameFaces.{side_of}
use Rattle.scad_hull.proofs.SameLists.{in_of, differ}
use Rattle.scad_hull.proofs.OutermostPlane.{more_at}

-- a test holds for all, or there is one for which it doesn't
search_for : {X : Type 0} (p : X → Bool) (xs : List X)
    → (list_all p xs ≡ true) ⊎ ((x : X) × Contains xs x × (p x ≡ false))
search_for p [] = inl refl
search_for {X = X} p (x ∷ xs) = by_test (search_for p xs) (p x) refl
  where
    by_test : (list_all p xs ≡ true) ⊎ ((y : X) × Contains xs y × (p y ≡ false)) → (b : Bool) → p x ≡ b
        → (list_all p (x ∷ xs) ≡ true) ⊎ ((y : X) × Contains (x ∷ xs) y × (p y ≡ false))
    by_test rest false e = inr (x, (0, omega arith, refl), e)
    by_test (inl h) true e = inl (ap₂ (λ a b. a && b) e h)
    by_test (inr r) true e = let there = r.1 in inr (r.0, (suc there.0, (let l = there.1 in omega arith), there.2), r.2)

module _ (ps : List Pt3) where
  -- turning past all points
  turned_past : (a b : Pt3) (n : Normal) (i : ℕ) → i ≤ length ps → IsTurned a b ps n 0
      → (m : Normal) × IsTurned a b ps m i
  turned_past a b n zero h t = (n, t)
  turned_past a b n (suc i) h t =
      let before = turned_past a b n i (omega arith) t in
      let m = before.0 in
      let p = get_or ps i a in
      let next : Normal = if int_lt (depth_of m a p) (pos 0) then normal_of a b p else m in
      let one_more : i + 1 ≡ suc i = omega arith in
      (next, subst (IsTurned a b ps next) one_more (more_at a b ps i a m next (omega arith) before.1 refl))

  turned_all : (a b : Pt3) (n : Normal) → IsTurned a b ps n 0 → (m : Normal) × IsTurned a b ps m (length ps)
  turned_all a b n t = turned_past a b n (length ps) (omega arith) t

  module _ (sorted : IsStrictlySortedBy space_cmp ps) where
    pub all_rings : AllByRecursion (IsRing ps) (faces_of ps)
    all_rings = all_changed (λ face h. ring_of ps sorted face h) (faces_of ps) (faces_are ps sorted)

    pub faces_back : HasBacks (faces_of ps)
    faces_back ring i a b c on =
        let side = (side_of ps sorted ring (of_in (IsRing ps) (faces_of ps) ring all_rings i) a b c on).side in
        let m = turned_all b a (normal_of b a c) (turned_beyond ps a b c side) in (
          face_in ps b m.0,
          in_of (faces_of ps) (face_in ps b m.0)
              (ring_listed ps b m.0 (plane_found ps b a m.0 m.1 side.has_b side.has_a (apart ps a b c side))),
          side_beyond ps sorted a b c side m.0 m.1,
        )

    pub faces_close : is_closed (fans (faces_of ps)) ≡ true
    faces_close = closed ps sorted (faces_of ps) all_rings
        (differ face_cmp faces_total (faces_of ps)
        (distinct_sorted face_cmp faces_total (filter_map (face_through ps) (triples ps))))
        faces_back

    -- ---- a first face
    abbrev HasPlane : Type 0
    HasPlane = (a : Pt3) × (n : Normal) × IsFacePlane ps a n

    in_points : (a : Pt3) (n : Normal) (q : Pt3) → Contains (in_plane ps a n) q → Contains ps q
    in_points a n q i = All-contains (Contains ps) (in_plane ps a n) q
        (All-filter (λ p. is_zero (depth_of n a p)) (Contains ps) ps (All-contains_itself ps)) i

    flat_of : (a : Pt3) (n : Normal) (qs : List Pt3) → AllByRecursion (λ q. is_zero (depth_of n a q) ≡ true) qs
        → AllByRecursion (λ q. depth_of n a q ≡ pos 0) qs
    flat_of a n qs h = all_changed (λ q e. zero_true (depth_of n a q) e) qs h

    told_apart : true ≡ false → ⊥
    told_apart e = cc

    -- about the line through a and d, with the plane that was found first
    module _ (a : Pt3) (n : Normal) (turned : IsTurned a (beside a) ps n (length ps)) (ia : Contains ps a) (d : Pt3)
        (id : Contains ps d) (hd : depth_of n a d ≡ pos 0) (off : is_none (normal_of a (beside a) d) ≡ false)
        (flat : (q : Pt3) → Contains (in_plane ps a n) q → depth_of n a q ≡ pos 0) where
      by_rest : (list_all (λ p. is_none (normal_of a d p)) (in_plane ps a n) ≡ true)
          → (list_all (λ p. is_none (normal_of a d p)) ps ≡ true)
          ⊎ ((x : Pt3) × Contains ps x × (is_none (normal_of a d x) ≡ false))
          → (are_flat ps ≡ true) ⊎ HasPlane
      by_rest line (inl all) = inl (on_d_line ps n (some ps a n turned ia) a d hd off all)
      by_rest line (inr e) =
          let m = turned_all a d (normal_of a d e.0) (turned_again ps a n turned ia d hd line e.0 e.1 e.2) in
          inr (a, m.0, plane_found ps a d m.0 m.1 ia id (two_points a d e.0 e.2))

      by_plane : (list_all (λ p. is_none (normal_of a d p)) (in_plane ps a n) ≡ true)
          ⊎ ((x : Pt3) × Contains (in_plane ps a n) x × (is_none (normal_of a d x) ≡ false))
          → (are_flat ps ≡ true) ⊎ HasPlane
      by_plane (inl line) = by_rest line (search_for (λ p. is_none (normal_of a d p)) ps)
      by_plane (inr e) =
          inr (a, n, first_plane ps a n turned ia d e.0 id (in_points a n e.0 e.1) hd (flat e.0 e.1) e.2)

    module _ (a : Pt3) (ia : Contains ps a) (lowest_a : (p : Pt3) → Contains ps p → IsNotLower a p) where
      flat_at : (n : Normal) (q : Pt3) → Contains (in_plane ps a n) q → depth_of n a q ≡ pos 0
      flat_at n q i =
          zero_true (depth_of n a q) (All-contains (λ p. is_zero (depth_of n a p) ≡ true) (in_plane ps a n) q
          (passes n) i)
        where
          passes : (n : Normal) → All (λ p. is_zero (depth_of n a p) ≡ true) (in_plane ps a n)
          passes n = filter_passes (λ p. is_zero (depth_of n a p)) ps

      by_met : (n : Normal) → IsTurned a (beside a) ps n (length ps)
          → (list_all (λ p. is_none (normal_of a (beside a) p)) (in_plane ps a n) ≡ true)
          ⊎ ((x : Pt3) × Contains (in_plane ps a n) x × (is_none (normal_of a (beside a) x) ≡ false))
          → (are_flat ps ≡ true) ⊎ HasPlane
      by_met n turned (inl none) = absurd (met_off ps a n turned ia none)
      by_met n turned (inr d) =
          by_plane a n turned ia d.0 (in_points a n d.0 d.1) (flat_at n d.0 d.1) d.2 (flat_at n)
          (search_for (λ p. is_none (normal_of a d.0 p)) (in_plane ps a n))

      by_line : (list_all (λ p. is_none (normal_of a (beside a) p)) ps ≡ true)
          ⊎ ((x : Pt3) × Contains ps x × (is_none (normal_of a (beside a) x) ≡ false))
          → (are_flat ps ≡ true) ⊎ HasPlane
      by_line (inl all) = inl (on_x_line ps a all)
      by_line (inr c) =
          let t = turned_at_least a ps (λ k d i. lowest_a (get_or ps k d) (All-contains_itself ps k d i)) c.0 c.1 (lowest_a c.0 c.1)
          (λ line. told_apart (sym (none_by (normal_of a (beside a) c.0) line.x line.y line.z) ∙ c.2)) in
          let m = turned_all a (beside a) (normal_of a (beside a) c.0) t in
          by_met m.0 m.1 (search_for (λ p. is_none (normal_of a (beside a) p)) (in_plane ps a m.0))

    first_of : (qs : List Pt3) → qs ≡ ps → (are_flat ps ≡ true) ⊎ HasPlane
    first_of [] e = inl (ap are_flat (sym e))
    first_of (a ∷ qs) e =
        let long : 0 < length ps = subst (λ xs. 0 < length xs) e (omega arith) in
        let ia : Contains ps a = subst (λ xs. Contains xs a) e (0, omega arith, refl) in
        by_line a ia
        (λ p i. All-contains (IsNotLower a) ps p (lowest ps sorted a long (ap (λ xs. get_or xs 0 a) e)) i)
        (search_for (λ p. is_none (normal_of a (beside a) p)) ps)

    pub spread_of : are_flat ps ≡ false → IsSpread ps × HasPlane
    spread_of off = by_plane_there (first_of ps refl)
      where
        by_inner : (h : HasPlane) → (b : Bool) → list_any (λ p. int_lt (pos 0) (depth_of h.1 h.0 p)) ps ≡ b
            → IsSpread ps × HasPlane
        by_inner h true e = (some_inner ps h.0 h.1 h.2 e, h)
        by_inner h false e = absurd (told_apart (sym (no_inner ps h.0 h.1 h.2 e) ∙ off))

        by_plane_there : (are_flat ps ≡ true) ⊎ HasPlane → IsSpread ps × HasPlane
        by_plane_there (inl e) = absurd (told_apart (sym e ∙ off))
        by_plane_there (inr h) = by_inner h (list_any (λ p. int_lt (pos 0) (depth_of h.1 h.0 p)) ps) refl

-- ---- what a hull is
pub record IsHull (points : List Pt3) (ts : List Triangle) : Type 0 where
  pub spread : are_flat (distinct space_cmp points) ≡ false
  pub are : ts ≡ fans (faces_of (distinct space_cmp points))

module _ (points : List Pt3) (ts : List Triangle) where
  abbrev ps_of : List Pt3
  ps_of = distinct space_cmp points

  abbrev told : Bool → Option (List Triangle)
  told b = if b then None else Some (fans (faces_of ps_of))

  abbrev Outcome : Type 0
  Outcome = Result (Option (List Triangle)) HullFault

  abbrev good : Option (List Triangle) → Outcome
  good o = Ok o

  refused : (k : ℕ) → Err (Points k) ≡ Ok (Some ts) → ⊥
  refused k f = cc

  no_solid : good None ≡ good (Some ts) → ⊥
  no_solid f = cc

  value : Result (Option (List Triangle)) HullFault → List Triangle
  value (Ok (Some us)) = us
  value (Ok None) = []
  value (Err x) = []

  by_flat : (b : Bool) → are_flat ps_of ≡ b → good (told b) ≡ good (Some ts) → IsHull points ts
  unfolding value
  by_flat true g f = absurd (no_solid f)
  by_flat false g f = record { spread = g; are = sym (ap value f) }

  by_count : (b : Bool) → (if b then Err (Points (length ps_of)) else Ok (told (are_flat ps_of))) ≡ Ok (Some ts)
      → IsHull points ts
  by_count true f = absurd (refused (length ps_of) f)
  by_count false f = by_flat (are_flat ps_of) refl f

  pub hull_is : hull_of points ≡ Ok (Some ts) → IsHull points ts
  hull_is e = by_count (nat_lt point_count_limit (length ps_of)) e

pub hulls_close : HullsClose
hulls_close = record {
  each = λ points ts e. let h = hull_is points ts e in
      subst (λ us. is_closed us ≡ true) (sym h.are)
      (faces_close (distinct space_cmp points) (distinct_sorted space_cmp space_total points));
}
