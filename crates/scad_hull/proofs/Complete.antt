-- No face is missing among faces that are closed: from a point just outside of it, all of them would be seen from
-- inside.
use Rattle.std.proofs.Common.{◌≡◌, ◌⊎◌, inl, inr, ℕ, suc, ◌≤◌, true, List, [], ◌∷◌, ◌++◌, length, refl, sym, ap, ap₂, ◌∙◌, arith, subst}
use lib.IntN.{ℤ, pos, ◌+ℤ◌, ◌-ℤ◌, ◌*ℤ◌}
use lib.Signed.{◌<ℤ◌, ◌≤ℤ◌}
use Rattle.std.specs.List.{AllByRecursion, Contains, filter_map}
use Rattle.std.specs.List.Sorted.{IsStrictlySortedBy}
use Rattle.std.specs.Cmp.{IsTotalOrder}
use Rattle.std.proofs.lemmas.Cmp.{lists_total}
use Rattle.std.proofs.lemmas.Int.{ints, by_lt_z}
use Rattle.std.proofs.lemmas.List.Elements.{All-contains}
use Rattle.scad_base.proofs.Products.{positive_product}
use Rattle.scad_geom.specs.declared.point3.Pt3.{Pt3}
use Rattle.scad_geom.proofs.Ring.{Term, ring, num, var, ◌⊕◌, ◌⊖◌, ◌⊗◌}
use Rattle.scad_geom.proofs.Signs.{at_least_mul, climbs}
use Rattle.scad_solid.specs.declared.triangle.Triangle.{Triangle}
use Rattle.scad_solid.specs.Surface.{is_closed}
use Rattle.scad_solid.specs.Solid.{fan, fan_around, fans}
use Rattle.scad_hull.specs.declared.turning.Normal.{Normal}
use Rattle.scad_hull.specs.Plane.{IsBefore}
use Rattle.scad_hull.specs.Distinct.{distinct}
use Rattle.scad_hull.specs.Space.{space_cmp, normal_of, depth_of, inner, face_left, dot_of, square_of}
use Rattle.scad_hull.specs.Faces.{face_through, triples, faces_of, face_cmp, IsFace, IsRing, In, HasBacks, IsSpread}
use Rattle.scad_hull.proofs.Closing.{of_in, closed}
use Rattle.scad_hull.proofs.Distincts.{distinct_keeps, distinct_sorted}
use Rattle.scad_hull.proofs.Escape.{volume}
use Rattle.scad_hull.proofs.FacePlanes.{no_squares, all_changed, faces_are, space_total}
use Rattle.scad_hull.proofs.FacesOne.{plane_of, only_ring}
use Rattle.scad_hull.proofs.Fans.{FanTurns, RingTurns, Differ}
use Rattle.scad_hull.proofs.FoundPlanes.{way_square}
use Rattle.scad_hull.proofs.Lines.{nought_right}
use Rattle.scad_hull.proofs.FaceList.{faces_exact, ring_listed}
use Rattle.scad_hull.proofs.Planar.{Same}
use Rattle.scad_hull.proofs.PlaneRings.{from_other}
use Rattle.scad_hull.proofs.SameFaces.{up_on, parallel, as_from, one_face, ring_facts, corners_of, sums_in}
use Rattle.scad_hull.proofs.SameLists.{in_of, differ, same_lists, from_distinct, to_distinct}
use Rattle.scad_hull.proofs.ViewAlong.{seen}
use Rattle.scad_hull.proofs.Surrounds.{IsDeep, surrounded}

pub faces_total : IsTotalOrder face_cmp
faces_total = lists_total space_total

weak : (z : ℤ) → pos 0 <ℤ z → pos 0 ≤ℤ z
weak z h = omega (arith, ints)

not_none : (z : ℤ) → pos 0 <ℤ z → z ≡ pos 0 → ⊥
not_none z h e = omega (arith, ints)

no_times : (k z : ℤ) → z ≡ pos 0 → k *ℤ z ≡ pos 0
no_times k z e = ap (λ (s : ℤ). k *ℤ s) e ∙ ring (k ∷ []) (var 0 ⊗ num (pos 0)) (num (pos 0)) refl

module _ (ps : List Pt3) where
  -- points in one plane
  pub all_flat : (n : Normal) (a : Pt3) → pos 0 <ℤ square_of n
      → ((p : Pt3) → Contains ps p → depth_of n a p ≡ pos 0)
      → (p q r s : Pt3) → Contains ps p → Contains ps q → Contains ps r → Contains ps s
      → inner p q r s ≡ pos 0
  all_flat n a some flat p q r s ip iq ir is =
      nought_right (square_of n) (inner p q r s)
      (parallel n p q r (from q iq) (from r ir) s
      ∙ no_times (dot_of n (normal_of p q r)) (depth_of n p s) (from s is))
      (not_none (square_of n) some)
    where
      less : (u v w : ℤ) → u ≡ pos 0 → v ≡ pos 0 → w ≡ v -ℤ u → w ≡ pos 0
      less u v w e f g = omega (arith, ints)

      from : (t : Pt3) → Contains ps t → depth_of n p t ≡ pos 0
      from t i = less (depth_of n a p) (depth_of n a t) (depth_of n p t) (flat p ip) (flat t i) (from_other n a p t)

  module _ (sorted : IsStrictlySortedBy space_cmp ps) (spread : IsSpread ps) (g : List Pt3) (G : IsRing ps g) where
    abbrev n : Normal
    n = G.normal

    abbrev g1 : Pt3
    g1 = G.plane.first

    abbrev g2 : Pt3
    g2 = G.plane.second

    abbrev g3 : Pt3
    g3 = G.plane.third

    abbrev m : Normal
    m = normal_of g1 g2 g3

    -- three times how far the middle of the three points lies inside
    abbrev sum_at : Normal → Pt3 → ℤ
    sum_at k a = depth_of k a g1 +ℤ (depth_of k a g2 +ℤ depth_of k a g3)

    flat_2 : depth_of n g1 g2 ≡ pos 0
    flat_2 = sym (as_from n G.base g1 g2 G.plane.flat_first) ∙ G.plane.flat_second

    flat_3 : depth_of n g1 g3 ≡ pos 0
    flat_3 = sym (as_from n G.base g1 g3 G.plane.flat_first) ∙ G.plane.flat_third

    -- as seen from each of the three
    inside_1 : (p : Pt3) → Contains ps p → pos 0 ≤ℤ depth_of n g1 p
    inside_1 p i = subst (λ (z : ℤ). pos 0 ≤ℤ z) (as_from n G.base g1 p G.plane.flat_first)
        (All-contains (λ q. pos 0 ≤ℤ depth_of n G.base q) ps p G.plane.inward i)

    inside_2 : (p : Pt3) → Contains ps p → pos 0 ≤ℤ depth_of n g2 p
    inside_2 p i = subst (λ (z : ℤ). pos 0 ≤ℤ z) (as_from n G.base g2 p G.plane.flat_second)
        (All-contains (λ q. pos 0 ≤ℤ depth_of n G.base q) ps p G.plane.inward i)

    inside_3 : (p : Pt3) → Contains ps p → pos 0 ≤ℤ depth_of n g3 p
    inside_3 p i = subst (λ (z : ℤ). pos 0 ≤ℤ z) (as_from n G.base g3 p G.plane.flat_third)
        (All-contains (λ q. pos 0 ≤ℤ depth_of n G.base q) ps p G.plane.inward i)

    -- ---- each face is the missing one, or has the middle strictly inside
    module _ (r : List Pt3) (R : IsRing ps r) where
      abbrev f : Normal
      f = R.normal

      on_plane : (p : Pt3) → Contains ps p → pos 0 ≤ℤ depth_of f R.base p
      on_plane p i = All-contains (λ q. pos 0 ≤ℤ depth_of f R.base q) ps p R.plane.inward i

      first_of : (x y z : ℤ) → pos 0 ≤ℤ x → pos 0 ≤ℤ y → pos 0 ≤ℤ z
          → (x +ℤ (y +ℤ z)) ≤ℤ pos 0 → x ≡ pos 0
      first_of x y z hx hy hz h = omega (arith, ints)

      second_of : (x y z : ℤ) → pos 0 ≤ℤ x → pos 0 ≤ℤ y → pos 0 ≤ℤ z
          → (x +ℤ (y +ℤ z)) ≤ℤ pos 0 → y ≡ pos 0
      second_of x y z hx hy hz h = omega (arith, ints)

      third_of : (x y z : ℤ) → pos 0 ≤ℤ x → pos 0 ≤ℤ y → pos 0 ≤ℤ z
          → (x +ℤ (y +ℤ z)) ≤ℤ pos 0 → z ≡ pos 0
      third_of x y z hx hy hz h = omega (arith, ints)

      module _ (e1 : depth_of f R.base g1 ≡ pos 0) (e2 : depth_of f R.base g2 ≡ pos 0) (e3 : depth_of f R.base g3 ≡ pos 0) where
        back_2 : depth_of f g1 g2 ≡ pos 0
        back_2 = sym (as_from f R.base g1 g2 e1) ∙ e2

        back_3 : depth_of f g1 g3 ≡ pos 0
        back_3 = sym (as_from f R.base g1 g3 e1) ∙ e3

        over : (p : Pt3) → Contains ps p → pos 0 ≤ℤ depth_of f g1 p
        over p i = subst (λ (z : ℤ). pos 0 ≤ℤ z) (as_from f R.base g1 p e1) (on_plane p i)

        -- the planes can't lie back to back, since then all points lie in them
        turned_off : dot_of f m ≤ℤ pos 0 → ⊥
        turned_off low =
            spread.off (all_flat n g1 G.plane.some (λ p i. none p i) spread.first spread.second spread.third
            spread.fourth
            spread.has_first spread.has_second spread.has_third spread.has_fourth)
          where
            gone : (z : ℤ) → pos 0 ≤ℤ z → pos 0 ≤ℤ (pos 0 -ℤ z) → z ≡ pos 0
            gone z h k = omega (arith, ints)

            rest : (z : ℤ) → z ≤ℤ pos 0 → pos 0 ≤ℤ (pos 0 -ℤ z)
            rest z h = omega (arith, ints)

            opposite : (k x l y : ℤ) → k *ℤ x ≡ l *ℤ y → k *ℤ (pos 0 -ℤ x) ≡ (pos 0 -ℤ l) *ℤ y
            opposite k x l y e =
                ring (k ∷ x ∷ []) (var 0 ⊗ (num (pos 0) ⊖ var 1)) (num (pos 0) ⊖ var 0 ⊗ var 1) refl
                ∙ ap (λ (z : ℤ). pos 0 -ℤ z) e
                ∙ ring (l ∷ y ∷ []) (num (pos 0) ⊖ var 0 ⊗ var 1) ((num (pos 0) ⊖ var 0) ⊗ var 1) refl

            none : (p : Pt3) → Contains ps p → depth_of n g1 p ≡ pos 0
            none p i =
                let d = depth_of m g1 p in
                let h = up_on (square_of n) (dot_of n m) d (depth_of n g1 p) G.plane.some (weak (dot_of n m) G.plane.round)
                (parallel n g1 g2 g3 flat_2 flat_3 p) (inside_1 p i) in
                let k = up_on (square_of f) (pos 0 -ℤ dot_of f m) (pos 0 -ℤ d) (depth_of f g1 p) R.plane.some (rest (dot_of f m) low)
                (opposite (square_of f) d (dot_of f m) (depth_of f g1 p) (parallel f g1 g2 g3 back_2 back_3 p)) (over p i) in
                nought_right (dot_of n m) (depth_of n g1 p)
                (sym (parallel n g1 g2 g3 flat_2 flat_3 p) ∙ no_times (square_of n) d (gone d h k))
                (not_none (dot_of n m) G.plane.round)

        it_is : g ≡ r
        it_is = by_lt_z (pos 0) (dot_of f m)
            (λ h. G.is
            ∙ one_face ps G.base n G.plane R.base f R.plane g1 g2 g3 G.plane.has_first G.plane.has_second
            G.plane.has_third
            G.plane.flat_first G.plane.flat_second G.plane.flat_third G.plane.round e1 e2 e3 h
            ∙ sym R.is)
            (λ h. absurd (turned_off h))

      same_or_far : (g ≡ r) ⊎ (pos 0 <ℤ sum_at f R.base)
      same_or_far =
          let x = on_plane g1 G.plane.has_first in
          let y = on_plane g2 G.plane.has_second in
          let z = on_plane g3 G.plane.has_third in
          let d1 = depth_of f R.base g1 in
          let d2 = depth_of f R.base g2 in
          let d3 = depth_of f R.base g3 in
          by_lt_z (pos 0) (sum_at f R.base) (λ h. inr h)
          (λ h. inl (it_is (first_of d1 d2 d3 x y z h) (second_of d1 d2 d3 x y z h) (third_of d1 d2 d3 x y z h)))

    -- ---- the triangles of such faces
    record IsSeen (t : Triangle) : Type 0 where
      in_a : Contains ps t.a
      in_b : Contains ps t.b
      in_c : Contains ps t.c
      sum : pos 0 <ℤ sum_at (normal_of t.a t.b t.c) t.a

    module _ (r : List Pt3) (R : IsRing ps r) (far : pos 0 <ℤ sum_at R.normal R.base) where
      abbrev IsCorner : Pt3 → Type 0
      IsCorner q = Contains ps q × (depth_of R.normal R.base q ≡ pos 0)

      flat_from : (p q : Pt3) → IsCorner p → IsCorner q → depth_of R.normal p q ≡ pos 0
      flat_from p q hp hq = sym (as_from R.normal R.base p q hp.1) ∙ hq.1

      sums_alike : (a b c : Pt3) → IsCorner a → IsCorner b → IsCorner c
          → square_of R.normal *ℤ sum_at (normal_of a b c) a
          ≡ dot_of R.normal (normal_of a b c) *ℤ sum_at R.normal R.base
      sums_alike a b c ha hb hc =
          let k = R.normal in
          let w = normal_of a b c in
          let N = square_of k in
          let d = dot_of k w in
          let e = λ (p : Pt3). parallel k a b c (flat_from a b ha hb) (flat_from a c ha hc) p ∙ ap (λ (z : ℤ). d *ℤ z) (sym (as_from k R.base a p ha.1)) in
          ring (N ∷ depth_of w a g1 ∷ depth_of w a g2 ∷ depth_of w a g3 ∷ [])
          (var 0 ⊗ (var 1 ⊕ (var 2 ⊕ var 3)))
          (var 0 ⊗ var 1 ⊕ (var 0 ⊗ var 2 ⊕ var 0 ⊗ var 3)) refl
          ∙ ap₂ (λ (x y : ℤ). x +ℤ y) (e g1) (ap₂ (λ (x y : ℤ). x +ℤ y) (e g2) (e g3))
          ∙ ring (d ∷ depth_of k R.base g1 ∷ depth_of k R.base g2 ∷ depth_of k R.base g3 ∷ [])
          (var 0 ⊗ var 1 ⊕ (var 0 ⊗ var 2 ⊕ var 0 ⊗ var 3)) (var 0 ⊗ (var 1 ⊕ (var 2 ⊕ var 3))) refl

      seen_one : (a b c : Pt3) → IsCorner a → IsCorner b → IsCorner c → pos 0 <ℤ face_left R.normal a b c
          → IsSeen (record { a = a; b = b; c = c })
      seen_one a b c ha hb hc h =
          let v = seen R.normal R.plane.some in
          let d = dot_of R.normal (normal_of a b c) in
          let up : pos 0 <ℤ d = climbs v.scale (square_of R.normal) d (face_left R.normal a b c) v.positive R.plane.some
          (v.scaled a b c (flat_from a b ha hb) (flat_from a c ha hc)) h in
          record {
            in_a = ha.0;
            in_b = hb.0;
            in_c = hc.0;
            sum = climbs (square_of R.normal) d (sum_at (normal_of a b c) a) (sum_at R.normal R.base) R.plane.some up
                (sums_alike a b c ha hb hc) far;
          }

      abbrev Fan : Pt3 → Pt3 → List Pt3 → Type 0
      Fan = FanTurns (face_left R.normal) (IsBefore (seen R.normal R.plane.some).f (seen R.normal R.plane.some).g)
          (Same (seen R.normal R.plane.some).f (seen R.normal R.plane.some).g) (seen R.normal R.plane.some).there
          (sums_in R.normal R.plane.some)

      seen_fan : (a b : Pt3) (rs : List Pt3) → IsCorner a → IsCorner b → AllByRecursion IsCorner rs → Fan a b rs
          → AllByRecursion IsSeen (fan_around a b rs)
      seen_fan a b [] ha hb h f = tt
      seen_fan a b (c ∷ rs) ha hb h f = (seen_one a b c ha hb h.0 f.0, seen_fan a c rs ha h.0 h.1 f.1)

      seen_ring : (q : List Pt3) → AllByRecursion IsCorner q
          → RingTurns (face_left R.normal) (IsBefore (seen R.normal R.plane.some).f (seen R.normal R.plane.some).g)
          (Same (seen R.normal R.plane.some).f (seen R.normal R.plane.some).g) (seen R.normal R.plane.some).there
          (sums_in R.normal R.plane.some) q
          → AllByRecursion IsSeen (fan q)
      seen_ring [] h f = tt
      seen_ring (a ∷ []) h f = tt
      seen_ring (a ∷ (b ∷ rs)) h f = seen_fan a b rs h.0 h.1.0 h.1.1 f

      all_seen : AllByRecursion IsSeen (fan r)
      all_seen = seen_ring r (corners_of ps sorted r R) (ring_facts ps sorted r R).1

    joined : {X : Type 0} (P : X → Type 0) (xs ys : List X) → AllByRecursion P xs → AllByRecursion P ys
        → AllByRecursion P (xs ++ ys)
    joined P [] ys h k = k
    joined P (x ∷ xs) ys h k = (h.0, joined P xs ys h.1 k)

    there_or_seen : (rings : List (List Pt3)) → AllByRecursion (IsRing ps) rings
        → In g rings ⊎ AllByRecursion IsSeen (fans rings)
    there_or_seen [] are = inr tt
    there_or_seen (r ∷ rs) are = by_first (same_or_far r are.0) (there_or_seen rs are.1)
      where
        by_first : (g ≡ r) ⊎ (pos 0 <ℤ sum_at are.0.normal are.0.base)
            → In g rs ⊎ AllByRecursion IsSeen (fans rs)
            → In g (r ∷ rs) ⊎ AllByRecursion IsSeen (fans (r ∷ rs))
        by_first (inl e) rest = inl (inl e)
        by_first (inr far) (inl i) = inl (inr i)
        by_first (inr far) (inr h) = inr (joined IsSeen (fan r) (fans rs) (all_seen r are.0 far) h)

    -- ---- how near to the middle the point has to lie
    abbrev aside : Triangle → ℤ
    aside t = dot_of (normal_of t.a t.b t.c) n

    abbrev sum_of : Triangle → ℤ
    sum_of t = sum_at (normal_of t.a t.b t.c) t.a

    abbrev IsDeepFrom : ℤ → Triangle → Type 0
    IsDeepFrom K t = (k : ℤ) → K ≤ℤ k → pos 0 <ℤ sum_of t → pos 0 <ℤ (k *ℤ sum_of t -ℤ aside t)

    step : (w K : ℤ) → (L : ℤ) × (K ≤ℤ L) × (w <ℤ L)
    step w K = by_lt_z w K (λ h. (K, omega (arith, ints), h))
        (λ h. (w +ℤ pos 1, omega (arith, ints), omega (arith, ints)))

    near_by : (s w L k : ℤ) → pos 0 <ℤ L → w <ℤ L → L ≤ℤ k → pos 0 <ℤ s
        → pos 0 <ℤ (k *ℤ s -ℤ w)
    near_by s w L k hl hw hk hs =
        last (k *ℤ s) ((s -ℤ pos 1) *ℤ k) k w L
        (ring (s ∷ k ∷ []) ((var 0 ⊖ num (pos 1)) ⊗ var 1) (var 1 ⊗ var 0 ⊖ var 1) refl)
        (at_least_mul (s -ℤ pos 1) k (one_less s hs) (up L k hl hk)) hw hk
      where
        one_less : (s : ℤ) → pos 0 <ℤ s → pos 0 ≤ℤ (s -ℤ pos 1)
        one_less s h = omega (arith, ints)

        up : (L k : ℤ) → pos 0 <ℤ L → L ≤ℤ k → pos 0 ≤ℤ k
        up L k h l = omega (arith, ints)

        last : (x y k w L : ℤ) → y ≡ x -ℤ k → pos 0 ≤ℤ y → w <ℤ L → L ≤ℤ k
            → pos 0 <ℤ (x -ℤ w)
        last x y k w L e h hw hk = omega (arith, ints)

    bound : (ts : List Triangle) → (K : ℤ) × (pos 0 <ℤ K) × AllByRecursion (IsDeepFrom K) ts
    bound [] = (pos 1, one, tt)
      where
        one : pos 0 <ℤ pos 1
        one = omega (arith, ints)
    bound (t ∷ ts) =
        let rest = bound ts in
        let next = step (aside t) rest.0 in
        let some : pos 0 <ℤ next.0 = more rest.0 next.0 rest.1 next.1 in (
          next.0,
          some,
          (
            λ k h s. near_by (sum_of t) (aside t) next.0 k some next.2 h s,
            all_changed (λ u near k h. near k (through rest.0 next.0 k next.1 h)) ts rest.2,
          ),
        )
      where
        more : (K L : ℤ) → pos 0 <ℤ K → K ≤ℤ L → pos 0 <ℤ L
        more K L h k = omega (arith, ints)

        through : (K L k : ℤ) → K ≤ℤ L → L ≤ℤ k → K ≤ℤ k
        through K L k h l = omega (arith, ints)

    -- ---- as seen from just outside of the middle
    module _ (K : ℤ) (some_k : pos 0 <ℤ K) where
      abbrev X : Pt3 → ℤ
      X p = K *ℤ ((p.x -ℤ g1.x) +ℤ ((p.x -ℤ g2.x) +ℤ (p.x -ℤ g3.x))) +ℤ n.x

      abbrev Y : Pt3 → ℤ
      Y p = K *ℤ ((p.y -ℤ g1.y) +ℤ ((p.y -ℤ g2.y) +ℤ (p.y -ℤ g3.y))) +ℤ n.y

      abbrev Z : Pt3 → ℤ
      Z p = K *ℤ ((p.z -ℤ g1.z) +ℤ ((p.z -ℤ g2.z) +ℤ (p.z -ℤ g3.z))) +ℤ n.z

      further : (u v w s a b : ℤ) → K *ℤ ((b -ℤ u) +ℤ ((b -ℤ v) +ℤ (b -ℤ w))) +ℤ s
          ≡ (K *ℤ ((a -ℤ u) +ℤ ((a -ℤ v) +ℤ (a -ℤ w))) +ℤ s) +ℤ (pos 3 *ℤ K) *ℤ (b -ℤ a)
      further u v w s a b =
          ring (K ∷ u ∷ v ∷ w ∷ s ∷ a ∷ b ∷ [])
          (var 0 ⊗ ((var 6 ⊖ var 1) ⊕ ((var 6 ⊖ var 2) ⊕ (var 6 ⊖ var 3))) ⊕ var 4)
          ((var 0 ⊗ ((var 5 ⊖ var 1) ⊕ ((var 5 ⊖ var 2) ⊕ (var 5 ⊖ var 3))) ⊕ var 4)
          ⊕ (num (pos 3) ⊗ var 0) ⊗ (var 6 ⊖ var 5)) refl

      abbrev V : ℤ → ℤ → ℤ → ℤ → ℤ → ℤ → ℤ → ℤ → ℤ → ℤ
      V xa ya za xb yb zb xc yc zc = za *ℤ (yb *ℤ xc -ℤ xb *ℤ yc) +ℤ
          (zb *ℤ (yc *ℤ xa -ℤ xc *ℤ ya) +ℤ zc *ℤ (ya *ℤ xb -ℤ xa *ℤ yb))

      -- six times the volume that a triangle makes with it
      round_is : (a b c : Pt3) → volume Y X Z a b c
          ≡ (pos 9 *ℤ (K *ℤ K)) *ℤ (K *ℤ sum_at (normal_of a b c) a -ℤ dot_of (normal_of a b c) n)
      unfolding volume
      round_is a b c =
          let k = normal_of a b c in
          let B = λ (v w : Term). v ⊕ (num (pos 3) ⊗ var 3) ⊗ w in
          let mx = var 5 ⊗ var 9 ⊖ var 6 ⊗ var 8 in
          let my = var 6 ⊗ var 7 ⊖ var 4 ⊗ var 9 in
          let mz = var 4 ⊗ var 8 ⊖ var 5 ⊗ var 7 in
          (λ i. V (X a) (Y a) (Z a) (further g1.x g2.x g3.x n.x a.x b.x i) (further g1.y g2.y g3.y n.y a.y b.y i)
          (further g1.z g2.z g3.z n.z a.z b.z i) (further g1.x g2.x g3.x n.x a.x c.x i)
          (further g1.y g2.y g3.y n.y a.y c.y i)
          (further g1.z g2.z g3.z n.z a.z c.z i))
          ∙ ring (X a ∷ Y a ∷ Z a ∷ K ∷ (b.x -ℤ a.x) ∷ (b.y -ℤ a.y) ∷ (b.z -ℤ a.z)
          ∷ (c.x -ℤ a.x) ∷ (c.y -ℤ a.y) ∷ (c.z -ℤ a.z) ∷ [])
          (var 2 ⊗ (B (var 1) (var 5) ⊗ B (var 0) (var 7) ⊖ B (var 0) (var 4) ⊗ B (var 1) (var 8))
          ⊕ (B (var 2) (var 6) ⊗ (B (var 1) (var 8) ⊗ var 0 ⊖ B (var 0) (var 7) ⊗ var 1)
          ⊕ B (var 2) (var 9) ⊗ (var 1 ⊗ B (var 0) (var 4) ⊖ var 0 ⊗ B (var 1) (var 5))))
          ((num (pos 9) ⊗ (var 3 ⊗ var 3)) ⊗ (num (pos 0) ⊖ (mx ⊗ var 0 ⊕ (my ⊗ var 1 ⊕ mz ⊗ var 2))))
          refl
          ∙ ap (λ (z : ℤ). (pos 9 *ℤ (K *ℤ K)) *ℤ z) (from_middle k.x k.y k.z a)
        where
          from_middle : (kx ky kz : ℤ) (a : Pt3) → pos 0 -ℤ (kx *ℤ X a +ℤ (ky *ℤ Y a +ℤ kz *ℤ Z a))
              ≡ K *ℤ ((kx *ℤ (g1.x -ℤ a.x) +ℤ (ky *ℤ (g1.y -ℤ a.y) +ℤ kz *ℤ (g1.z -ℤ a.z)))
              +ℤ ((kx *ℤ (g2.x -ℤ a.x) +ℤ (ky *ℤ (g2.y -ℤ a.y) +ℤ kz *ℤ (g2.z -ℤ a.z)))
              +ℤ (kx *ℤ (g3.x -ℤ a.x) +ℤ (ky *ℤ (g3.y -ℤ a.y) +ℤ kz *ℤ (g3.z -ℤ a.z)))))
              -ℤ (kx *ℤ n.x +ℤ (ky *ℤ n.y +ℤ kz *ℤ n.z))
          from_middle kx ky kz a =
              let D = λ (u v w : Term). var 0 ⊗ (u ⊖ var 4) ⊕ (var 1 ⊗ (v ⊖ var 5) ⊕ var 2 ⊗ (w ⊖ var 6)) in
              let S = λ (p u v w s : Term). var 3 ⊗ ((p ⊖ u) ⊕ ((p ⊖ v) ⊕ (p ⊖ w))) ⊕ s in
              ring (kx ∷ ky ∷ kz ∷ K ∷ a.x ∷ a.y ∷ a.z ∷ g1.x ∷ g1.y ∷ g1.z ∷ g2.x ∷ g2.y ∷ g2.z
              ∷ g3.x ∷ g3.y ∷ g3.z ∷ n.x ∷ n.y ∷ n.z ∷ [])
              (num (pos 0) ⊖ (var 0 ⊗ S (var 4) (var 7) (var 10) (var 13) (var 16)
              ⊕ (var 1 ⊗ S (var 5) (var 8) (var 11) (var 14) (var 17) ⊕ var 2
              ⊗ S (var 6) (var 9) (var 12) (var 15) (var 18))))
              (var 3 ⊗ (D (var 7) (var 8) (var 9) ⊕ (D (var 10) (var 11) (var 12) ⊕ D (var 13) (var 14) (var 15)))
              ⊖ (var 0 ⊗ var 16 ⊕ (var 1 ⊗ var 17 ⊕ var 2 ⊗ var 18))) refl

      -- all points lie ahead
      ahead : (p : Pt3) → Contains ps p → pos 0 <ℤ (n.y *ℤ Y p +ℤ (n.x *ℤ X p +ℤ n.z *ℤ Z p))
      ahead p i =
          on (n.y *ℤ Y p +ℤ (n.x *ℤ X p +ℤ n.z *ℤ Z p))
          (K *ℤ (depth_of n g1 p +ℤ (depth_of n g2 p +ℤ depth_of n g3 p))) (square_of n)
          as_depths
          (at_least_mul K (depth_of n g1 p +ℤ (depth_of n g2 p +ℤ depth_of n g3 p)) (weak K some_k)
          (sum (depth_of n g1 p) (depth_of n g2 p) (depth_of n g3 p) (inside_1 p i) (inside_2 p i) (inside_3 p i)))
          G.plane.some
        where
          sum : (x y z : ℤ) → pos 0 ≤ℤ x → pos 0 ≤ℤ y → pos 0 ≤ℤ z
              → pos 0 ≤ℤ (x +ℤ (y +ℤ z))
          sum x y z hx hy hz = omega (arith, ints)

          on : (x y z : ℤ) → x ≡ y +ℤ z → pos 0 ≤ℤ y → pos 0 <ℤ z → pos 0 <ℤ x
          on x y z e hy hz = omega (arith, ints)

          as_depths : n.y *ℤ Y p +ℤ (n.x *ℤ X p +ℤ n.z *ℤ Z p)
              ≡ K *ℤ (depth_of n g1 p +ℤ (depth_of n g2 p +ℤ depth_of n g3 p)) +ℤ square_of n
          as_depths =
              let D = λ (u v w : Term). var 0 ⊗ (var 4 ⊖ u) ⊕ (var 1 ⊗ (var 5 ⊖ v) ⊕ var 2 ⊗ (var 6 ⊖ w)) in
              let S = λ (q u v w s : Term). var 3 ⊗ ((q ⊖ u) ⊕ ((q ⊖ v) ⊕ (q ⊖ w))) ⊕ s in
              ring (n.x ∷ n.y ∷ n.z ∷ K ∷ p.x ∷ p.y ∷ p.z ∷ g1.x ∷ g1.y ∷ g1.z ∷ g2.x ∷ g2.y
              ∷ g2.z ∷ g3.x ∷ g3.y ∷ g3.z ∷ [])
              (var 1 ⊗ S (var 5) (var 8) (var 11) (var 14) (var 1)
              ⊕ (var 0 ⊗ S (var 4) (var 7) (var 10) (var 13) (var 0) ⊕ var 2
              ⊗ S (var 6) (var 9) (var 12) (var 15) (var 2)))
              (var 3 ⊗ (D (var 7) (var 8) (var 9) ⊕ (D (var 10) (var 11) (var 12) ⊕ D (var 13) (var 14) (var 15)))
              ⊕ (var 0 ⊗ var 0 ⊕ (var 1 ⊗ var 1 ⊕ var 2 ⊗ var 2))) refl

      abbrev vx : ℤ
      vx = g2.x -ℤ g1.x

      abbrev vy : ℤ
      vy = g2.y -ℤ g1.y

      abbrev vz : ℤ
      vz = g2.z -ℤ g1.z

      -- the first two of the three points differ
      long : pos 0 <ℤ way_square g1 g2
      long = by_lt_z (pos 0) (way_square g1 g2) (λ h. h) (λ h. absurd (one_point (no_squares vx vy vz h)))
        where
          one_point : (vx ≡ pos 0) × (vy ≡ pos 0) × (vz ≡ pos 0) → ⊥
          one_point h =
              not_none (dot_of n m) G.plane.round
              ((λ i. n.x *ℤ (h.1 i *ℤ (g3.z -ℤ g1.z) -ℤ h.2 i *ℤ (g3.y -ℤ g1.y))
              +ℤ (n.y *ℤ (h.2 i *ℤ (g3.x -ℤ g1.x) -ℤ h.0 i *ℤ (g3.z -ℤ g1.z))
              +ℤ n.z *ℤ (h.0 i *ℤ (g3.y -ℤ g1.y) -ℤ h.1 i *ℤ (g3.x -ℤ g1.x))))
              ∙ ring (n.x ∷ n.y ∷ n.z ∷ (g3.x -ℤ g1.x) ∷ (g3.y -ℤ g1.y) ∷ (g3.z -ℤ g1.z) ∷ [])
              (var 0 ⊗ (num (pos 0) ⊗ var 5 ⊖ num (pos 0) ⊗ var 4)
              ⊕ (var 1 ⊗ (num (pos 0) ⊗ var 3 ⊖ num (pos 0) ⊗ var 5) ⊕ var 2
              ⊗ (num (pos 0) ⊗ var 4 ⊖ num (pos 0) ⊗ var 3)))
              (num (pos 0)) refl)

      across : pos 0 <ℤ ((n.x *ℤ vz -ℤ n.z *ℤ vx) *ℤ (n.x *ℤ vz -ℤ n.z *ℤ vx)
          +ℤ ((n.z *ℤ vy -ℤ n.y *ℤ vz) *ℤ (n.z *ℤ vy -ℤ n.y *ℤ vz) +ℤ (n.y *ℤ vx -ℤ n.x *ℤ vy)
          *ℤ (n.y *ℤ vx -ℤ n.x *ℤ vy)))
      across =
          let A = var 0 ⊗ var 5 ⊖ var 2 ⊗ var 3 in
          let B = var 2 ⊗ var 4 ⊖ var 1 ⊗ var 5 in
          let C = var 1 ⊗ var 3 ⊖ var 0 ⊗ var 4 in
          let N = var 0 ⊗ var 0 ⊕ (var 1 ⊗ var 1 ⊕ var 2 ⊗ var 2) in
          let W = var 3 ⊗ var 3 ⊕ (var 4 ⊗ var 4 ⊕ var 5 ⊗ var 5) in
          let U = var 0 ⊗ var 3 ⊕ (var 1 ⊗ var 4 ⊕ var 2 ⊗ var 5) in
          subst (λ (z : ℤ). pos 0 <ℤ z)
          (sym (ring (n.x ∷ n.y ∷ n.z ∷ vx ∷ vy ∷ vz ∷ []) (A ⊗ A ⊕ (B ⊗ B ⊕ C ⊗ C))
          (N ⊗ W ⊖ U ⊗ U) refl
          ∙ ap (λ (z : ℤ). square_of n *ℤ way_square g1 g2 -ℤ z *ℤ z) flat_2
          ∙ ring (square_of n ∷ way_square g1 g2 ∷ []) (var 0 ⊗ var 1 ⊖ num (pos 0) ⊗ num (pos 0))
          (var 0 ⊗ var 1) refl))
          (positive_product (square_of n) (way_square g1 g2) G.plane.some long)

      deep_one : (t : Triangle) → IsSeen t → IsDeepFrom K t → IsDeep Y X Z n.y n.x n.z vy vx vz t
      deep_one t h near = record {
        first = ahead t.a h.in_a;
        second = ahead t.b h.in_b;
        third = ahead t.c h.in_c;
        round = subst (λ (z : ℤ). pos 0 <ℤ z) (sym (round_is t.a t.b t.c))
            (positive_product (pos 9 *ℤ (K *ℤ K)) (K *ℤ sum_of t -ℤ aside t)
            (positive_product (pos 9) (K *ℤ K) nine (positive_product K K some_k some_k)) (near K (itself K) h.sum));
      }
        where
          nine : pos 0 <ℤ pos 9
          nine = omega (arith, ints)

          itself : (z : ℤ) → z ≤ℤ z
          itself z = omega (arith, ints)

      deep_all : (ts : List Triangle) → AllByRecursion IsSeen ts → AllByRecursion (IsDeepFrom K) ts
          → AllByRecursion (IsDeep Y X Z n.y n.x n.z vy vx vz) ts
      deep_all [] h near = tt
      deep_all (t ∷ ts) h near = (deep_one t h.0 near.0, deep_all ts h.1 near.1)

      none_at_all : (ts : List Triangle) → AllByRecursion IsSeen ts → AllByRecursion (IsDeepFrom K) ts
          → is_closed ts ≡ true → ts ≡ []
      none_at_all ts h near shut = surrounded Y X Z n.y n.x n.z vy vx vz across ts shut (deep_all ts h near)

    unseen : (ts : List Triangle) → AllByRecursion IsSeen ts → is_closed ts ≡ true → ts ≡ []
    unseen ts h shut = let k = bound ts in none_at_all k.0 k.1 ts h k.2 shut

    longer : (r : List Pt3) (rs : List (List Pt3)) → 3 ≤ length r → fans (r ∷ rs) ≡ [] → ⊥
    longer [] rs l e = omega arith
    longer (a ∷ []) rs l e = omega arith
    longer (a ∷ (b ∷ [])) rs l e = omega arith
    longer (a ∷ (b ∷ (c ∷ ws))) rs l e = some (length (fan_around a c ws ++ fans rs)) (ap length e)
      where
        some : (k : ℕ) → suc k ≡ 0 → ⊥
        some k f = omega arith

    -- a face is one of those
    pub there : (r : List Pt3) (rs : List (List Pt3)) → AllByRecursion (IsRing ps) (r ∷ rs) → Differ (r ∷ rs)
        → HasBacks (r ∷ rs) → In g (r ∷ rs)
    there r rs are d backs = by_case (there_or_seen (r ∷ rs) are)
      where
        by_case : In g (r ∷ rs) ⊎ AllByRecursion IsSeen (fans (r ∷ rs)) → In g (r ∷ rs)
        by_case (inl i) = i
        by_case (inr h) = absurd (longer r rs (ring_facts ps sorted r are.0).0
            (unseen (fans (r ∷ rs)) h (closed ps sorted (r ∷ rs) are d backs)))

  -- ---- the faces that were found
  module _ (sorted : IsStrictlySortedBy space_cmp ps) where
    pub ring_of : (face : List Pt3) → IsFace ps face → IsRing ps face
    ring_of face h =
        let plane = plane_of ps sorted h.base h.normal h.some h.inward face h.ring in
        record {
          base = h.base;
          normal = h.normal;
          plane = plane;
          is
              = only_ring ps sorted h.base h.normal plane face h.ring;
        }

    listed : (r : List Pt3) → IsRing ps r → In r (faces_of ps)
    listed r R = in_of (faces_of ps) r (subst (Contains (faces_of ps)) (sym R.is)
        (ring_listed ps R.base R.normal R.plane))

    module _ (spread : IsSpread ps) (rings : List (List Pt3)) (are : AllByRecursion (IsRing ps) rings) (backs : HasBacks rings)
        (first : List Pt3) (has_first : In first rings) where
      abbrev D : List (List Pt3)
      D = distinct face_cmp rings

      all_are : AllByRecursion (IsRing ps) D
      all_are = distinct_keeps face_cmp (IsRing ps) rings are

      backs_too : HasBacks D
      backs_too r i a b c on =
          let back = backs r (from_distinct face_cmp faces_total rings r i) a b c on in
          (back.0, to_distinct face_cmp faces_total faces_exact rings back.0 back.1, back.2)

      differing : Differ D
      differing = differ face_cmp faces_total D (distinct_sorted face_cmp faces_total rings)

      -- they are closed
      pub found_closed : is_closed (fans D) ≡ true
      found_closed = closed ps sorted D all_are differing backs_too

      in_list : (ds : List (List Pt3)) → In first ds → AllByRecursion (IsRing ps) ds → Differ ds → HasBacks ds
          → (g : List Pt3) → IsRing ps g → In g ds
      in_list [] i h d b g G = absurd i
      in_list (r ∷ rs) i h d b g G = there sorted spread g G r rs h d b

      -- and all
      pub found_all : D ≡ faces_of ps
      found_all =
          same_lists face_cmp faces_total D (faces_of ps) (distinct_sorted face_cmp faces_total rings) (faces_sorted)
          (λ g i. listed g (of_in (IsRing ps) D g all_are i))
          (λ g i. in_list D (to_distinct face_cmp faces_total faces_exact rings first has_first) all_are differing
          backs_too g
          (ring_of g (of_in (IsFace ps) (faces_of ps) g (faces_are ps sorted) i)))
        where
          faces_sorted : IsStrictlySortedBy face_cmp (faces_of ps)
          faces_sorted = distinct_sorted face_cmp faces_total (filter_map (face_through ps) (triples ps))
