-- The hull of points contains what lies on the inner side of all of its faces, and nothing else off their planes.
use Rattle.std.proofs.Common.{◌≡◌, inl, inr, ℕ, ◌≤◌, true, false, not, List, [], ◌∷◌, ◌++◌, length, refl, sym, ap, ◌∙◌, arith, subst, All}
use lib.IntN.{ℤ, pos, negsuc, ◌+ℤ◌, ◌-ℤ◌, ◌*ℤ◌}
use lib.Signed.{◌<ℤ◌, ◌≤ℤ◌}
use Rattle.std.specs.Prelude.{◌↔◌, IsTrue, Some, Ok, zero, suc}
use Rattle.std.specs.List.{AllByRecursion, Contains}
use Rattle.std.specs.List.Sorted.{IsStrictlySortedBy}
use Rattle.std.proofs.lemmas.Int.{ints, by_lt_z}
use Rattle.std.proofs.lemmas.List.Elements.{All-from_recursion, All-contains}
use Rattle.scad_base.proofs.Products.{positive_product}
use Rattle.scad_geom.specs.Point.{Point}
use Rattle.scad_geom.specs.Sign.{is_zero}
use Rattle.scad_geom.specs.Winding.{wind}
use Rattle.scad_geom.specs.declared.point3.Pt3.{Pt3}
use Rattle.scad_geom.proofs.Ring.{Term, ring, num, var, ◌⊕◌, ◌⊖◌, ◌⊗◌}
use Rattle.scad_geom.proofs.Signs.{at_least_mul, climbs}
use Rattle.scad_solid.specs.Cut.{plane_of, cuts_of, contains}
use Rattle.scad_solid.specs.Solid.{fan, fan_around, fans}
use Rattle.scad_solid.specs.Surface.{is_closed}
use Rattle.scad_solid.specs.declared.triangle.Triangle.{Triangle}
use Rattle.scad_hull.specs.Distinct.{distinct}
use Rattle.scad_hull.specs.Faces.{face_in, faces_of, hull_of, IsRing, In}
use Rattle.scad_hull.specs.Plane.{IsBefore}
use Rattle.scad_hull.specs.Space.{space_cmp, normal_of, depth_of, face_left, dot_of, square_of}
use Rattle.scad_hull.specs.declared.turning.Normal.{Normal}
use Rattle.scad_hull.proofs.Backs.{all_rings, faces_close, spread_of, hull_is}
use Rattle.scad_hull.proofs.Distincts.{distinct_sorted}
use Rattle.scad_hull.proofs.Escape.{volume}
use Rattle.scad_hull.proofs.FacePlanes.{all_changed, space_total}
use Rattle.scad_hull.proofs.Fans.{FanTurns, RingTurns}
use Rattle.scad_hull.proofs.FaceList.{ring_listed}
use Rattle.scad_hull.proofs.Planar.{Same}
use Rattle.scad_hull.proofs.SameFaces.{up_on, parallel, as_from, ring_facts, corners_of, sums_in}
use Rattle.scad_hull.proofs.SameLists.{in_of}
use Rattle.scad_hull.proofs.ViewAlong.{seen}
use Rattle.scad_hull.proofs.Whole.{recursion_of}
use Rattle.hull_laws.specs.Laws.{depth_at, inner_at, HullsHold}
use Rattle.hull_laws.proofs.Membership.{IsInside, IsBeyond, across, along, over, inside_winds, outside_unwound}

weak : (z : ℤ) → pos 0 <ℤ z → pos 0 ≤ℤ z
weak z h = omega (arith, ints)

joined : {X : Type 0} (P : X → Type 0) (xs ys : List X) → AllByRecursion P xs → AllByRecursion P ys
    → AllByRecursion P (xs ++ ys)
joined P [] ys h k = k
joined P (x ∷ xs) ys h k = (h.0, joined P xs ys h.1 k)

-- ---- the triangles of faces
module _ (ps : List Pt3) (sorted : IsStrictlySortedBy space_cmp ps) where
  -- its corners are points, and none of the points lies outside
  record IsOn (t : Triangle) : Type 0 where
    in_a : Contains ps t.a
    in_b : Contains ps t.b
    in_c : Contains ps t.c
    inward : (p : Pt3) → Contains ps p → pos 0 ≤ℤ depth_of (normal_of t.a t.b t.c) t.a p

  module _ (r : List Pt3) (R : IsRing ps r) where
    abbrev IsCorner : Pt3 → Type 0
    IsCorner q = Contains ps q × (depth_of R.normal R.base q ≡ pos 0)

    flat_from : (p q : Pt3) → IsCorner p → IsCorner q → depth_of R.normal p q ≡ pos 0
    flat_from p q hp hq = sym (as_from R.normal R.base p q hp.1) ∙ hq.1

    on_one : (a b c : Pt3) → IsCorner a → IsCorner b → IsCorner c → pos 0 <ℤ face_left R.normal a b c
        → IsOn (record { a = a; b = b; c = c })
    on_one a b c ha hb hc h =
        let v = seen R.normal R.plane.some in
        let d = dot_of R.normal (normal_of a b c) in
        let up : pos 0 <ℤ d = climbs v.scale (square_of R.normal) d (face_left R.normal a b c) v.positive R.plane.some
        (v.scaled a b c (flat_from a b ha hb) (flat_from a c ha hc)) h in
        record {
          in_a = ha.0;
          in_b = hb.0;
          in_c = hc.0;
          inward = λ p i. up_on (square_of R.normal) d (depth_of (normal_of a b c) a p) (depth_of R.normal a p)
              R.plane.some (weak d up)
              (parallel R.normal a b c (flat_from a b ha hb) (flat_from a c ha hc) p)
              (subst (λ (z : ℤ). pos 0 ≤ℤ z) (as_from R.normal R.base a p ha.1)
              (All-contains (λ q. pos 0 ≤ℤ depth_of R.normal R.base q) ps p R.plane.inward i));
        }

    abbrev Fan : Pt3 → Pt3 → List Pt3 → Type 0
    Fan = FanTurns (face_left R.normal) (IsBefore (seen R.normal R.plane.some).f (seen R.normal R.plane.some).g)
        (Same (seen R.normal R.plane.some).f (seen R.normal R.plane.some).g) (seen R.normal R.plane.some).there
        (sums_in R.normal R.plane.some)

    on_fan : (a b : Pt3) (rs : List Pt3) → IsCorner a → IsCorner b → AllByRecursion IsCorner rs → Fan a b rs
        → AllByRecursion IsOn (fan_around a b rs)
    on_fan a b [] ha hb h f = tt
    on_fan a b (c ∷ rs) ha hb h f = (on_one a b c ha hb h.0 f.0, on_fan a c rs ha h.0 h.1 f.1)

    on_ring : (q : List Pt3) → AllByRecursion IsCorner q
        → RingTurns (face_left R.normal) (IsBefore (seen R.normal R.plane.some).f (seen R.normal R.plane.some).g)
        (Same (seen R.normal R.plane.some).f (seen R.normal R.plane.some).g) (seen R.normal R.plane.some).there
        (sums_in R.normal R.plane.some) q
        → AllByRecursion IsOn (fan q)
    on_ring [] h f = tt
    on_ring (a ∷ []) h f = tt
    on_ring (a ∷ (b ∷ rs)) h f = on_fan a b rs h.0 h.1.0 h.1.1 f

    all_on : AllByRecursion IsOn (fan r)
    all_on = on_ring r (corners_of ps sorted r R) (ring_facts ps sorted r R).1

  on_fans : (rings : List (List Pt3)) → AllByRecursion (IsRing ps) rings → AllByRecursion IsOn (fans rings)
  on_fans [] h = tt
  on_fans (r ∷ rs) h = joined IsOn (fan r) (fans rs) (all_on r h.0) (on_fans rs h.1)

  -- there is a triangle
  some_triangle : (rings : List (List Pt3)) (r : List Pt3) → In r rings → 3 ≤ length r
      → (t : Triangle) × (us : List Triangle) × (fans rings ≡ t ∷ us)
  some_triangle [] r i l = absurd i
  some_triangle ([] ∷ rs) r (inl e) l = let f = ap length e in absurd (omega arith)
  some_triangle ((a ∷ []) ∷ rs) r (inl e) l = let f = ap length e in absurd (omega arith)
  some_triangle ((a ∷ (b ∷ [])) ∷ rs) r (inl e) l = let f = ap length e in absurd (omega arith)
  some_triangle ((a ∷ (b ∷ (c ∷ ws))) ∷ rs) r (inl e) l =
      (record { a = a; b = b; c = c }, fan_around a c ws ++ fans rs, refl)
  some_triangle (q ∷ rs) r (inr i) l =
      let rest = some_triangle rs r i l in
      behind (fan q) rest.0 rest.1 (fans rs) rest.2
    where
      behind : (xs : List Triangle) (t : Triangle) (us zs : List Triangle) → zs ≡ t ∷ us
          → (t : Triangle) × (us : List Triangle) × (xs ++ zs ≡ t ∷ us)
      behind [] t us zs e = (t, us, e)
      behind (x ∷ xs) t us zs e = (x, xs ++ zs, refl)

-- ---- a point at the plane of a layer
module _ (layer h : ℕ) (q : Point) (dq : pos 0 <ℤ q.d) where
  abbrev plane : ℤ
  plane = plane_of layer h

  -- the volume by which the inner side was told
  inside_by : (t : Triangle) → volume (along layer h q dq) (across layer h q dq) (over layer h q dq) t.a t.b t.c
      ≡ q.d *ℤ inner_at plane q t
  unfolding volume
  inside_by t =
      let a = t.a in
      let b = t.b in
      let c = t.c in
      let A = λ (x : Term). x ⊗ var 11 ⊖ var 9 in
      let L = λ (y : Term). y ⊗ var 11 ⊖ var 10 in
      let O = λ (z : Term). num (pos 2) ⊗ z ⊖ var 12 in
      let mx = (var 4 ⊖ var 1) ⊗ (var 8 ⊖ var 2) ⊖ (var 5 ⊖ var 2) ⊗ (var 7 ⊖ var 1) in
      let my = (var 5 ⊖ var 2) ⊗ (var 6 ⊖ var 0) ⊖ (var 3 ⊖ var 0) ⊗ (var 8 ⊖ var 2) in
      let mz = (var 3 ⊖ var 0) ⊗ (var 7 ⊖ var 1) ⊖ (var 4 ⊖ var 1) ⊗ (var 6 ⊖ var 0) in
      ring (a.x ∷ a.y ∷ a.z ∷ b.x ∷ b.y ∷ b.z ∷ c.x ∷ c.y ∷ c.z ∷ q.x ∷ q.y ∷ q.d ∷ plane
      ∷ [])
      (O (var 2) ⊗ (L (var 4) ⊗ A (var 6) ⊖ A (var 3) ⊗ L (var 7))
      ⊕ (O (var 5) ⊗ (L (var 7) ⊗ A (var 0) ⊖ A (var 6) ⊗ L (var 1)) ⊕ O (var 8)
      ⊗ (L (var 1) ⊗ A (var 3) ⊖ A (var 0) ⊗ L (var 4))))
      (var 11 ⊗ (num (pos 2) ⊗ (mx ⊗ (var 9 ⊖ var 0 ⊗ var 11) ⊕ my ⊗ (var 10 ⊖ var 1 ⊗ var 11))
      ⊕ (mz ⊗ (var 12 ⊖ num (pos 2) ⊗ var 2)) ⊗ var 11)) refl

  -- a plane through the point, along a triangle
  beyond_by : (m : Normal) (a p : Pt3) → (pos 2 *ℤ m.x) *ℤ across layer h q dq p +ℤ
      ((pos 2 *ℤ m.y) *ℤ along layer h q dq p +ℤ (q.d *ℤ m.z) *ℤ over layer h q dq p)
      ≡ (pos 2 *ℤ q.d) *ℤ depth_of m a p -ℤ depth_at plane q a m
  beyond_by m a p =
      ring (m.x ∷ m.y ∷ m.z ∷ a.x ∷ a.y ∷ a.z ∷ p.x ∷ p.y ∷ p.z ∷ q.x ∷ q.y ∷ q.d ∷ plane
      ∷ [])
      ((num (pos 2) ⊗ var 0) ⊗ (var 6 ⊗ var 11 ⊖ var 9)
      ⊕ ((num (pos 2) ⊗ var 1) ⊗ (var 7 ⊗ var 11 ⊖ var 10)
      ⊕ (var 11 ⊗ var 2) ⊗ (num (pos 2) ⊗ var 8 ⊖ var 12)))
      ((num (pos 2) ⊗ var 11) ⊗ (var 0 ⊗ (var 6 ⊖ var 3)
      ⊕ (var 1 ⊗ (var 7 ⊖ var 4) ⊕ var 2 ⊗ (var 8 ⊖ var 5)))
      ⊖ (num (pos 2) ⊗ (var 0 ⊗ (var 9 ⊖ var 3 ⊗ var 11) ⊕ var 1 ⊗ (var 10 ⊖ var 4 ⊗ var 11))
      ⊕ (var 2 ⊗ (var 12 ⊖ num (pos 2) ⊗ var 5)) ⊗ var 11)) refl

  abbrev IsInner : Triangle → Type 0
  IsInner t = pos 0 <ℤ inner_at plane q t

  inside_all : (ts : List Triangle) → AllByRecursion IsInner ts → AllByRecursion (IsInside layer h q dq) ts
  inside_all ts k = all_changed (λ t i. subst (λ (z : ℤ). pos 0 <ℤ z) (sym (inside_by t))
      (positive_product q.d (inner_at plane q t) dq i)) ts k

  told_some : (z : ℤ) → z <ℤ pos 0 → not (is_zero z) ≡ true
  told_some (pos zero) k = absurd (none k)
    where
      none : pos 0 <ℤ pos 0 → ⊥
      none l = omega (arith, ints)
  told_some (pos (suc n)) k = refl
  told_some (negsuc n) k = refl

  -- on the inner side of all
  contained : (t : Triangle) (us ts : List Triangle) → ts ≡ t ∷ us → is_closed ts ≡ true
      → AllByRecursion IsInner ts → contains plane ts q ≡ true
  contained t us ts e shut k =
      told_some (wind q (cuts_of plane ts))
      (subst (λ xs. wind q (cuts_of plane xs) <ℤ pos 0) (sym e)
      (inside_winds layer h q dq t us (subst (λ xs. is_closed xs ≡ true) e shut)
      (inside_all (t ∷ us) (subst (AllByRecursion IsInner) e k))))

  module _ (ps : List Pt3) (sorted : IsStrictlySortedBy space_cmp ps) where
    ahead : (d x y : ℤ) → pos 0 <ℤ d → pos 0 ≤ℤ x → y <ℤ pos 0
        → pos 0 <ℤ ((pos 2 *ℤ d) *ℤ x -ℤ y)
    ahead d x y hd hx hy = more ((pos 2 *ℤ d) *ℤ x) y (at_least_mul (pos 2 *ℤ d) x (twice d hd) hx) hy
      where
        twice : (d : ℤ) → pos 0 <ℤ d → pos 0 ≤ℤ (pos 2 *ℤ d)
        twice d h = omega (arith, ints)

        more : (x y : ℤ) → pos 0 ≤ℤ x → y <ℤ pos 0 → pos 0 <ℤ (x -ℤ y)
        more x y h k = omega (arith, ints)

    module _ (o : Triangle) (on : IsOn ps sorted o) (out : inner_at plane q o <ℤ pos 0) where
      abbrev m : Normal
      m = normal_of o.a o.b o.c

      corner_beyond : (p : Pt3) → Contains ps p
          → pos 0 <ℤ ((pos 2 *ℤ m.x) *ℤ across layer h q dq p +ℤ
          ((pos 2 *ℤ m.y) *ℤ along layer h q dq p +ℤ (q.d *ℤ m.z) *ℤ over layer h q dq p))
      corner_beyond p i = subst (λ (z : ℤ). pos 0 <ℤ z) (sym (beyond_by m o.a p))
          (ahead q.d (depth_of m o.a p) (inner_at plane q o) dq (on.inward p i) out)

      all_beyond : (ts : List Triangle) → AllByRecursion (IsOn ps sorted) ts
          → AllByRecursion (IsBeyond layer h q dq (pos 2 *ℤ m.x) (pos 2 *ℤ m.y) (q.d *ℤ m.z)) ts
      all_beyond ts k = all_changed (λ t i. record {
        first = corner_beyond t.a i.in_a;
        second = corner_beyond t.b i.in_b;
        third = corner_beyond t.c i.in_c;
      }) ts k

      -- outside of one
      left_out : (ts : List Triangle) → is_closed ts ≡ true → AllByRecursion (IsOn ps sorted) ts
          → contains plane ts q ≡ true → ⊥
      left_out ts shut k e =
          told_apart (sym e ∙ ap (λ (z : ℤ). not (is_zero z))
          (outside_unwound layer h q dq (pos 2 *ℤ m.x) (pos 2 *ℤ m.y) (q.d *ℤ m.z) ts shut (all_beyond ts k)))
        where
          told_apart : true ≡ false → ⊥
          told_apart f = cc

    each_inner : (ts : List Triangle) → is_closed ts ≡ true → AllByRecursion (IsOn ps sorted) ts
        → contains plane ts q ≡ true
        → (us : List Triangle) → AllByRecursion (IsOn ps sorted) us
        → AllByRecursion (λ t. inner_at plane q t ≡ pos 0 → ⊥) us → AllByRecursion IsInner us
    each_inner ts shut on e [] k off = tt
    each_inner ts shut on e (t ∷ us) k off = (
      by_lt_z (pos 0) (inner_at plane q t) (λ l. l)
          (λ l. absurd (left_out t k.0 (below (inner_at plane q t) l off.0) ts shut on e)),
      each_inner ts shut on e us k.1 off.1,
    )
      where
        below : (z : ℤ) → z ≤ℤ pos 0 → (z ≡ pos 0 → ⊥) → z <ℤ pos 0
        below z l n = by_lt_z z (pos 0) (λ b. b) (λ b. absurd (n (level z l b)))
          where
            level : (z : ℤ) → z ≤ℤ pos 0 → pos 0 ≤ℤ z → z ≡ pos 0
            level z l b = omega (arith, ints)

pub hulls_hold : HullsHold
hulls_hold = record { each = each }
  where
    each : (points : List Pt3) (ts : List Triangle) → hull_of points ≡ Ok (Some ts) → (layer h : ℕ) (q : Point)
        → (dq : pos 0 <ℤ q.d) → All (λ t. inner_at (plane_of layer h) q t ≡ pos 0 → ⊥) ts
        → IsTrue (contains (plane_of layer h) ts q) ↔ All (λ t. pos 0 <ℤ inner_at (plane_of layer h) q t) ts
    each points ts e layer h q dq off =
        let ps = distinct space_cmp points in
        let sorted = distinct_sorted space_cmp space_total points in
        let hull = hull_is points ts e in
        let shut : is_closed ts ≡ true = subst (λ us. is_closed us ≡ true) (sym hull.are) (faces_close ps sorted) in
        let on : AllByRecursion (IsOn ps sorted) ts = subst (AllByRecursion (IsOn ps sorted)) (sym hull.are)
        (on_fans ps sorted (faces_of ps) (all_rings ps sorted)) in
        let there = (spread_of ps sorted hull.spread).1 in
        let r = face_in ps there.0 there.1 in
        let R : IsRing ps r = record { base = there.0; normal = there.1; plane = there.2; is = refl } in
        let one = some_triangle ps sorted (faces_of ps) r (in_of (faces_of ps) r (ring_listed ps there.0 there.1 there.2)) (ring_facts ps sorted r R).0 in (
          λ c. All-from_recursion (λ t. pos 0 <ℤ inner_at (plane_of layer h) q t) ts
              (each_inner layer h q dq ps sorted ts shut on c ts on
              (recursion_of (λ t. inner_at (plane_of layer h) q t ≡ pos 0 → ⊥) ts off)),
          λ k. contained layer h q dq one.0 one.1 ts (hull.are ∙ one.2) shut
              (recursion_of (λ t. pos 0 <ℤ inner_at (plane_of layer h) q t) ts k),
        )
