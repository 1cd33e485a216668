-- What the tests say of an edge and a point in halves, from the edge's lower end to its upper one.
use Rattle.std.proofs.Common.{◌≡◌, ◌⊎◌, inl, inr, ℕ, ◌*◌, ◌≤◌, Bool, true, false, cond, refl, subst, arith, ℤ, pos, ◌+ℤ◌, ◌-ℤ◌, ◌*ℤ◌}
use lib.Signed.{◌≤ℤ◌}
use Rattle.std.specs.Prelude.{int_lt}
use Rattle.std.proofs.lemmas.Int.{ints}
use Rattle.std.proofs.lemmas.Bool.{both_ways}
use Rattle.scad_geom.specs.declared.point.Pt.{Pt}
use Rattle.scad_geom.specs.declared.point.Edge.{Edge}
use Rattle.scad_geom.specs.Point.{Point, whole, halves}
use Rattle.scad_geom.specs.Line.{low, high}
use Rattle.scad_geom.specs.Near.{mean}
use Rattle.winding_laws.specs.Region.{HalfPlane}
use Rattle.std.specs.Prelude.{List}
use Rattle.scad_ring.specs.Octagon.{octagon}
use Rattle.scad_ring.specs.Nearness.{Border, Closed, IsWithinRegion, Meets, IsClear}
use Rattle.scad_ring.specs.Tests.{passes}
use Rattle.scad_ring.proofs.Approaches.{meets_if_approach, approach_if_near}
use Rattle.scad_ring.proofs.Meetings.{approach_if_passes, passes_if_approach, narrow, widen}

-- ---- the points of a segment are those of the segment back
pub mean_back : (s t : ℤ) (a b : Point) → mean s t a b ≡ mean t s b a
mean_back s t a b = rw (
  turned (s *ℤ a.x) (t *ℤ b.x),
  turned (s *ℤ a.y) (t *ℤ b.y),
  turned (s *ℤ a.d) (t *ℤ b.d),
) refl
  where
    turned : (x y : ℤ) → x +ℤ y ≡ y +ℤ x
    turned x y = omega (arith, ints)

pub meets_back : (border : Border) (region : List HalfPlane) (q a b : Point) → Meets border region q a b
    → Meets border region q b a
meets_back border region q a b m =
    let some = m.some in
    record {
      s = m.t;
      t = m.s;
      from = m.to;
      to = m.from;
      some = omega (arith, ints);
      near = subst (IsWithinRegion border region q) (mean_back m.s m.t a b) m.near;
    }

clear_back : (border : Border) (region : List HalfPlane) (q a b : Point) → IsClear border region q a b
    → IsClear border region q b a
clear_back border region q a b c s t from to some n =
    c t s to from (omega (arith, ints)) (subst (IsWithinRegion border region q) (mean_back s t b a) n)

-- ---- over the divisor of a point in halves
doubled_is : (z : ℤ) → pos 2 *ℤ z ≡ z *ℤ pos 2
doubled_is z = omega (arith, ints)

abbrev pub SeenPasses : ℤ → ℤ → ℤ → ℤ → Pt → Pt → Bool
SeenPasses S U x y p r = passes S U (pos 2 *ℤ p.x -ℤ x) (pos 2 *ℤ p.y -ℤ y) (pos 2 *ℤ r.x -ℤ x)
    (pos 2 *ℤ r.y -ℤ y)

seen_is : (S U x y : ℤ) (p r : Pt) → SeenPasses S U x y p r
    ≡ passes S U (p.x *ℤ pos 2 -ℤ x) (p.y *ℤ pos 2 -ℤ y) (r.x *ℤ pos 2 -ℤ x) (r.y *ℤ pos 2 -ℤ y)
seen_is S U x y p r = rw (doubled_is p.x, doubled_is p.y, doubled_is r.x, doubled_is r.y) refl

module _ (s u : ℕ) (S U : ℤ) (half : ((S ≡ pos (2 * s)) × (s ≤ u)) ⊎ ((S ≡ pos (2 * u)) × (u ≤ s)))
    (sum : ((U ≡ pos (2 * u)) × (u ≤ 2 * s)) ⊎ ((U ≡ pos (4 * s)) × (2 * s ≤ u))) (x y : ℤ) where
  some : pos 0 ≤ℤ S
  some = elim half [ inl h ↦ let e = h.0 in omega (arith, ints, e) | inr h ↦ let e = h.0 in omega (arith, ints, e) ]

  wide : S ≤ℤ U
  wide = elim half [
    | inl h ↦
        let e = h.0 in
        let l = h.1 in
        elim sum [
          | inl k ↦ let f = k.0 in omega (arith, ints, e, l, f)
          | inr k ↦ let f = k.0 in omega (arith, ints, e, f)
        ]
    | inr h ↦
        let e = h.0 in
        let l = h.1 in
        elim sum [
          | inl k ↦ let f = k.0 in omega (arith, ints, e, f)
          | inr k ↦ let f = k.0 in let m = k.1 in omega (arith, ints, e, l, f, m)
        ]
  ]

  slim : U ≤ℤ (pos 2 *ℤ S)
  slim = elim half [
    | inl h ↦
        let e = h.0 in
        elim sum [
          | inl k ↦ let f = k.0 in let m = k.1 in omega (arith, ints, e, f, m)
          | inr k ↦ let f = k.0 in omega (arith, ints, e, f)
        ]
    | inr h ↦
        let e = h.0 in
        let l = h.1 in
        elim sum [
          | inl k ↦ let f = k.0 in omega (arith, ints, e, f)
          | inr k ↦ let f = k.0 in let m = k.1 in omega (arith, ints, e, l, f, m)
        ]
  ]

  half_is : (S ≡ (pos s *ℤ pos 2)) ⊎ (S ≡ (pos u *ℤ pos 2))
  half_is = elim half [
    | inl h ↦ let e = h.0 in inl (omega (arith, ints, e))
    | inr h ↦ let e = h.0 in inr (omega (arith, ints, e))
  ]

  sum_is : (U ≡ (pos u *ℤ pos 2)) ⊎ (U ≡ (pos 2 *ℤ (pos s *ℤ pos 2)))
  sum_is = elim sum [
    | inl h ↦ let e = h.0 in inl (omega (arith, ints, e))
    | inr h ↦ let e = h.0 in inr (omega (arith, ints, e))
  ]

  half_most : S ≤ℤ (pos s *ℤ pos 2)
  half_most = elim half [
    | inl h ↦ let e = h.0 in omega (arith, ints, e)
    | inr h ↦ let e = h.0 in let l = h.1 in omega (arith, ints, e, l)
  ]

  sum_most : U ≤ℤ (pos u *ℤ pos 2)
  sum_most = elim sum [
    | inl h ↦ let e = h.0 in omega (arith, ints, e)
    | inr h ↦ let e = h.0 in let l = h.1 in omega (arith, ints, e, l)
  ]

  rises : (p r : Pt) → p.y ≤ℤ r.y → pos 0 ≤ℤ ((r.y *ℤ pos 2 -ℤ y) -ℤ (p.y *ℤ pos 2 -ℤ y))
  rises p r h = omega (arith, ints)

  meets_if : (p r : Pt) → p.y ≤ℤ r.y → SeenPasses S U x y p r ≡ true
      → Meets Closed (octagon (pos s) (pos u)) (halves x y) (whole p) (whole r)
  meets_if p r up h = meets_if_approach (halves x y) p r (pos s) (pos u)
      (widen (pos s *ℤ pos 2) (pos u *ℤ pos 2) S U
      (p.x *ℤ pos 2 -ℤ x) (p.y *ℤ pos 2 -ℤ y) (r.x *ℤ pos 2 -ℤ x) (r.y *ℤ pos 2 -ℤ y) half_most sum_most
      (approach_if_passes S U (p.x *ℤ pos 2 -ℤ x) (p.y *ℤ pos 2 -ℤ y) (r.x *ℤ pos 2 -ℤ x)
      (r.y *ℤ pos 2 -ℤ y) some
      wide
      slim (rises p r up) (subst (λ (t : Bool). t ≡ true) (seen_is S U x y p r) h)))

  clear_if : (p r : Pt) → p.y ≤ℤ r.y → SeenPasses S U x y p r ≡ false
      → IsClear Closed (octagon (pos s) (pos u)) (halves x y) (whole p) (whole r)
  clear_if p r up h k t from to many n = both_ways _ (subst (λ (b : Bool). b ≡ false) (seen_is S U x y p r) h)
      (passes_if_approach S U (p.x *ℤ pos 2 -ℤ x) (p.y *ℤ pos 2 -ℤ y) (r.x *ℤ pos 2 -ℤ x)
      (r.y *ℤ pos 2 -ℤ y) some
      wide
      slim (rises p r up) (narrow (pos s *ℤ pos 2) (pos u *ℤ pos 2) S U (p.x *ℤ pos 2 -ℤ x)
      (p.y *ℤ pos 2 -ℤ y)
      (r.x *ℤ pos 2 -ℤ x) (r.y *ℤ pos 2 -ℤ y) half_is sum_is
      (approach_if_near (halves x y) p r (pos s) (pos u) k t from
      to many n)))

  -- ---- of an edge
  pub edge_meets : (e : Edge) → SeenPasses S U x y (low e) (high e) ≡ true
      → Meets Closed (octagon (pos s) (pos u)) (halves x y) (whole e.a) (whole e.b)
  unfolding low high
  edge_meets e = by_order (int_lt e.b.y e.a.y) refl
    where
      by_order : (t : Bool) → int_lt e.b.y e.a.y ≡ t
          → SeenPasses S U x y (cond t e.b e.a) (cond t e.a e.b) ≡ true
          → Meets Closed (octagon (pos s) (pos u)) (halves x y) (whole e.a) (whole e.b)
      by_order true q h = meets_back Closed (octagon (pos s) (pos u)) (halves x y) (whole e.b) (whole e.a)
          (meets_if e.b e.a (omega (arith, ints)) h)
      by_order false q h = meets_if e.a e.b (omega (arith, ints)) h

  pub edge_is_clear : (e : Edge) → SeenPasses S U x y (low e) (high e) ≡ false
      → IsClear Closed (octagon (pos s) (pos u)) (halves x y) (whole e.a) (whole e.b)
  unfolding low high
  edge_is_clear e = by_order (int_lt e.b.y e.a.y) refl
    where
      by_order : (t : Bool) → int_lt e.b.y e.a.y ≡ t
          → SeenPasses S U x y (cond t e.b e.a) (cond t e.a e.b) ≡ false
          → IsClear Closed (octagon (pos s) (pos u)) (halves x y) (whole e.a) (whole e.b)
      by_order true q h = clear_back Closed (octagon (pos s) (pos u)) (halves x y) (whole e.b) (whole e.a)
          (clear_if e.b e.a (omega (arith, ints)) h)
      by_order false q h = clear_if e.a e.b (omega (arith, ints)) h
