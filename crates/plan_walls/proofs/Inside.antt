-- Outlines wind round a point as round a border point less than one from it: their sides are off that by more.
use Rattle.std.proofs.Common.{◌≡◌, inl, inr, ℕ, ◌≤◌, Bool, true, List, [], ◌∷◌, get_or, refl, sym, ◌∙◌, arith, ℤ, pos, neg_ℤ}
use Rattle.std.proofs.Common.{◌+ℤ◌, ◌-ℤ◌, ◌*ℤ◌, ◌<ℤ◌}
use lib.IntN.{*ℤ_comm}
use lib.Signed.{◌≤ℤ◌}
use Rattle.std.specs.Prelude.{All}
use Rattle.std.proofs.lemmas.Int.{ints}
use Rattle.std.proofs.lemmas.List.Elements.{All-map}
use Rattle.scad_base.proofs.Products.{positive_product}
use Rattle.scad_geom.specs.declared.point.Edge.{Edge}
use Rattle.scad_geom.specs.Point.{Point, whole}
use Rattle.scad_geom.specs.Segment.{segment_of, segments}
use Rattle.scad_geom.specs.Balance.{IsBalanced}
use Rattle.scad_geom.specs.Winding.{wind_by, wind}
use Rattle.scad_geom.specs.Near.{mean}
use Rattle.scad_geom.proofs.Signs.{at_least_mul, square_at_least}
use Rattle.scad_geom.proofs.Rising.{order}
use Rattle.scad_geom.proofs.Ring.{ring, num, ◌⊕◌, ◌⊖◌, ◌⊗◌, v0, v1, v2, v3}
use Rattle.winding_laws.specs.Region.{HalfPlane, Holds, HoldsOrigin, box}
use Rattle.winding_laws.specs.Nearness.{IsNear, IsFarSegment}
use Rattle.winding_laws.proofs.Approach.{at_most_as}
use Rattle.winding_laws.proofs.Regions.{near_itself}
use Rattle.winding_laws.proofs.Forms.{forms_wind_alike}
use Rattle.winding_laws.proofs.OneWinding.{regions_have_one_winding}
use Rattle.winding_laws.specs.Points.{IsWithinOne}
use Rattle.scad_ring.specs.Octagon.{reach, octagon, octagon_of}
use Rattle.scad_ring.specs.Nearness.{Open, IsWithinRegion}
use Rattle.plan_walls.proofs.Off.{IsOff}
use Rattle.plan_walls.proofs.Round.{weight_positive}

-- ---- the square round the border point that is less than one wide on each side and still has the point
-- x / w is at most 1 - 1 / n where it is less than 1 over the divisor n
along_first : (n x y : ℤ) → pos 0 ≤ℤ n → x <ℤ n → (n *ℤ x +ℤ pos 0 *ℤ y) ≤ℤ ((n -ℤ pos 1) *ℤ n)
along_first n x y some h =
    let m = at_least_mul ((n -ℤ pos 1) -ℤ x) n (omega (arith, ints, h)) some in
    let e = gap n x y in
    omega (arith, ints, m, e)
  where
    gap : (n x y : ℤ) → ((n -ℤ pos 1) -ℤ x) *ℤ n ≡ (n -ℤ pos 1) *ℤ n -ℤ (n *ℤ x +ℤ pos 0 *ℤ y)
    gap n x y = ring (n ∷ x ∷ y ∷ []) (((v0 ⊖ num (pos 1)) ⊖ v1) ⊗ v0)
        ((v0 ⊖ num (pos 1)) ⊗ v0 ⊖ (v0 ⊗ v1 ⊕ num (pos 0) ⊗ v2)) refl

turned : (n x y : ℤ) → (pos 0 -ℤ n) *ℤ x +ℤ pos 0 *ℤ y ≡ n *ℤ (pos 0 -ℤ x) +ℤ pos 0 *ℤ y
turned n x y = ring (n ∷ x ∷ y ∷ []) ((num (pos 0) ⊖ v0) ⊗ v1 ⊕ num (pos 0) ⊗ v2)
    (v0 ⊗ (num (pos 0) ⊖ v1) ⊕ num (pos 0) ⊗ v2) refl

along_back : (n x y : ℤ) → pos 0 ≤ℤ n → (pos 0 -ℤ x) <ℤ n → ((pos 0 -ℤ n) *ℤ x +ℤ pos 0 *ℤ y) ≤ℤ ((n -ℤ pos 1) *ℤ n)
along_back n x y some h =
    let m = along_first n (pos 0 -ℤ x) y some h in
    let e = turned n x y in
    omega (arith, ints, m, e)

other_order : (k x l y : ℤ) → k *ℤ x +ℤ l *ℤ y ≡ l *ℤ y +ℤ k *ℤ x
other_order k x l y = omega (arith, ints)

-- the square round b that is less than one wide on each side, by the divisor n
abbrev round_it : ℤ → List HalfPlane
round_it n = box n (n -ℤ pos 1)

in_square : (n x y : ℤ) → pos 0 ≤ℤ n → x <ℤ n → (pos 0 -ℤ x) <ℤ n → y <ℤ n → (pos 0 -ℤ y) <ℤ n
    → Holds (round_it n) (record { x = x; y = y; d = n })
in_square n x y some r l u d = (
  along_first n x y some r,
  (
    along_back n x y some l,
    (
      at_most_as _ _ _ (other_order (pos 0) x n y) (along_first n y x some u),
      (at_most_as _ _ _ (other_order (pos 0) x (pos 0 -ℤ n) y) (along_back n y x some d), tt),
    ),
  ),
)

near_it : (q b : Point) → pos 0 <ℤ (q.d *ℤ b.d) → IsWithinOne q b → IsNear (round_it (q.d *ℤ b.d)) b q
near_it q b some one =
    let e = *ℤ_comm b.d q.d in
    let r = one.right in
    let l = one.left in
    let a = one.above in
    let o = one.below in
    in_square (q.d *ℤ b.d) (q.x *ℤ b.d -ℤ b.x *ℤ q.d) (q.y *ℤ b.d -ℤ b.y *ℤ q.d) (omega (arith, ints, some))
    (omega (arith, ints, l, e)) (omega (arith, ints, r, e)) (omega (arith, ints, o, e)) (omega (arith, ints, a, e))

holds_origin : (n : ℤ) → pos 0 <ℤ n → HoldsOrigin (round_it n)
holds_origin n h = (
  omega (arith, ints, h),
  (omega (arith, ints, h), (omega (arith, ints, h), (omega (arith, ints, h), tt))),
)

-- ---- what the square holds lies strictly within one along both axes, so in the octagon of any distance from 2 on
less_first : (n x y w : ℤ) → pos 0 ≤ℤ n → pos 0 <ℤ w → (n *ℤ x +ℤ pos 0 *ℤ y) ≤ℤ ((n -ℤ pos 1) *ℤ w) → x <ℤ w
less_first n x y w some more h = elim (order w x) [
  | inl k ↦
      let m = at_least_mul (x -ℤ w) n (omega (arith, ints, k)) some in
      let e = gap n x y w in
      absurd (omega (arith, ints, m, e, h, more))
  | inr k ↦ k
]
  where
    gap : (n x y w : ℤ) → (x -ℤ w) *ℤ n ≡ ((n *ℤ x +ℤ pos 0 *ℤ y) -ℤ (n -ℤ pos 1) *ℤ w) -ℤ w
    gap n x y w = ring (n ∷ x ∷ y ∷ w ∷ []) ((v1 ⊖ v3) ⊗ v0)
        (((v0 ⊗ v1 ⊕ num (pos 0) ⊗ v2) ⊖ (v0 ⊖ num (pos 1)) ⊗ v3) ⊖ v3) refl

less_back : (n x y w : ℤ) → pos 0 ≤ℤ n → pos 0 <ℤ w → ((pos 0 -ℤ n) *ℤ x +ℤ pos 0 *ℤ y) ≤ℤ ((n -ℤ pos 1) *ℤ w)
    → (pos 0 -ℤ x) <ℤ w
less_back n x y w some more h = less_first n (pos 0 -ℤ x) y w some more (at_most_as _ _ _ (sym (turned n x y)) h)

-- a half plane whose bound is at least 2
in_half_plane : (n m k x y w : ℤ) → pos 2 ≤ℤ k → pos 0 <ℤ w → (n *ℤ x +ℤ m *ℤ y) <ℤ (pos 2 *ℤ w)
    → (n *ℤ x +ℤ m *ℤ y) <ℤ (k *ℤ w)
in_half_plane n m k x y w two more h =
    let g = at_least_mul (k -ℤ pos 2) w (omega (arith, ints, two)) (omega (arith, ints, more)) in
    let e = two_less k w in
    omega (arith, ints, g, e, h)
  where
    two_less : (k w : ℤ) → (k -ℤ pos 2) *ℤ w ≡ k *ℤ w -ℤ pos 2 *ℤ w
    two_less k w = ring (k ∷ w ∷ []) ((v0 ⊖ num (pos 2)) ⊗ v1) (v0 ⊗ v1 ⊖ num (pos 2) ⊗ v1) refl

in_octagon : (s u : ℤ) (b p : Point) → pos 2 ≤ℤ s → pos 2 ≤ℤ u → pos 0 <ℤ (p.d *ℤ b.d)
    → (p.x *ℤ b.d -ℤ b.x *ℤ p.d) <ℤ (p.d *ℤ b.d) → (pos 0 -ℤ (p.x *ℤ b.d -ℤ b.x *ℤ p.d)) <ℤ (p.d *ℤ b.d)
    → (p.y *ℤ b.d -ℤ b.y *ℤ p.d) <ℤ (p.d *ℤ b.d) → (pos 0 -ℤ (p.y *ℤ b.d -ℤ b.y *ℤ p.d)) <ℤ (p.d *ℤ b.d)
    → IsWithinRegion Open (octagon s u) b p
in_octagon s u b p hs hu more r l a o =
    let x : ℤ = p.x *ℤ b.d -ℤ b.x *ℤ p.d in
    let y : ℤ = p.y *ℤ b.d -ℤ b.y *ℤ p.d in
    let w : ℤ = p.d *ℤ b.d in (
      in_half_plane (pos 1) (pos 0) s x y w hs more (omega (arith, ints, r, more)),
      (
        in_half_plane (neg_ℤ (pos 1)) (pos 0) s x y w hs more (omega (arith, ints, l, more)),
        (
          in_half_plane (pos 0) (pos 1) s x y w hs more (omega (arith, ints, a, more)),
          (
            in_half_plane (pos 0) (neg_ℤ (pos 1)) s x y w hs more (omega (arith, ints, o, more)),
            (
              in_half_plane (pos 1) (pos 1) u x y w hu more (omega (arith, ints, r, a)),
              (
                in_half_plane (pos 1) (neg_ℤ (pos 1)) u x y w hu more (omega (arith, ints, r, o)),
                (
                  in_half_plane (neg_ℤ (pos 1)) (pos 1) u x y w hu more (omega (arith, ints, l, a)),
                  (in_half_plane (neg_ℤ (pos 1)) (neg_ℤ (pos 1)) u x y w hu more (omega (arith, ints, l, o)), tt),
                ),
              ),
            ),
          ),
        ),
      ),
    )

near_by_octagon : (c : ℕ) → 2 ≤ c → (n : ℤ) → pos 0 ≤ℤ n → (b p : Point) → pos 0 <ℤ (p.d *ℤ b.d)
    → IsNear (round_it n) b p → IsWithinRegion Open (octagon_of c) b p
near_by_octagon c two n least b p more h =
    let w : ℤ = p.d *ℤ b.d in
    let x : ℤ = p.x *ℤ b.d -ℤ b.x *ℤ p.d in
    let y : ℤ = p.y *ℤ b.d -ℤ b.y *ℤ p.d in
    in_octagon (pos c) (pos (reach c)) b p (omega (arith, ints, two)) (omega (arith, ints, two)) more
    (less_first n x y w least more h.0)
    (less_back n x y w least more h.1.0)
    (less_first n y x w least more (at_most_as _ _ _ (other_order n y (pos 0) x) h.1.1.0))
    (less_back n y x w least more (at_most_as _ _ _ (other_order (pos 0 -ℤ n) y (pos 0) x) h.1.1.1.0))

-- so a side that b is off is far from it
is_far : (c : ℕ) → 2 ≤ c → (n : ℤ) → pos 0 ≤ℤ n → (b : Point) → pos 0 <ℤ b.d → (e : Edge) → IsOff c b e
    → IsFarSegment (round_it n) b (segment_of e)
is_far c some n least b db e off =
    let one : pos 0 <ℤ pos 1 = omega (arith, ints) in
    record {
      proper = record { from = one; to = one };
      far = λ s t from to more near.
          off s t from to more
          (near_by_octagon c some n least b (mean s t (whole e.a) (whole e.b))
          (positive_product (s *ℤ pos 1 +ℤ t *ℤ pos 1) b.d (weight_positive s t more) db) near);
    }

-- ---- the winding number
pub wound_alike : (c : ℕ) → 2 ≤ c → (es : List Edge) → IsBalanced (segments es) → (q b : Point) → pos 0 <ℤ q.d
    → pos 0 <ℤ b.d → IsWithinOne q b → All (IsOff c b) es → (above right : Bool)
    → wind q (segments es) ≡ wind_by above right b (segments es)
wound_alike c some es balanced q b dq db one off above right =
    let n : ℤ = q.d *ℤ b.d in
    let dn : pos 0 <ℤ n = positive_product q.d b.d dq db in
    let least : pos 0 ≤ℤ n = omega (arith, ints, dn) in
    let origin = holds_origin n dn in
    let far : All (IsFarSegment (round_it n) b) (segments es) = All-map (IsFarSegment (round_it n) b) segment_of es
    (λ i d l. is_far c some n least b db (get_or es i d) (off i d l)) in
    regions_have_one_winding (round_it n) true true b b q db db dq
    (near_itself (round_it n) origin b (square_at_least b.d)) (near_it q b dn one) (segments es) balanced far
    ∙ sym (forms_wind_alike (round_it n) origin above right b db (segments es) balanced far)
