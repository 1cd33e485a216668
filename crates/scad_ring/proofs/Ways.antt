-- The ring by an octagon round any edge.
use Rattle.std.proofs.Common.{◌≡◌, ◌⊎◌, inl, inr, ℕ, ◌≤◌, Bool, true, false, cond, ◌&&◌, List, refl, subst, arith, ℤ, pos, neg_ℤ, ◌+ℤ◌, ◌-ℤ◌, ◌<ℤ◌}
use lib.Signed.{◌≤ℤ◌}
use Rattle.std.specs.Prelude.{◌||◌, int_lt, int_le, if◌then◌else◌}
use Rattle.std.proofs.lemmas.Int.{ints}
use Rattle.scad_geom.specs.declared.point.Pt.{Pt}
use Rattle.scad_geom.specs.declared.point.Edge.{Edge}
use Rattle.scad_geom.specs.Point.{whole}
use Rattle.scad_ring.specs.Octagon.{slant, reach, octagon}
use Rattle.scad_ring.specs.Nearness.{Closed}
use Rattle.scad_ring.specs.Ring.{IsRing}
use Rattle.scad_ring.specs.declared.direction.Direction.{Direction}
use Rattle.scad_ring.specs.declared.direction.Direction.TheVariants.{Still, Flat, Right, DiagonalRight, SteepRight, Upright, SteepLeft, DiagonalLeft, Left}
use Rattle.scad_ring.specs.Corners.{direction_of, eight_sided, four_sided, corners_round, corners_of}
use Rattle.scad_ring.proofs.EdgeTests.{meets_back}
use Rattle.scad_ring.proofs.Offsets.{IsRingRound}
use Rattle.scad_ring.proofs.StillRing.{still_round}
use Rattle.scad_ring.proofs.FlatRing.{flat_round}
use Rattle.scad_ring.proofs.RightRing.{right_round}
use Rattle.scad_ring.proofs.DiagonalRightRing.{diagonal_right_round}
use Rattle.scad_ring.proofs.SteepRightRing.{steep_right_round}
use Rattle.scad_ring.proofs.UprightRing.{upright_round}
use Rattle.scad_ring.proofs.SteepLeftRing.{steep_left_round}
use Rattle.scad_ring.proofs.DiagonalLeftRing.{diagonal_left_round}
use Rattle.scad_ring.proofs.LeftRing.{left_round}
use Rattle.scad_ring.proofs.SmallStillRing as small_still
use Rattle.scad_ring.proofs.SmallRightRing as small_right
use Rattle.scad_ring.proofs.SmallDiagonalRightRing as small_diagonal_right
use Rattle.scad_ring.proofs.SmallSteepRightRing as small_steep_right
use Rattle.scad_ring.proofs.SmallDiagonalLeftRing as small_diagonal_left
use Rattle.scad_ring.proofs.SmallLeftRing as small_left

-- ---- by the tests of the direction
module _ (p r : Pt) (forward : (p.y <ℤ r.y) ⊎ ((p.y ≡ r.y) × (p.x ≤ℤ r.x))) where
  -- a fact of each direction is one of the direction found
  by_direction : (F : Direction → Type 0)
      → (p.x ≡ r.x → p.y ≡ r.y → F Still)
      → (p.x <ℤ r.x → p.y ≡ r.y → F Flat)
      → (p.y <ℤ r.y → (r.y -ℤ p.y) <ℤ (r.x -ℤ p.x) → F Right)
      → (p.x <ℤ r.x → r.y -ℤ p.y ≡ r.x -ℤ p.x → F DiagonalRight)
      → (p.x <ℤ r.x → (r.x -ℤ p.x) <ℤ (r.y -ℤ p.y) → F SteepRight)
      → (p.x ≡ r.x → p.y <ℤ r.y → F Upright)
      → (r.x <ℤ p.x → (p.x -ℤ r.x) <ℤ (r.y -ℤ p.y) → F SteepLeft)
      → (r.x <ℤ p.x → r.y -ℤ p.y ≡ p.x -ℤ r.x → F DiagonalLeft)
      → (p.y <ℤ r.y → (r.y -ℤ p.y) <ℤ (p.x -ℤ r.x) → F Left)
      → F (direction_of (r.x -ℤ p.x) (r.y -ℤ p.y))
  unfolding direction_of
  by_direction F still flat right diagonal_right steep_right upright steep_left diagonal_left left =
      by_y (int_lt (pos 0) (r.y -ℤ p.y)) (int_lt (pos 0) (r.x -ℤ p.x)) (int_lt (r.x -ℤ p.x) (pos 0)) refl refl
      refl
    where
      to_right : int_lt (pos 0) (r.x -ℤ p.x) ≡ true → int_lt (pos 0) (r.y -ℤ p.y) ≡ true → (t u : Bool)
          → int_lt (r.y -ℤ p.y) (r.x -ℤ p.x) ≡ t → int_lt (r.x -ℤ p.x) (r.y -ℤ p.y) ≡ u
          → F (if t then Right else (if u then SteepRight else DiagonalRight))
      to_right x y true u q s = right (omega (arith, ints)) (omega (arith, ints))
      to_right x y false true q s = steep_right (omega (arith, ints)) (omega (arith, ints))
      to_right x y false false q s = diagonal_right (omega (arith, ints)) (omega (arith, ints))

      to_left : int_lt (r.x -ℤ p.x) (pos 0) ≡ true → int_lt (pos 0) (r.y -ℤ p.y) ≡ true → (t u : Bool)
          → int_lt (r.y -ℤ p.y) (neg_ℤ (r.x -ℤ p.x)) ≡ t
          → int_lt (neg_ℤ (r.x -ℤ p.x)) (r.y -ℤ p.y) ≡ u
          → F (if t then Left else (if u then SteepLeft else DiagonalLeft))
      to_left x y true u q s = left (omega (arith, ints)) (omega (arith, ints))
      to_left x y false true q s = steep_left (omega (arith, ints)) (omega (arith, ints))
      to_left x y false false q s = diagonal_left (omega (arith, ints)) (omega (arith, ints))

      level : int_lt (pos 0) (r.y -ℤ p.y) ≡ false → (p.y ≡ r.y) × (p.x ≤ℤ r.x)
      level h = elim forward [
        | inl f ↦ absurd (omega (arith, ints, h, f))
        | inr f ↦ f
      ]

      by_y : (t u v : Bool) → int_lt (pos 0) (r.y -ℤ p.y) ≡ t → int_lt (pos 0) (r.x -ℤ p.x) ≡ u
          → int_lt (r.x -ℤ p.x) (pos 0) ≡ v
          → F (if t then (if u
          then (if int_lt (r.y -ℤ p.y) (r.x -ℤ p.x) then Right else
          (if int_lt (r.x -ℤ p.x) (r.y -ℤ p.y) then SteepRight
          else DiagonalRight))
          else (if v
          then (if int_lt (r.y -ℤ p.y) (neg_ℤ (r.x -ℤ p.x)) then Left else
          (if int_lt (neg_ℤ (r.x -ℤ p.x)) (r.y -ℤ p.y)
          then SteepLeft else DiagonalLeft))
          else Upright))
          else (if u then Flat else Still))
      by_y true true v y x z = to_right x y (int_lt (r.y -ℤ p.y) (r.x -ℤ p.x))
          (int_lt (r.x -ℤ p.x) (r.y -ℤ p.y))
          refl refl
      by_y true false true y x z = to_left z y (int_lt (r.y -ℤ p.y) (neg_ℤ (r.x -ℤ p.x)))
          (int_lt (neg_ℤ (r.x -ℤ p.x)) (r.y -ℤ p.y)) refl refl
      by_y true false false y x z = upright (omega (arith, ints)) (omega (arith, ints))
      by_y false true v y x z = flat (omega (arith, ints)) ((level y).0)
      by_y false false v y x z = let l = (level y).1 in still (omega (arith, ints)) ((level y).0)

  eight : (c t u : ℤ) → u ≡ c +ℤ t → pos 0 <ℤ t → t <ℤ c
      → IsRingRound c u p r (eight_sided c t p r (direction_of (r.x -ℤ p.x) (r.y -ℤ p.y)))
  eight c t u sum some less = by_direction (λ w. IsRingRound c u p r (eight_sided c t p r w))
      (still_round c t u sum some less p r) (flat_round c t u sum some less p r) (right_round c t u sum some less p r)
      (diagonal_right_round c t u sum some less p r) (steep_right_round c t u sum some less p r)
      (upright_round c t u sum some less p r) (steep_left_round c t u sum some less p r)
      (diagonal_left_round c t u sum some less p r) (left_round c t u sum some less p r)

  four : (c : ℤ) → pos 0 <ℤ c → IsRingRound c c p r
      (four_sided c p r (direction_of (r.x -ℤ p.x) (r.y -ℤ p.y)))
  four c some = by_direction (λ w. IsRingRound c c p r (four_sided c p r w))
      (small_still.still_round c some p r)
      (λ x y. small_right.right_round c some p r (omega (arith, ints)) (omega (arith, ints)))
      (λ y x. small_right.right_round c some p r (omega (arith, ints)) x)
      (small_diagonal_right.diagonal_right_round c some p r)
      (λ x y. small_steep_right.steep_right_round c some p r y (omega (arith, ints)))
      (λ x y. small_steep_right.steep_right_round c some p r (omega (arith, ints)) (omega (arith, ints)))
      (λ x y. small_steep_right.steep_right_round c some p r (omega (arith, ints)) y)
      (small_diagonal_left.diagonal_left_round c some p r)
      (small_left.left_round c some p r)

  -- the corners by cases of the slant
  any : (c t u : ℤ) → u ≡ c +ℤ t → pos 0 ≤ℤ t → t <ℤ c → IsRingRound c u p r (corners_round c t p r)
  any c t u sum some less = by_slant (int_lt (pos 0) t) refl
    where
      by_slant : (z : Bool) → int_lt (pos 0) t ≡ z → IsRingRound c u p r
          (if z then eight_sided c t p r (direction_of (r.x -ℤ p.x) (r.y -ℤ p.y))
          else four_sided c p r (direction_of (r.x -ℤ p.x) (r.y -ℤ p.y)))
      by_slant true h = eight c t u sum (omega (arith, ints, h)) less
      by_slant false h = subst (λ (v : ℤ). IsRingRound c v p r (four_sided c p r
          (direction_of (r.x -ℤ p.x) (r.y -ℤ p.y)))) (omega (arith, ints, h, sum, some)) (four c (omega (
            arith,
            ints,
            h,
            some,
            less,
          )))

-- ---- either way along the edge
round_back : (c u : ℤ) (p r : Pt) (corners : List Pt) → IsRingRound c u r p corners
    → IsRingRound c u p r corners
round_back c u p r corners h = record {
  holds = λ q d. (
    (λ m. (h.holds q d).0 (meets_back Closed (octagon c u) q (whole p) (whole r) m)),
    (λ s. meets_back Closed (octagon c u) q (whole r) (whole p) ((h.holds q d).1 s)),
  );
  near = λ k d lt. meets_back Closed (octagon c u) _ (whole r) (whole p) (h.near k d lt);
  turns = h.turns;
  starts = h.starts;
}

slant_less : (c : ℕ) → 1 ≤ c → pos (slant c) <ℤ pos c
slant_less c h = omega (arith, ints)

from_round : (c : ℕ) (e : Edge) (corners : List Pt) → IsRingRound (pos c) (pos (reach c)) e.a e.b corners
    → IsRing c e corners
from_round c e corners h = record { holds = h.holds; near = h.near; turns = h.turns; starts = h.starts }

pub ring_is : (c : ℕ) → 1 ≤ c → (e : Edge) → IsRing c e (corners_of c e)
ring_is c some e = by_order (int_lt e.b.y e.a.y) (int_le e.b.y e.a.y) (int_lt e.b.x e.a.x) refl refl refl
  where
    back : (p r : Pt) → (p.y <ℤ r.y) ⊎ ((p.y ≡ r.y) × (p.x ≤ℤ r.x))
        → IsRingRound (pos c) (pos (reach c)) p r (corners_round (pos c) (pos (slant c)) p r)
    back p r f = any p r f (pos c) (pos (slant c)) (pos (reach c)) (omega (arith, ints)) (omega (arith, ints))
        (slant_less c some)

    by_order : (t u v : Bool) → int_lt e.b.y e.a.y ≡ t → int_le e.b.y e.a.y ≡ u → int_lt e.b.x e.a.x ≡ v
        → IsRing c e (cond (t || (u && v)) (corners_round (pos c) (pos (slant c)) e.b e.a)
        (corners_round (pos c) (pos (slant c)) e.a e.b))
    by_order true u v x y z = from_round c e (corners_round (pos c) (pos (slant c)) e.b e.a) (round_back (pos c)
        (pos (reach c)) e.a e.b (corners_round (pos c) (pos (slant c)) e.b e.a) (back e.b e.a (inl (omega (
          arith,
          ints,
        )))))
    by_order false true true x y z = from_round c e (corners_round (pos c) (pos (slant c)) e.b e.a)
        (round_back (pos c)
        (pos (reach c)) e.a e.b (corners_round (pos c) (pos (slant c)) e.b e.a) (back e.b e.a
        (inr (omega (arith, ints), omega (arith, ints)))))
    by_order false true false x y z = from_round c e (corners_round (pos c) (pos (slant c)) e.a e.b) (back e.a e.b
        (inr (omega (arith, ints), omega (arith, ints))))
    by_order false false v x y z = from_round c e (corners_round (pos c) (pos (slant c)) e.a e.b) (back e.a e.b
        (inl (omega (arith, ints))))
