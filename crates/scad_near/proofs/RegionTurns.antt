-- What a region holds, by the numbers of a point: what it does with the point nearer to the origin, and with its mirror image.
use Rattle.std.proofs.Common.{◌≡◌, [], ◌∷◌, refl, arith, List, ℤ, pos, ◌+ℤ◌, ◌-ℤ◌, ◌*ℤ◌, ◌<ℤ◌}
use lib.Signed.{◌≤ℤ◌}
use Rattle.std.proofs.lemmas.Int.{ints}
use Rattle.scad_geom.proofs.Signs.{at_least_mul, at_least_left}
use Rattle.scad_geom.proofs.Ring.{ring, ◌⊕◌, ◌⊖◌, ◌⊗◌, v0, v1, v2, v3, v4, v5, v6}
use Rattle.winding_laws.specs.Region.{HalfPlane, Holds, HoldsOrigin}
use Rattle.scad_ring.specs.Octagon.{octagon}

-- a region holds the point (x / d, y / d)
abbrev pub Held : List HalfPlane → ℤ → ℤ → ℤ → Type 0
Held region x y d = Holds region (record { x = x; y = y; d = d })

gap_is : (a b c x y d k : ℤ) → (c *ℤ d -ℤ (a *ℤ x +ℤ b *ℤ y)) *ℤ k ≡ c *ℤ (k *ℤ d) -ℤ (a *ℤ (k *ℤ x) +ℤ b *ℤ (k *ℤ y))
gap_is a b c x y d k = ring (a ∷ b ∷ c ∷ x ∷ y ∷ d ∷ k ∷ [])
    ((v2 ⊗ v5 ⊖ (v0 ⊗ v3 ⊕ v1 ⊗ v4)) ⊗ v6) (v2 ⊗ (v6 ⊗ v5) ⊖ (v0 ⊗ (v6 ⊗ v3) ⊕ v1 ⊗ (v6 ⊗ v4))) refl

-- over a greater divisor and back
pub held_times : (region : List HalfPlane) (x y d k : ℤ) → pos 0 ≤ℤ k → Held region x y d
    → Held region (k *ℤ x) (k *ℤ y) (k *ℤ d)
held_times [] x y d k some h = tt
held_times (p ∷ region) x y d k some h =
    let i = h.0 in
    let m = at_least_mul (p.c *ℤ d -ℤ (p.a *ℤ x +ℤ p.b *ℤ y)) k (omega (arith, ints, i)) some in
    let e = gap_is p.a p.b p.c x y d k in
    (omega (arith, ints, m, e), held_times region x y d k some h.1)

pub held_part : (region : List HalfPlane) (x y d k : ℤ) → pos 0 <ℤ k → Held region (k *ℤ x) (k *ℤ y) (k *ℤ d)
    → Held region x y d
held_part [] x y d k some h = tt
held_part (p ∷ region) x y d k some h =
    let i = h.0 in
    let e = gap_is p.a p.b p.c x y d k in
    let m = at_least_left (p.c *ℤ d -ℤ (p.a *ℤ x +ℤ p.b *ℤ y)) k some (omega (arith, ints, i, e)) in
    (omega (arith, ints, m), held_part region x y d k some h.1)

gap_times : (c d e : ℤ) → c *ℤ (e -ℤ d) ≡ c *ℤ e -ℤ c *ℤ d
gap_times c d e = ring (c ∷ d ∷ e ∷ []) (v0 ⊗ (v2 ⊖ v1)) (v0 ⊗ v2 ⊖ v0 ⊗ v1) refl

-- a region with the origin holds what lies nearer to it
pub held_nearer : (region : List HalfPlane) (x y d e : ℤ) → HoldsOrigin region → d ≤ℤ e → Held region x y d
    → Held region x y e
held_nearer [] x y d e origin more h = tt
held_nearer (p ∷ region) x y d e origin more h =
    let i = h.0 in
    let o = origin.0 in
    let m = at_least_mul p.c (e -ℤ d) (omega (arith, ints, o)) (omega (arith, ints, more)) in
    let g = gap_times p.c d e in
    (omega (arith, ints, m, g, i), held_nearer region x y d e origin.1 more h.1)

-- an octagon holds a point's mirror image
pub held_mirrored : (s u x y d : ℤ) → Held (octagon s u) x y d → Held (octagon s u) (pos 0 -ℤ x) (pos 0 -ℤ y) d
held_mirrored s u x y d h =
    let right = h.0 in
    let left = h.1.0 in
    let over = h.1.1.0 in
    let below = h.1.1.1.0 in
    let over_right = h.1.1.1.1.0 in
    let below_right = h.1.1.1.1.1.0 in
    let over_left = h.1.1.1.1.1.1.0 in
    let below_left = h.1.1.1.1.1.1.1.0 in (
      omega (arith, ints, left),
      (
        omega (arith, ints, right),
        (
          omega (arith, ints, below),
          (
            omega (arith, ints, over),
            (
              omega (arith, ints, below_left),
              (
                omega (arith, ints, over_left),
                (omega (arith, ints, below_right), (omega (arith, ints, over_right), tt)),
              ),
            ),
          ),
        ),
      ),
    )

-- an octagon holds the origin
pub octagon_holds_origin : (s u : ℤ) → pos 0 ≤ℤ s → pos 0 ≤ℤ u → HoldsOrigin (octagon s u)
octagon_holds_origin s u h k = (
  omega (arith, ints),
  (
    omega (arith, ints),
    (
      omega (arith, ints),
      (
        omega (arith, ints),
        (
          omega (arith, ints),
          (omega (arith, ints), (omega (arith, ints), (omega (arith, ints), tt))),
        ),
      ),
    ),
  ),
)
