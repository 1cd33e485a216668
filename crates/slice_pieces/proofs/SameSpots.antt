-- The numbers by which spots are compared: equal ones, products in another order, and runs and divisors above 0.
use Rattle.std.proofs.Common.{◌≡◌, ℕ, ◌<◌, true, [], ◌∷◌, refl, arith}
use lib.IntN.{ℤ, pos, ◌*ℤ◌}
use lib.Signed.{◌<ℤ◌}
use Rattle.std.specs.Ordering.{int_eq}
use Rattle.std.specs.Cmp.{signed_Decides}
use Rattle.std.proofs.lemmas.Int.{ints}
use Rattle.scad_base.proofs.Products.{positive_product}
use Rattle.scad_geom.proofs.Ring.{ring, ◌⊗◌, v0, v1, v2, v3}
use Rattle.slice_pieces.specs.declared.piece.Spot.{Spot}
use Rattle.slice_pieces.specs.Spots.{point_of, IsSpotWithin}

pub to_eq : (a b : ℤ) → a ≡ b → int_eq a b ≡ true
to_eq a b h = (signed_Decides a b).1 h

pub crossed_back : (a b r s : ℤ) → (a *ℤ s) *ℤ (b *ℤ r) ≡ (a *ℤ b) *ℤ (r *ℤ s)
crossed_back a b r s = ring (a ∷ b ∷ r ∷ s ∷ []) ((v0 ⊗ v3) ⊗ (v1 ⊗ v2)) ((v0 ⊗ v1) ⊗ (v2 ⊗ v3))
    refl

pub mul_beside : (x d r : ℤ) → x *ℤ (d *ℤ r) ≡ (x *ℤ r) *ℤ d
mul_beside x d r = ring (x ∷ d ∷ r ∷ []) (v0 ⊗ (v1 ⊗ v2)) ((v0 ⊗ v2) ⊗ v1) refl

pub run_above : (n : ℕ) → 0 < n → pos 0 <ℤ pos n
run_above n h = omega (arith, ints)

pub divisor_above : (limit : ℕ) (s : Spot) → IsSpotWithin limit s → pos 0 <ℤ (point_of s).d
divisor_above limit s w = positive_product s.at.d (pos s.run) w.level.positive (run_above s.run w.positive)
