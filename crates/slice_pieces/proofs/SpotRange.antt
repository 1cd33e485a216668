-- The numbers of a spot are in range of rounding.
use Rattle.std.proofs.Common.{◌≡◌, ℕ, ◌*◌, ◌^◌, ◌≤◌, arith, refl, subst, sym, ◌∙◌, to_z, of_z}
use mir.Syntax.{w128}
use lib.IntN.{ℤ, pos, ◌*ℤ◌}
use lib.Signed.{◌<ℤ◌}
use Rattle.std.specs.Prelude.{unsigned_abs}
use Rattle.std.proofs.Math.Nat.{mul-le-mul_left, mul_comm}
use Rattle.std.proofs.lemmas.Nat.{mul-le}
use Rattle.std.proofs.lemmas.Int.{ints, unsigned_abs-mul, to_z_pos}
use Rattle.scad_geom.specs.Limits.{coordinate_limit}
use Rattle.scad_geom.proofs.Casts.{handed}
use Rattle.slice_pieces.specs.declared.piece.Spot.{Spot}
use Rattle.slice_pieces.specs.Spots.{point_of, IsSpotWithin}

-- where n is within the limit times d, so are both times r
pub scaled_within : (limit : ℕ) (n d : ℤ) (r : ℕ) → unsigned_abs n ≤ limit * unsigned_abs d
    → unsigned_abs (n *ℤ pos r) ≤ limit * unsigned_abs (d *ℤ pos r)
scaled_within limit n d r h =
    let k = mul-le-mul_left r h in
    rw (unsigned_abs-mul n (pos r), unsigned_abs-mul d (pos r)) (omega (arith, k))

pub scaled_value : (limit : ℕ) (n d : ℤ) (r : ℕ) (z : ℤ) → z ≡ n *ℤ pos r
    → unsigned_abs n ≤ limit * unsigned_abs d → unsigned_abs z ≤ limit * unsigned_abs (d *ℤ pos r)
scaled_value limit n d r z e h = rw e (scaled_within limit n d r h)

module _ (s : Spot) (w : IsSpotWithin coordinate_limit s) where
  -- the divisor of its point has few enough bits
  pub divisor_bits : (point_of s).d <ℤ pos (2 ^ 65)
  divisor_bits = few (point_of s).d (subst (λ m. m ≤ 10 ^ 13 * (2 * coordinate_limit)) (sym (unsigned_abs-mul s.at.d (pos s.run)))
      (mul-le (unsigned_abs s.at.d) s.run (10 ^ 13) (2 * coordinate_limit) w.level.divisor w.run))
    where
      few : (d : ℤ) → unsigned_abs d ≤ 10 ^ 13 * (2 * coordinate_limit) → d <ℤ pos (2 ^ 65)
      few d h = omega (arith, ints)

  -- its x is within the limit times it
  pub across_within : unsigned_abs s.x ≤ coordinate_limit * unsigned_abs (point_of s).d
  across_within = subst (λ m. unsigned_abs s.x ≤ coordinate_limit * m)
      (mul_comm s.run (unsigned_abs s.at.d) ∙ sym (unsigned_abs-mul s.at.d (pos s.run))) w.size

  -- ---- its numbers as calls are given them
  pub across_small : unsigned_abs s.x ≤ 2 ^ 89
  across_small =
      let most = mul-le s.run (unsigned_abs s.at.d) (2 * coordinate_limit) (10 ^ 13) w.run w.level.divisor in
      omega (arith, w.size, most)

  pub height_small : unsigned_abs s.at.n ≤ 2 ^ 64
  height_small = omega (arith, w.level.size, w.level.divisor)

  pub across_kept : to_z w128 (of_z w128 s.x) ≡ s.x
  across_kept = handed w128 s.x (omega (arith, across_small)) refl

  pub height_kept : to_z w128 (of_z w128 s.at.n) ≡ s.at.n
  height_kept = handed w128 s.at.n (omega (arith, height_small)) refl

  pub divisor_kept : to_z w128 (of_z w128 s.at.d) ≡ s.at.d
  divisor_kept = handed w128 s.at.d (omega (arith, w.level.divisor)) refl

  pub run_kept : to_z w128 s.run ≡ pos s.run
  run_kept = to_z_pos w128 s.run (omega (arith, w.run))
