-- A number of 32 bits as one of 64, the one behind it, and how far two of them are apart.
use Rattle.std.proofs.Common.{◌≡◌, ℕ, ◌<◌, ◌^◌, true, false, ℤ, pos, ◌+ℤ◌}
use Rattle.std.proofs.Common.{◌-ℤ◌, to_z, of_z, FitsSigned, sym, ap, ap₂, ◌∙◌, arith}
use Rattle.std.proofs.lemmas.Int.{ints, to_z-of_z, to_z_pos}
use lib.Signed.{le_z, lt_z, ◌≤ℤ◌, ◌<ℤ◌}
use mir.Syntax.{w32, w64}
use Rattle.plan_support.specs.Near.{IsPlace}

pub widened : (z : ℤ) → FitsSigned w32 z → to_z w64 (of_z w64 (to_z w32 (of_z w32 z))) ≡ z
widened z fits =
    let small = fits.sfits in
    ap (λ (y : ℤ). to_z w64 (of_z w64 y)) (to_z-of_z w32 z fits)
    ∙ to_z-of_z w64 z (record { sfits = omega (arith, small) })

module _ (z : ℤ) (fits : FitsSigned w32 z) where
  next_fits : FitsSigned w64 (z +ℤ pos 1)
  next_fits = omega (arith, ints)

  pub widened_fits : FitsSigned w64 (to_z w64 (of_z w64 (to_z w32 (of_z w32 z))) +ℤ pos 1)
  widened_fits = rw (widened z fits) next_fits

  pub widened_next : to_z w64 (of_z w64 (to_z w64 (of_z w64 (to_z w32 (of_z w32 z))) +ℤ pos 1)) ≡ z +ℤ pos 1
  widened_next =
      ap (λ (y : ℤ). to_z w64 (of_z w64 (y +ℤ pos 1))) (widened z fits) ∙ to_z-of_z w64 (z +ℤ pos 1) next_fits

module _ (from to : ℤ) (from_fits : FitsSigned w32 from) (to_fits : FitsSigned w32 to) where
  length_fits : FitsSigned w64 (to -ℤ from)
  length_fits = omega (arith, ints)

  pub difference_fits : FitsSigned w64
      (to_z w64 (of_z w64 (to_z w32 (of_z w32 to))) -ℤ to_z w64 (of_z w64 (to_z w32 (of_z w32 from))))
  difference_fits = rw (widened to to_fits, widened from from_fits) length_fits

  pub widened_difference : to_z w64
      (of_z w64 (to_z w64 (of_z w64 (to_z w32 (of_z w32 to))) -ℤ to_z w64 (of_z w64 (to_z w32 (of_z w32 from)))))
      ≡ to -ℤ from
  widened_difference =
      ap₂ (λ (b a : ℤ). to_z w64 (of_z w64 (b -ℤ a))) (widened to to_fits) (widened from from_fits)
      ∙ to_z-of_z w64 (to -ℤ from) length_fits

  pub test_long : (least : ℕ) → least < 2 ^ 32 → le_z (to_z w64 least)
      (to_z w64
      (of_z w64 (to_z w64 (of_z w64 (to_z w32 (of_z w32 to))) -ℤ to_z w64 (of_z w64 (to_z w32 (of_z w32 from))))))
      ≡ le_z (pos least) (to -ℤ from)
  test_long least below = ap₂ le_z (to_z_pos w64 least (omega (arith, below))) widened_difference

pub count_fits : (n : ℕ) → n < 2 ^ 32 → FitsSigned w64 (pos n)
count_fits n below = record { sfits = omega (arith, below) }

pub place_of : (z : ℤ) → FitsSigned w32 z → IsPlace z
place_of z fits = record { from = omega (arith, ints); to = omega (arith, ints) }

-- ---- two numbers of 32 bits, compared as they are read
module _ (a b : ℤ) (left : FitsSigned w32 a) (right : FitsSigned w32 b) where
  read_test : lt_z (to_z w32 (of_z w32 a)) (to_z w32 (of_z w32 b)) ≡ lt_z a b
  read_test = ap₂ lt_z (to_z-of_z w32 a left) (to_z-of_z w32 b right)

  pub read_less : lt_z (to_z w32 (of_z w32 a)) (to_z w32 (of_z w32 b)) ≡ true → a <ℤ b
  read_less e = let less = sym read_test ∙ e in omega (arith, ints, less)

  pub read_least : lt_z (to_z w32 (of_z w32 a)) (to_z w32 (of_z w32 b)) ≡ false → b ≤ℤ a
  read_least e = let least = sym read_test ∙ e in omega (arith, ints, least)
