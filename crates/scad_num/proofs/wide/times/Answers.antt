-- The product of two numbers that were made wider, each of which is what it was.
use Rattle.std.proofs.Common.{◌≡◌, ◌^◌, ◌≤◌, ℤ, ◌*ℤ◌, unsigned_abs, FitsSigned, to_z, of_z, ◌∙◌, arith}
use Rattle.std.proofs.lemmas.Int.{to_z-of_z, unsigned_abs-mul, fits_signed_mul}
use Rattle.std.proofs.lemmas.Nat.{mul-le}
use Rattle.scad_num.proofs.wide.times.Goals as goal
use mir.Syntax.{w64, w128}

made_wider : (a wide : ℤ) → FitsSigned w64 a → FitsSigned w128 wide → wide ≡ to_z w64 (of_z w64 a)
    → to_z w128 (of_z w128 wide) ≡ a
made_wider a wide fits wide_fits same = to_z-of_z w128 wide wide_fits ∙ same ∙ to_z-of_z w64 a fits

fits : (a b : ℤ) → unsigned_abs a ≤ 2 ^ 60 → unsigned_abs b ≤ 2 ^ 59 → FitsSigned w128 (a *ℤ b)
fits a b a_small b_small = fits_signed_mul w128 a b (2 ^ 60) (2 ^ 59) a_small b_small (omega arith)

small : (a b : ℤ) → unsigned_abs a ≤ 2 ^ 60 → unsigned_abs b ≤ 2 ^ 59 → unsigned_abs (a *ℤ b) ≤ 2 ^ 119
small a b a_small b_small =
    rw (unsigned_abs-mul a b) (omega (arith, mul-le (unsigned_abs a) (unsigned_abs b) (2 ^ 60) (2 ^ 59) a_small b_small))

pub overflow_mul-result : goal.overflow_mul-result
overflow_mul-result c =
    rw (
      made_wider c.args.a c.from.result c.ranges.a (record { sfits = c.from.type_inv }) c.from.ensures,
      made_wider c.args.b c.from-2.result c.ranges.b (record { sfits = c.from-2.type_inv }) c.from-2.ensures,
    ) (fits c.args.a c.args.b c.requires.a_small c.requires.b_small)

pub returns-clause-product : goal.returns-clause-product
returns-clause-product c =
    rw (
      made_wider c.args.a c.from.result c.ranges.a (record { sfits = c.from.type_inv }) c.from.ensures,
      made_wider c.args.b c.from-2.result c.ranges.b (record { sfits = c.from-2.type_inv }) c.from-2.ensures,
    ) (to_z-of_z w128 (c.args.a *ℤ c.args.b) (fits c.args.a c.args.b c.requires.a_small c.requires.b_small))

pub returns-clause-small : goal.returns-clause-small
returns-clause-small c =
    rw (
      made_wider c.args.a c.from.result c.ranges.a (record { sfits = c.from.type_inv }) c.from.ensures,
      made_wider c.args.b c.from-2.result c.ranges.b (record { sfits = c.from-2.type_inv }) c.from-2.ensures,
      to_z-of_z w128 (c.args.a *ℤ c.args.b) (fits c.args.a c.args.b c.requires.a_small c.requires.b_small),
    ) (small c.args.a c.args.b c.requires.a_small c.requires.b_small)
