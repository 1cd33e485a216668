-- Both ends fit 32 bits, and the test is that of their difference.
use Rattle.std.proofs.Common.{◌≡◌, ℕ, ◌^◌, ◌<◌, ◌≤◌, [], ◌∷◌, ◌++◌, ℤ, pos, ◌-ℤ◌, unsigned_abs, to_z, of_z, FitsSigned, refl, sym, ap₂, ◌∙◌, arith}
use Rattle.std.proofs.lemmas.Int.{ints, to_z-of_z, to_z_pos}
use Rattle.std.proofs.lemmas.List.{append-nil}
use lib.Signed.{le_z}
use mir.Syntax.{w32, w128}
use Rattle.scad_geom.specs.Limits.{coordinate_limit}
use Rattle.scad_geom.proofs.Casts.{difference_by, fits_by_size}
use Rattle.plan_infill.proofs.sweep.push_long.Goals as goal

module _ (from to : ℤ) (fits : FitsSigned w128 from) (ends : FitsSigned w128 to)
    (small : unsigned_abs from ≤ coordinate_limit) (near : unsigned_abs to ≤ coordinate_limit) where
  pub apart : FitsSigned w128 (to_z w128 (of_z w128 to) -ℤ to_z w128 (of_z w128 from))
  apart =
      rw (to_z-of_z w128 to ends, to_z-of_z w128 from fits) (fits_by_size w128 (to -ℤ from) (omega (arith, ints)))

  pub test_is : (least : ℕ) → least < 2 ^ 32
      → le_z (to_z w128 least) (to_z w128 (of_z w128 (to_z w128 (of_z w128 to) -ℤ to_z w128 (of_z w128 from))))
      ≡ le_z (pos least) (to -ℤ from)
  test_is least below =
      ap₂ le_z (to_z_pos w128 least (omega arith))
      (difference_by w128 apart.sfits refl (to_z-of_z w128 to ends) (to_z-of_z w128 from fits))

narrowed : (z : ℤ) → FitsSigned w128 z → unsigned_abs z ≤ coordinate_limit → FitsSigned w32 (to_z w128 (of_z w128 z))
narrowed z fits small = rw (to_z-of_z w128 z fits) (fits_by_size w32 z (omega arith))

narrow : (z : ℤ) → FitsSigned w128 z → unsigned_abs z ≤ coordinate_limit
    → to_z w32 (of_z w32 (to_z w128 (of_z w128 z))) ≡ z
narrow z fits small = to_z-of_z w32 _ (narrowed z fits small) ∙ to_z-of_z w128 z fits

pub overflow_sub-to : goal.overflow_sub-to
overflow_sub-to c = apart c.args.from c.args.to c.ranges.from c.ranges.to c.requires.from c.requires.to

pub overflow_cast-to : goal.overflow_cast-to
overflow_cast-to c = narrowed c.args.to c.ranges.to c.requires.to

pub returns-in_ok-push : goal.returns-in_ok-push
returns-in_ok-push c =
    let long = sym (test_is c.args.from c.args.to c.ranges.from c.ranges.to c.requires.from c.requires.to c.args.least
    c.ranges.least.fits) ∙ c.if-to-from.true in
    rw long (c.in_ok-push.ensures.items
    ∙ ap₂ (λ (s t : ℤ). c.args.out.now.items ++ (record { from = s; to = t } ∷ []))
    (narrow c.args.from c.ranges.from c.requires.from) (narrow c.args.to c.ranges.to c.requires.to))

pub returns-else-to-from : goal.returns-else-to-from
returns-else-to-from c =
    let short = sym (test_is c.args.from c.args.to c.ranges.from c.ranges.to c.requires.from c.requires.to c.args.least
    c.ranges.least.fits) ∙ c.if-to-from.false in
    rw short (sym (append-nil c.args.out.now.items))
