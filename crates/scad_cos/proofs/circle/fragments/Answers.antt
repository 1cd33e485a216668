-- The sides of a small circle, of one whose number is given and of one by its steps.
use Rattle.std.proofs.Common.{◌≡◌, ℕ, ◌/◌, ◌<◌, ◌≤◌, ◌^◌, true, false, ℤ, pos, negsuc, unsigned_abs, int_lt, max}
use Rattle.std.proofs.Common.{refl, ap, ap₂, to_z, of_z, Fits, FitsSigned, sym, ◌∙◌, arith}
use Rattle.std.proofs.lemmas.Int.{ints, to_z-of_z, to_z_pos}
use Rattle.std.specs.Int.{int_max}
use Rattle.scad_cos.specs.Circle.{least_radius, fewest, least_step, fragments_by_steps, fragments_of}
use Rattle.scad_num.specs.Number.{one, most}
use Rattle.scad_cos.proofs.circle.fragments.Goals as goal
use mir.Syntax.{w64, w128}
use mir.Val.{hbits}
use lib.Dec.{T}
use lib.Signed.{mag, quot_z, non_neg}

-- what is read of a number
read : {z r : ℤ} → mag z < 2 ^ hbits w64 → z ≡ r → to_z w64 (of_z w64 z) ≡ r
read {z} fits is = to_z-of_z w64 z (record { sfits = fits }) ∙ is

at_least : (n : ℕ) → int_max (pos n) (pos 3) ≡ pos (max fewest n)
at_least n = grind (arith, ints)

-- the whole ones of a number above 0
shared : (given : ℤ) → unsigned_abs given ≤ most → int_lt (pos 0) given ≡ true
    → to_z w64 (of_z w64 (quot_z given (pos 1000000))) ≡ pos (unsigned_abs given / one)
shared (pos n) within positive = to_z_pos w64 (n / 1000000) (omega arith)
shared (negsuc n) within positive = absurd (cc)

shared_fits : (given : ℤ) → unsigned_abs given ≤ most → int_lt (pos 0) given ≡ true
    → FitsSigned w64 (quot_z given (pos 1000000))
shared_fits (pos n) within positive = record { sfits = omega arith }
shared_fits (negsuc n) within positive = absurd (cc)

-- a radius that isn't small is no less than 0
wide : (r : ℤ) → unsigned_abs r ≤ most → int_lt r (pos least_radius) ≡ false
    → T (non_neg r) × Fits w128 (unsigned_abs r)
wide (pos n) within large = (tt, record { fits = omega arith })
wide (negsuc n) within large = absurd (cc)

module _ (r given angle size : ℤ) where
  few : int_lt r (pos least_radius) ≡ true → fragments_of r given angle size ≡ fewest
  unfolding fragments_of
  few small = rw small refl

  as_given : int_lt r (pos least_radius) ≡ false → int_lt (pos 0) given ≡ true
      → fragments_of r given angle size ≡ max fewest (unsigned_abs given / one)
  unfolding fragments_of
  as_given large positive = rw (large, positive) refl

  by_steps : int_lt r (pos least_radius) ≡ false → int_lt (pos 0) given ≡ false
      → fragments_of r given angle size ≡ fragments_by_steps (unsigned_abs r) (least_step angle) (least_step size)
  unfolding fragments_of
  by_steps large none = rw (large, none) refl

pub returns-then-millionths-lt1000-clause-value : goal.returns-then-millionths-lt1000-clause-value
returns-then-millionths-lt1000-clause-value c =
    let a = c.args in
    let r = read c.millionths.type_inv c.millionths.ensures.value in
    ap pos (sym (few a.r a.fn_ a.fa a.fs (ap (λ (z : ℤ). int_lt z (pos 1000)) (sym r) ∙ c.if-millionths-lt1000.true)))

-- ---- the rest is what the calls gave
pub returns-clause-value : goal.returns-clause-value
returns-clause-value c =
    let a = c.args in
    let r = read c.millionths.type_inv c.millionths.ensures.value in
    let given = read c.millionths-2.type_inv c.millionths-2.ensures.value in
    let steps = by_steps a.r a.fn_ a.fa a.fs
    (ap (λ (z : ℤ). int_lt z (pos 1000)) (sym r) ∙ c.if-millionths-lt1000.false)
    (ap (λ (z : ℤ). int_lt (pos 0) z) (sym given) ∙ c.if-millionths-gt0.false) in
    to_z_pos w64 c.fragments_by_steps.result (omega (arith, c.fragments_by_steps.ensures.small))
    ∙ ap pos (c.fragments_by_steps.ensures.value
    ∙ ap₂ (λ (k l : ℕ). fragments_by_steps (unsigned_abs (to_z w64 (of_z w64 c.millionths-3.result))) k l)
    c.least_step.ensures.value c.least_step-2.ensures.value
    ∙ ap (λ (z : ℤ). fragments_by_steps (unsigned_abs z) (least_step a.fa) (least_step a.fs))
    (read c.millionths-3.type_inv c.millionths-3.ensures.value)
    ∙ sym steps)

pub returns-clause-at_least_three : goal.returns-clause-at_least_three
returns-clause-at_least_three c =
    rw (to_z_pos w64 c.fragments_by_steps.result (omega (arith, c.fragments_by_steps.ensures.small)))
    (omega (arith, ints, c.fragments_by_steps.ensures.at_least_five))

pub returns-clause-small : goal.returns-clause-small
returns-clause-small c =
    rw (to_z_pos w64 c.fragments_by_steps.result (omega (arith, c.fragments_by_steps.ensures.small)))
    (omega (arith, ints, c.fragments_by_steps.ensures.small))

given_sides : (c : goal.After-max) → to_z w64 (of_z w64 c.max.result)
    ≡ pos (max fewest (unsigned_abs c.args.fn_ / one))
given_sides c =
    let given = read c.millionths-2.type_inv c.millionths-2.ensures.value in
    let positive = ap (λ (z : ℤ). int_lt (pos 0) z) (sym given) ∙ c.if-millionths-gt0.true in
    read c.max.type_inv (c.max.ensures.value ∙ ap (λ (z : ℤ). int_max z (pos 3))
    (ap (λ (z : ℤ). to_z w64 (of_z w64 (quot_z z (pos 1000000))))
    (read c.millionths-then-millionths-gt0.type_inv c.millionths-then-millionths-gt0.ensures.value)
    ∙ shared c.args.fn_ c.millionths-2.ensures.in_range positive)
    ∙ at_least (unsigned_abs c.args.fn_ / one))

pub returns-then-millionths-gt0-clause-value : goal.returns-then-millionths-gt0-clause-value
returns-then-millionths-gt0-clause-value c =
    let a = c.args in
    let r = read c.millionths.type_inv c.millionths.ensures.value in
    let given = read c.millionths-2.type_inv c.millionths-2.ensures.value in
    given_sides c
    ∙ ap pos (sym (as_given a.r a.fn_ a.fa a.fs
    (ap (λ (z : ℤ). int_lt z (pos 1000)) (sym r) ∙ c.if-millionths-lt1000.false)
    (ap (λ (z : ℤ). int_lt (pos 0) z) (sym given) ∙ c.if-millionths-gt0.true)))

pub returns-then-millionths-gt0-clause-at_least_three : goal.returns-then-millionths-gt0-clause-at_least_three
returns-then-millionths-gt0-clause-at_least_three c = rw (given_sides c) (omega (arith, ints))

pub returns-then-millionths-gt0-clause-small : goal.returns-then-millionths-gt0-clause-small
returns-then-millionths-gt0-clause-small c =
    rw (given_sides c) (omega (arith, ints, c.millionths-2.ensures.in_range))

-- ---- what is handed on is in range
pub nonzero_div-millionths : goal.nonzero_div-millionths
nonzero_div-millionths c =
    let given = read c.millionths-2.type_inv c.millionths-2.ensures.value in (
      omega arith,
      rw (read c.millionths-then-millionths-gt0.type_inv c.millionths-then-millionths-gt0.ensures.value)
          (shared_fits c.args.fn_ c.millionths-2.ensures.in_range
          (ap (λ (z : ℤ). int_lt (pos 0) z) (sym given) ∙ c.if-millionths-gt0.true)),
    )

pub overflow_cast-millionths : goal.overflow_cast-millionths
overflow_cast-millionths c =
    let r = read c.millionths.type_inv c.millionths.ensures.value in
    rw (read c.millionths-3.type_inv c.millionths-3.ensures.value)
    (wide c.args.r c.millionths.ensures.in_range
    (ap (λ (z : ℤ). int_lt z (pos 1000)) (sym r) ∙ c.if-millionths-lt1000.false))

pub fragments_by_steps-requires-clause-radius : goal.fragments_by_steps-requires-clause-radius
fragments_by_steps-requires-clause-radius c =
    rw (read c.millionths-3.type_inv c.millionths-3.ensures.value) c.millionths-3.ensures.in_range

pub overflow_cast-result : goal.overflow_cast-result
overflow_cast-result c = record { sfits = omega (arith, c.fragments_by_steps.ensures.small) }
