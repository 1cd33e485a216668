-- Places and tests on them as numbers of 128 bits.
use Rattle.std.proofs.Common.{◌≡◌, ℕ, ◌+◌, ◌*◌, ◌^◌, ◌<◌, ◌≤◌, Bool, true, false, List, length, get_or, ℤ, pos, ◌+ℤ◌, ◌-ℤ◌, unsigned_abs, to_z, of_z, FitsSigned, refl, sym, ap, ap₂, ◌∙◌, subst, arith}
use Rattle.std.proofs.lemmas.Int.{ints, to_z-of_z, by_lt_z}
use Rattle.std.proofs.lemmas.List.{get_or_default}
use lib.Dec.{T}
use lib.Signed.{◌<ℤ◌, ◌≤ℤ◌, lt_z, le_z}
use mir.Syntax.{w32, w128}
use Rattle.scad_geom.specs.Limits.{coordinate_limit}
use Rattle.scad_geom.proofs.Casts.{sizes, fits_by_size, read_widened}
use Rattle.plan_infill.specs.declared.step.Step.{Step}
use Rattle.plan_infill.specs.declared.stretch.Stretch.{Stretch}
use Rattle.plan_infill.specs.Columns.{IsClamped, IsFirstPart, IsLastPart}
use Rattle.plan_infill.specs.Quotient.{IsFloor, IsCeiling}
use Rattle.plan_infill.specs.Reach.{around}
use Rattle.plan_infill.proofs.RowReach.{IsRound}

-- ---- tests

pub test_is : (a b : ℤ) → FitsSigned w128 a → FitsSigned w128 b
    → lt_z (to_z w128 (of_z w128 a)) (to_z w128 (of_z w128 b)) ≡ lt_z a b
test_is a b fits other = ap₂ lt_z (to_z-of_z w128 a fits) (to_z-of_z w128 b other)

pub less : (a b : ℤ) → lt_z a b ≡ true → a <ℤ b
less a b test = record { lt = subst T (sym test) tt }

pub least : (a b : ℤ) → lt_z a b ≡ false → b ≤ℤ a
least a b test = by_lt_z a b (λ under. absurd (subst T test under.lt)) (λ most. most)

pub at_most : (a b : ℤ) → le_z a b ≡ true → a ≤ℤ b
at_most a b test = record { le = subst T (sym test) tt }

holds : (b : Bool) → T b → b ≡ true
holds true t = refl
holds false t = absurd t

within : (a b : ℤ) → a ≤ℤ b → le_z a b ≡ true
within a b h = holds (le_z a b) h.le

above : (a b : ℤ) → b <ℤ a → le_z a b ≡ false
above a b h = grind (arith, ints)

-- ---- a step's place, read at one default and told at another

pub place_at : (steps : List Step) (i : ℕ) (d e : Step) → i < length steps → FitsSigned w128 (get_or steps i d).at
    → to_z w128 (of_z w128 (get_or steps i d).at) ≡ (get_or steps i e).at
place_at steps i d e there fits =
    to_z-of_z w128 (get_or steps i d).at fits ∙ ap (λ (s : Step). s.at) (get_or_default steps i d e there)

-- ---- what a place is clamped to

pub clamped_up : (z low high : ℤ) → low ≤ℤ high → lt_z z low ≡ true → IsClamped z low high low
clamped_up z low high order test =
    let under = less z low test in
    record {
      from = omega (arith, ints);
      to = order;
      same = λ y from until. within low y from ∙ sym (within z y (omega (arith, ints)));
    }

pub clamped_down : (z low high : ℤ) → low ≤ℤ high → lt_z high z ≡ true → IsClamped z low high high
clamped_down z low high order test =
    let over = less high z test in
    record {
      from = order;
      to = omega (arith, ints);
      same = λ y from until. above high y until ∙ sym (above z y (omega (arith, ints)));
    }

pub clamped_within : (z low high : ℤ) → lt_z z low ≡ false → lt_z high z ≡ false → IsClamped z low high z
clamped_within z low high from to = record {
  from = least z low from;
  to = least high z to;
  same = λ y _ _. refl;
}

-- ---- sums and differences of numbers of 32 bits, and sizes

pub sum_size : (x y z : ℤ) → FitsSigned w32 x → FitsSigned w32 y → z ≡ x +ℤ y → unsigned_abs z ≤ 2 ^ 33
sum_size x y z fits other is = omega (arith, ints)

pub difference_size : (x y z : ℤ) → FitsSigned w32 x → FitsSigned w32 y → z ≡ x -ℤ y → unsigned_abs z ≤ 2 ^ 33
difference_size x y z fits other is = omega (arith, ints)

pub wide_sum : (x y : ℤ) → FitsSigned w32 x → FitsSigned w32 y
    → to_z w128 (of_z w128
    (to_z w128 (of_z w128 (to_z w32 (of_z w32 x))) +ℤ to_z w128 (of_z w128 (to_z w32 (of_z w32 y)))))
    ≡ x +ℤ y
wide_sum x y fits other =
    ap₂ (λ (s t : ℤ). to_z w128 (of_z w128 (s +ℤ t))) (read_widened x fits) (read_widened y other)
    ∙ to_z-of_z w128 (x +ℤ y)
    (fits_by_size w128 (x +ℤ y) (let small = sum_size x y (x +ℤ y) fits other refl in omega (arith, small)))

pub wide_difference : (x y : ℤ) → FitsSigned w32 x → FitsSigned w32 y
    → to_z w128 (of_z w128
    (to_z w128 (of_z w128 (to_z w32 (of_z w32 x))) -ℤ to_z w128 (of_z w128 (to_z w32 (of_z w32 y)))))
    ≡ x -ℤ y
wide_difference x y fits other =
    ap₂ (λ (s t : ℤ). to_z w128 (of_z w128 (s -ℤ t))) (read_widened x fits) (read_widened y other)
    ∙ to_z-of_z w128 (x -ℤ y)
    (fits_by_size w128 (x -ℤ y) (let small = difference_size x y (x -ℤ y) fits other refl in omega (arith, small)))

pub widened_size : (z : ℤ) → unsigned_abs (to_z w128 (of_z w128 (to_z w32 (of_z w32 z)))) ≤ 2 ^ 33
widened_size z = omega (arith, sizes)

pub kept_size : (z : ℤ) → unsigned_abs z ≤ 2 ^ 33 → unsigned_abs (to_z w128 (of_z w128 z)) ≤ 2 ^ 33
kept_size z small = omega (arith, sizes)

pub natural_size : (n : ℕ) → n < 2 ^ 32 → unsigned_abs (to_z w128 n) ≤ 2 ^ 33
natural_size n small = omega (arith, ints)

pub negated_size : (y z : ℤ) → unsigned_abs z ≤ 0 + unsigned_abs (to_z w128 (of_z w128 (to_z w32 (of_z w32 y))))
    → unsigned_abs (to_z w128 (of_z w128 z)) ≤ 2 ^ 33
negated_size y z small = kept_size z (let most = widened_size y in omega (arith, small, most))

pub small_fits : (z : ℤ) → unsigned_abs z ≤ coordinate_limit → FitsSigned w32 z
small_fits z small = fits_by_size w32 z (omega arith)

pub column_size : (z : ℤ) → FitsSigned w32 z → unsigned_abs z ≤ coordinate_limit
    → unsigned_abs (to_z w128 (of_z w128 (to_z w32 (of_z w32 z)))) ≤ 2 ^ 21
column_size z fits small = rw (read_widened z fits) (omega arith)

pub rise_size : (z : ℤ) → unsigned_abs z ≤ 2 * coordinate_limit → unsigned_abs (to_z w128 (of_z w128 z)) ≤ 2 ^ 22
rise_size z small = omega (arith, sizes)

-- ---- what is added to or taken from the place where the line of an edge passes a height
module _ (a b : ℤ) (large : unsigned_abs a ≤ 2 ^ 89) (small : unsigned_abs b ≤ 2 ^ 60) where
  pub both_fit : unsigned_abs (to_z w128 (of_z w128 a)) + unsigned_abs (to_z w128 (of_z w128 b)) < 2 ^ 127
  both_fit = omega (arith, sizes)

  pub both_size : (z : ℤ)
      → unsigned_abs z ≤ unsigned_abs (to_z w128 (of_z w128 a)) + unsigned_abs (to_z w128 (of_z w128 b))
      → unsigned_abs (to_z w128 (of_z w128 z)) ≤ 2 ^ 90
  both_size z near = omega (arith, sizes)

-- ---- numbers of 128 bits below 2 ^ 90, and quotients of them

negated_fits : (z : ℤ) → unsigned_abs z ≤ 2 ^ 90 → FitsSigned w128 (pos 0 -ℤ z)
negated_fits z small = fits_by_size w128 (pos 0 -ℤ z) (omega (arith, ints))

pub negated : (z : ℤ) → FitsSigned w128 z → unsigned_abs z ≤ 2 ^ 90
    → to_z w128 (of_z w128 (pos 0 -ℤ to_z w128 (of_z w128 z))) ≡ pos 0 -ℤ z
negated z fits small =
    ap (λ (t : ℤ). to_z w128 (of_z w128 (pos 0 -ℤ t))) (to_z-of_z w128 z fits)
    ∙ to_z-of_z w128 (pos 0 -ℤ z) (negated_fits z small)

next_fits : (z s : ℤ) → unsigned_abs z ≤ unsigned_abs (pos 0 -ℤ s) + 1 → unsigned_abs s ≤ 2 ^ 90
    → FitsSigned w128 (z +ℤ pos 1)
next_fits z s near small = fits_by_size w128 (z +ℤ pos 1) (omega (arith, ints))

pub next : (z s : ℤ) → FitsSigned w128 z → FitsSigned w128 s → unsigned_abs s ≤ 2 ^ 90
    → unsigned_abs z ≤ unsigned_abs (to_z w128 (of_z w128 (pos 0 -ℤ to_z w128 (of_z w128 s)))) + 1
    → to_z w128 (of_z w128 (to_z w128 (of_z w128 z) +ℤ pos 1)) ≡ z +ℤ pos 1
next z s fits other small near =
    ap (λ (t : ℤ). to_z w128 (of_z w128 (t +ℤ pos 1))) (to_z-of_z w128 z fits)
    ∙ to_z-of_z w128 (z +ℤ pos 1) (next_fits z s (rw (negated s other small) at near) small)

pub is_floor : {n m d k r : ℤ} → n ≡ m → d ≡ k → IsFloor n d r → IsFloor m k r
is_floor size by h = rw (← size, ← by) h

pub is_ceiling : {n m d k r : ℤ} → n ≡ m → d ≡ k → IsCeiling n d r → IsCeiling m k r
is_ceiling size by h = rw (← size, ← by) h

pub is_last_part : {of part : Stretch} {a b : ℤ} → a ≡ b → IsLastPart of a part → IsLastPart of b part
is_last_part at h = rw (← at) h

pub is_first_part : {of part : Stretch} {a b : ℤ} → a ≡ b → IsFirstPart of a part → IsFirstPart of b part
is_first_part at h = rw (← at) h

pub is_nothing : (z : ℤ) → z ≤ℤ pos 0 → pos 0 ≤ℤ z → z ≡ pos 0
is_nothing z above below = omega (arith, ints)

-- ---- the stretch round two values that equal what a call was given

pub is_round : {v w a b c d to way : ℤ} (s : Stretch) → s.from ≡ (around v a b to).from
    → s.until ≡ (around v a b to).until
    → v ≡ w → a ≡ c → b ≡ d → to ≡ way → IsRound w c d way s
is_round s from until size first second moved =
    rw (← size, ← first, ← second, ← moved) (record { from = from; until = until })
