-- The winding number of a square's outline, by the tests on which it depends.
use Rattle.std.proofs.Common.{◌≡◌, ◌≢◌, ℕ, ◌*◌, Bool, true, false, not, ◌&&◌, if◌then◌else◌}
use Rattle.scad_base.proofs.Integers.{minus_self, zero_minus}
use Rattle.std.proofs.Common.{ℤ, pos, negsuc, ◌+ℤ◌, ◌-ℤ◌, ◌*ℤ◌, neg_ℤ, int_lt, ◌<ℤ◌, refl, ◌∙◌, arith}
use Rattle.std.proofs.lemmas.Int.{ints}
use Rattle.std.proofs.Math.IntN.{zero-*ℤ, neg_ℤ-neg_ℤ, ℤ_discrete}
use Rattle.scad_geom.specs.declared.point.Edge.{Edge}
use Rattle.scad_geom.specs.declared.half.Half.TheVariants.{Cell}
use Rattle.scad_geom.specs.Point.{halves}
use Rattle.scad_geom.specs.Segment.{segments}
use Rattle.scad_geom.specs.Half.{doubled}
use Rattle.scad_geom.specs.Winding.{wind, counted}
use Rattle.scad_geom.specs.Loop.{sides}
use Rattle.scad_geom.specs.Square.{square, square_wind, IsStrictlyWithin, IsCentreInside, SquareWindsOnce}
use Rattle.scad_geom.proofs.Signs.{sub-zero, one-mul, minus_one-mul}
use Rattle.scad_geom.proofs.Integers.{neg_mul}
use Rattle.scad_geom.proofs.Crossing.{side_of, crossings}
use Rattle.scad_geom.proofs.CommonDivisor.{wind_halves}
use Rattle.scad_geom.proofs.Signs.{product_is_negative}
use Rattle.scad_base.proofs.Tests.{cond_same}

-- the upright sides of a square with the side k
abbrev right_side : ℤ → Edge
right_side k = record { a = record { x = k; y = pos 0 }; b = record { x = k; y = k } }

abbrev left_side : ℤ → Edge
left_side k = record { a = record { x = pos 0; y = k }; b = record { x = pos 0; y = pos 0 } }

right_area : (k x y : ℤ) → pos 1 *ℤ side_of (right_side k) x y ≡ neg_ℤ (k *ℤ (x -ℤ k))
right_area k x y = rw (one-mul, minus_self k, sub-zero k, zero-*ℤ, zero_minus)

left_area : (k x y : ℤ) → negsuc 0 *ℤ side_of (left_side k) x y ≡ neg_ℤ (k *ℤ x)
left_area k x y =
    rw (zero-*ℤ, zero_minus, minus_one-mul, zero_minus k, sub-zero x, neg_ℤ-neg_ℤ (neg_ℤ k *ℤ x), neg_mul k x)

-- each lies right of the point exactly where the point's x is less than its own
right_is_right : (k x y : ℤ) → pos 0 <ℤ k →
    int_lt (pos 0) (pos 1 *ℤ side_of (right_side k) x y) ≡ int_lt x k
right_is_right k x y positive =
    rw (right_area k x y) (product_is_negative k (x -ℤ k) positive ∙ grind (arith, ints))

left_is_right : (k x y : ℤ) → pos 0 <ℤ k →
    int_lt (pos 0) (negsuc 0 *ℤ side_of (left_side k) x y) ≡ int_lt x (pos 0)
left_is_right k x y positive = rw (left_area k x y) (product_is_negative k x positive)

-- a crossing by an edge's passage and the side on which the point lies
abbrev crossed : ℤ → ℤ → ℤ
crossed passage side = if int_lt (pos 0) (passage *ℤ side) then passage else pos 0

-- an edge that does not pass the height crosses nothing
crossed-zero : (side : ℤ) → crossed (pos 0) side ≡ pos 0
crossed-zero side = cond_same (int_lt (pos 0) (pos 0 *ℤ side)) (pos 0)

-- the crossings of the lower, right, upper and left side, where the tests say whether the height is
-- below the lower and below the upper side
abbrev four : Bool → Bool → ℤ → ℤ → ℤ → ℤ → ℤ
four lower upper a b c d =
    crossed (counted lower -ℤ counted lower) a
    +ℤ (crossed (counted upper -ℤ counted lower) b
    +ℤ (crossed (counted upper -ℤ counted upper) c
    +ℤ (crossed (counted lower -ℤ counted upper) d +ℤ pos 0)))

-- their sum, where two more tests say whether the point is left of the right and of the left side
abbrev turns_by : Bool → Bool → Bool → Bool → ℤ
turns_by lower upper right left =
    if upper && not lower then counted right -ℤ counted left else pos 0

upright_sum : (r l : Bool) →
    pos 0 +ℤ ((if r then pos 1 else pos 0) +ℤ (pos 0 +ℤ ((if l then negsuc 0 else pos 0) +ℤ pos 0)))
    ≡ counted r -ℤ counted l
upright_sum true true = refl
upright_sum true false = refl
upright_sum false true = refl
upright_sum false false = refl

four_by : (lower upper : Bool) (a b c d : ℤ) (right left : Bool) → (lower ≡ true → upper ≡ true) →
    (lower ≡ false → upper ≡ true →
    (int_lt (pos 0) (pos 1 *ℤ b) ≡ right) × (int_lt (pos 0) (negsuc 0 *ℤ d) ≡ left)) →
    four lower upper a b c d ≡ turns_by lower upper right left
four_by true true a b c d right left ordered signs = simp crossed-zero
four_by true false a b c d right left ordered signs = let never : false ≡ true = ordered refl in cc
four_by false false a b c d right left ordered signs = simp crossed-zero
four_by false true a b c d right left ordered signs =
    let told = signs refl refl in
    rw (told.0, told.1) (simp crossed-zero (upright_sum right left))

-- the winding number round a point whose coordinates are doubled
crossings-square : (side : ℕ) (x y : ℤ) →
    crossings (sides (square side)) x y
    ≡ turns_by (int_lt y (pos 0)) (int_lt y (pos (2 * side))) (int_lt x (pos (2 * side))) (int_lt x (pos 0))
crossings-square side x y =
    let k = pos (2 * side) in
    four_by _ _ _ _ _ _ _ _
    (λ below. grind (arith, ints))
    (λ not_below under.
    let positive : pos 0 <ℤ k = grind (arith, ints) in
    (right_is_right k x y positive, left_is_right k x y positive))

wind-square : (side : ℕ) (x y : ℤ) →
    wind (halves x y) (segments (sides (square side)))
    ≡ turns_by (int_lt y (pos 0)) (int_lt y (pos (2 * side))) (int_lt x (pos (2 * side))) (int_lt x (pos 0))
wind-square side x y = wind_halves (sides (square side)) x y ∙ crossings-square side x y

-- where that isn't 0, the tests are those of a point inside
turns_only : (lower upper right left : Bool) → (left ≡ true → right ≡ true) →
    turns_by lower upper right left ≢ pos 0 →
    (lower ≡ false) × (upper ≡ true) × (right ≡ true) × (left ≡ false)
turns_only true true right left ordered turns = absurd (turns refl)
turns_only true false right left ordered turns = absurd (turns refl)
turns_only false false right left ordered turns = absurd (turns refl)
turns_only false true true true ordered turns = absurd (turns refl)
turns_only false true true false ordered turns = (refl, refl, refl, refl)
turns_only false true false true ordered turns = let never : false ≡ true = ordered refl in cc
turns_only false true false false ordered turns = absurd (turns refl)

-- a doubled centre is odd, so it is above 0 where it isn't below
centre_above : (i : ℤ) → int_lt (doubled Cell i) (pos 0) ≡ false → pos 0 <ℤ doubled Cell i
centre_above (pos n) test = omega (arith, ints)
centre_above (negsuc n) test = grind (arith, ints)

centre_within : (side : ℕ) (i : ℤ) → int_lt (doubled Cell i) (pos 0) ≡ false →
    int_lt (doubled Cell i) (pos (2 * side)) ≡ true → IsStrictlyWithin side (doubled Cell i)
centre_within side i left right = record {
  above = centre_above i left;
  below = grind (arith, ints);
}

pub inside_wind : (side : ℕ) (i j : ℤ) → IsCentreInside side i j → square_wind side i j ≡ pos 1
inside_wind side i j within =
    let lower : int_lt (doubled Cell j) (pos 0) ≡ false = grind (arith, ints) in
    let upper : int_lt (doubled Cell j) (pos (2 * side)) ≡ true = grind (arith, ints) in
    let right : int_lt (doubled Cell i) (pos (2 * side)) ≡ true = grind (arith, ints) in
    let left : int_lt (doubled Cell i) (pos 0) ≡ false = grind (arith, ints) in
    wind-square side (doubled Cell i) (doubled Cell j) ∙ rw (lower, upper, right, left)

pub wind_inside : (side : ℕ) (i j : ℤ) → square_wind side i j ≢ pos 0 → IsCentreInside side i j
wind_inside side i j turns =
    let tests = turns_only
    (int_lt (doubled Cell j) (pos 0))
    (int_lt (doubled Cell j) (pos (2 * side)))
    (int_lt (doubled Cell i) (pos (2 * side)))
    (int_lt (doubled Cell i) (pos 0))
    (λ left. grind (arith, ints))
    (λ none. turns (wind-square side (doubled Cell i) (doubled Cell j) ∙ none)) in
    record {
      across = centre_within side i tests.3 tests.2;
      along = centre_within side j tests.0 tests.1;
    }

pub outside_wind : (side : ℕ) (i j : ℤ) → ¬ IsCentreInside side i j → square_wind side i j ≡ pos 0
outside_wind side i j without =
    elim (ℤ_discrete (square_wind side i j) (pos 0)) [
      | yes none ↦ none
      | no turns ↦ absurd (without (wind_inside side i j turns))
    ]

pub square_winds_once : SquareWindsOnce
square_winds_once = record { inside = inside_wind; outside = outside_wind; only = wind_inside }
