-- Whole multiples of a spacing.
use Rattle.std.proofs.Common.{◌≡◌, ℕ, suc, ◌+◌, ◌*◌, ◌<◌, ◌≤◌, [], ◌∷◌, refl, ap, ◌∙◌, sym, arith, ℤ, pos, negsuc}
use Rattle.std.proofs.Common.{◌+ℤ◌, ◌-ℤ◌, ◌*ℤ◌, ◌<ℤ◌, FitsSigned, to_z, of_z}
use lib.Signed.{◌≤ℤ◌}
use Rattle.std.specs.Prelude.{unsigned_abs}
use Rattle.std.specs.Int.{int_div_euclid, int_rem_euclid, int_max}
use Rattle.std.proofs.lemmas.Int.{ints, to_z-of_z}
use Rattle.scad_geom.proofs.Ring.{ring, num, ◌⊖◌, ◌⊗◌, v0, v1, v2}
use Rattle.scad_geom.proofs.Signs.{at_least_mul, pos_left, sub_mul, minus_times, one_more_times}
use Rattle.plan_infill.specs.Multiple.{IsMultiple}
use Rattle.plan_infill.proofs.Extents.{greater}
use mir.Syntax.{w32, w64}

-- the next one
pub next_multiple : (spacing : ℕ) (z : ℤ) → IsMultiple spacing z → IsMultiple spacing (z +ℤ pos spacing)
next_multiple spacing z m = record {
  spaced = m.spaced;
  times = m.times +ℤ pos 1;
  is = ap (λ (x : ℤ). x +ℤ pos spacing) m.is ∙ sym (one_more_times m.times (pos spacing));
}

less_gap : (i j d : ℤ) → (i -ℤ j -ℤ pos 1) *ℤ d ≡ (i *ℤ d -ℤ j *ℤ d) -ℤ d
less_gap i j d = ring (i ∷ j ∷ d ∷ []) ((v0 ⊖ v1 ⊖ num (pos 1)) ⊗ v2) ((v0 ⊗ v2 ⊖ v1 ⊗ v2) ⊖ v2) refl

-- two of them that differ lie apart by the spacing
pub multiples_apart : (spacing : ℕ) (y z : ℤ) → IsMultiple spacing y → IsMultiple spacing z → y <ℤ z
    → (y +ℤ pos spacing) ≤ℤ z
multiples_apart spacing y z m n h =
    let d : pos 0 <ℤ pos spacing = let s = m.spaced in omega (arith, ints) in
    let ym = m.is in
    let zn = n.is in
    let g = sub_mul n.times m.times (pos spacing) in
    let o = pos_left (n.times -ℤ m.times) (pos spacing) d (omega (arith, ints, g)) in
    let k = at_least_mul (n.times -ℤ m.times -ℤ pos 1) (pos spacing) (omega (arith, ints, o)) (omega (arith, ints)) in
    let l = less_gap n.times m.times (pos spacing) in
    omega (arith, ints, k, l)

-- the remainder of the negated place leads to the next multiple
pub least_multiple : (spacing : ℕ) (place r : ℤ) → 0 < spacing → r ≡ int_rem_euclid (pos 0 -ℤ place) (pos spacing)
    → IsMultiple spacing (place +ℤ r)
least_multiple spacing place r h e = record {
  spaced = h;
  times = pos 0 -ℤ int_div_euclid (pos 0 -ℤ place) (pos spacing);
  is = let d = divided (pos 0 -ℤ place) spacing h in let t = minus_times (int_div_euclid (pos 0 -ℤ place) (pos spacing))
      (pos spacing) in omega (arith, ints, d, t, e);
}
  where
    divided : (n : ℤ) (d : ℕ) → 0 < d → n ≡ int_div_euclid n (pos d) *ℤ pos d +ℤ int_rem_euclid n (pos d)
    divided (pos a) d h = omega (arith, ints)
    divided (negsuc a) d h = omega (arith, ints)

-- what is left up to a greatest place
pub falls : (high z next : ℤ) → z ≤ℤ high → z <ℤ next
    → unsigned_abs (int_max (pos 0) (high +ℤ pos 1 -ℤ next)) < unsigned_abs (int_max (pos 0) (high +ℤ pos 1 -ℤ z))
falls high z next h k =
    let g = greater (pos 0) (high +ℤ pos 1 -ℤ next) (int_max (pos 0) (high +ℤ pos 1 -ℤ next)) refl in
    let l = greater (pos 0) (high +ℤ pos 1 -ℤ z) (int_max (pos 0) (high +ℤ pos 1 -ℤ z)) refl in
    let first = g.first in
    let second = l.second in
    let least = g.least (high -ℤ z) (omega (arith, ints)) (omega (arith, ints)) in
    less (int_max (pos 0) (high +ℤ pos 1 -ℤ next)) (int_max (pos 0) (high +ℤ pos 1 -ℤ z)) first (omega (arith, ints))
  where
    less : (x y : ℤ) → pos 0 ≤ℤ x → x <ℤ y → unsigned_abs x < unsigned_abs y
    less x y h k = omega (arith, ints)

-- the greatest place as it is compared
pub read_high : (z : ℤ) → FitsSigned w32 z → to_z w64 (of_z w64 (to_z w32 (of_z w32 z))) ≡ z
read_high z fits =
    ap (λ (y : ℤ). to_z w64 (of_z w64 y)) (to_z-of_z w32 z fits) ∙ to_z-of_z w64 z (omega (arith, ints))

-- ---- multiples of sizes, from far before a place to far behind it
pub times_more : (n spacing : ℕ) → 0 < spacing → n ≤ n * spacing
times_more n spacing h = grind arith

pub one_more_time : (k spacing : ℕ) → k * spacing + spacing ≡ suc k * spacing
one_more_time k spacing = grind arith

pub twice_and_more : (n spacing : ℕ) → 0 < spacing → n * spacing + n * spacing < (n + n + 1) * spacing
twice_and_more n spacing h = grind arith
