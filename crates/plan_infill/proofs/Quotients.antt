-- What quotients rounded down and up tell of products.
use Rattle.std.proofs.Common.{◌≡◌, ◌≤◌, [], ◌∷◌, arith, ℤ, pos, negsuc, ◌+ℤ◌, ◌-ℤ◌, ◌*ℤ◌, ◌<ℤ◌, refl, sym, subst, inl, inr}
use lib.Signed.{◌≤ℤ◌}
use Rattle.std.specs.Prelude.{unsigned_abs}
use Rattle.std.specs.Int.{int_div_euclid}
use Rattle.std.proofs.lemmas.Int.{ints}
use Rattle.scad_geom.proofs.Signs.{at_least_mul, sub_mul, minus_times, one_more_times, one_less_times}
use Rattle.scad_geom.proofs.Rising.{order}
use Rattle.scad_geom.proofs.Ring.{ring, num, ◌⊕◌, ◌⊖◌, ◌⊗◌, v0, v1}
use Rattle.plan_infill.specs.Quotient.{IsFloor, IsCeiling}

pub floor_is : (n d q : ℤ) → pos 0 <ℤ d → q ≡ int_div_euclid n d → IsFloor n d q
floor_is (pos a) (pos d) q h e = subst (IsFloor (pos a) (pos d)) (sym e)
    (record { least = omega (arith, ints); most = omega (arith, ints) })
floor_is (negsuc a) (pos d) q h e = subst (IsFloor (negsuc a) (pos d)) (sym e)
    (record { least = omega (arith, ints); most = omega (arith, ints) })
floor_is n (negsuc d) q h e = absurd (omega (arith, ints))

pub ceiling_is : (n d q : ℤ) → pos 0 <ℤ d → q ≡ int_div_euclid (pos 0 -ℤ n) d
    → IsCeiling n d (pos 0 -ℤ q)
ceiling_is n d q h e =
    let f = floor_is (pos 0 -ℤ n) d q h e in
    let l = f.least in
    let m = f.most in
    let s = minus_times q d in
    record { least = omega (arith, ints, s); most = omega (arith, ints, s) }

split : (q d : ℤ) → q *ℤ (d -ℤ pos 1) ≡ q *ℤ d -ℤ q
split q d = ring (q ∷ d ∷ []) (v0 ⊗ (v1 ⊖ num (pos 1))) (v0 ⊗ v1 ⊖ v0) refl

split_below : (q d : ℤ) → (pos 0 -ℤ (q +ℤ pos 1)) *ℤ (d -ℤ pos 1) ≡ (q +ℤ pos 1) -ℤ (q *ℤ d +ℤ d)
split_below q d = ring (q ∷ d ∷ []) ((num (pos 0) ⊖ (v0 ⊕ num (pos 1))) ⊗ (v1 ⊖ num (pos 1)))
    ((v0 ⊕ num (pos 1)) ⊖ (v0 ⊗ v1 ⊕ v1)) refl

-- a quotient isn't greater in size than what is divided
pub floor_size : (n d q : ℤ) → pos 0 <ℤ d → IsFloor n d q → unsigned_abs q ≤ unsigned_abs n
floor_size n d q h f =
    let l = f.least in
    let t = f.most in
    elim (order (pos 0) q) [
      | inl o ↦ let m = at_least_mul q (d -ℤ pos 1) o (omega (arith, ints)) in let e = split q d in omega (arith, ints, m, e)
      | inr o ↦ let m = at_least_mul (pos 0 -ℤ (q +ℤ pos 1)) (d -ℤ pos 1) (omega (arith, ints)) (omega (arith, ints)) in let e = split_below q d in omega (arith, ints, m, e)
    ]

pub at_most_times : (r x d : ℤ) → pos 0 <ℤ d → r ≤ℤ x → (r *ℤ d) ≤ℤ (x *ℤ d)
at_most_times r x d h k =
    let m = at_least_mul (x -ℤ r) d (omega (arith, ints)) (omega (arith, ints)) in
    let p = sub_mul x r d in
    omega (arith, ints, m, p)

-- what comes after the quotient rounded down
pub after_floor : (n d r x : ℤ) → pos 0 <ℤ d → IsFloor n d r → (r +ℤ pos 1) ≤ℤ x → n <ℤ (x *ℤ d)
after_floor n d r x h f k =
    let m = at_most_times (r +ℤ pos 1) x d h k in
    let e = one_more_times r d in
    let t = f.most in
    omega (arith, ints, m, e)

pub after_quotient : (n d r x : ℤ) → pos 0 <ℤ d → IsFloor n d r → n <ℤ (x *ℤ d)
    → (r +ℤ pos 1) ≤ℤ x
after_quotient n d r x h f k =
    let l = f.least in
    elim (order x r) [
      | inl o ↦ let m = at_most_times x r d h o in absurd (omega (arith, ints, m))
      | inr o ↦ omega (arith, ints)
    ]

-- what comes before the quotient rounded up
pub before_ceiling : (n d r x : ℤ) → pos 0 <ℤ d → IsCeiling n d r → x <ℤ r → (x *ℤ d) <ℤ n
before_ceiling n d r x h f k =
    let m = at_most_times x (r -ℤ pos 1) d h (omega (arith, ints)) in
    let e = one_less_times r d in
    let t = f.least in
    omega (arith, ints, m, e)

pub before_quotient : (n d r x : ℤ) → pos 0 <ℤ d → IsCeiling n d r → (x *ℤ d) <ℤ n → x <ℤ r
before_quotient n d r x h f k =
    let t = f.most in
    elim (order r x) [
      | inl o ↦ let m = at_most_times r x d h o in absurd (omega (arith, ints, m))
      | inr o ↦ omega (arith, ints)
    ]
