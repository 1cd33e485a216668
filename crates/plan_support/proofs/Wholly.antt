-- Where something is tested true at a place, and false far from it, the place lies on a maximal stretch.
use Rattle.std.proofs.Common.{◌≡◌, ℕ, zero, suc, Bool, true, false, refl, arith, ℤ, pos, ◌+ℤ◌, ◌-ℤ◌}
use lib.Signed.{◌≤ℤ◌}
use Rattle.std.proofs.lemmas.Int.{ints}
use Rattle.std.proofs.lemmas.Bool.{both_ways}
use Rattle.scad_geom.proofs.Rising.{by_order, order}

-- from here down to a start, or up to an end, it is true
pub record HasStart (test : ℤ → Bool) (x : ℤ) : Type 0 where
  pub from : ℤ
  pub low : from ≤ℤ x
  pub holds : (z : ℤ) → from ≤ℤ z → z ≤ℤ x → test z ≡ true
  pub before : test (from -ℤ pos 1) ≡ false

pub record HasEnd (test : ℤ → Bool) (x : ℤ) : Type 0 where
  pub to : ℤ
  pub high : x ≤ℤ to
  pub holds : (z : ℤ) → x ≤ℤ z → z ≤ℤ to → test z ≡ true
  pub after : test (to +ℤ pos 1) ≡ false

module _ (test : ℤ → Bool) where
  here : (x z : ℤ) → test x ≡ true → z ≡ x → test z ≡ true
  here x z h e = rw e h

  pub start_of : (k : ℕ) (x : ℤ) → ((z : ℤ) → z ≤ℤ (x -ℤ pos k) → test z ≡ false) → test x ≡ true → HasStart test x
  start_of zero x far h = absurd (both_ways _ (far x (omega (arith, ints))) h)
  start_of (suc k) x far h =
      by_test (test (x -ℤ pos 1)) refl (λ e. start_of k (x -ℤ pos 1) (λ z o. far z (omega (arith, ints, o))) e)
    where
      by_test : (t : Bool) → test (x -ℤ pos 1) ≡ t → (test (x -ℤ pos 1) ≡ true → HasStart test (x -ℤ pos 1))
          → HasStart test x
      by_test true e below =
          let s = below e in
          let l = s.low in
          record {
            from = s.from;
            low = omega (arith, ints, l);
            holds = λ z a b. by_order (order x z)
                (λ o. here x z h (omega (arith, ints, o, b)))
                (λ o. s.holds z a (omega (arith, ints, o)));
            before = s.before;
          }
      by_test false e below = record {
        from = x;
        low = omega (arith, ints);
        holds = λ z a b. here x z h (omega (arith, ints, a, b));
        before = e;
      }

  pub end_of : (k : ℕ) (x : ℤ) → ((z : ℤ) → (x +ℤ pos k) ≤ℤ z → test z ≡ false) → test x ≡ true → HasEnd test x
  end_of zero x far h = absurd (both_ways _ (far x (omega (arith, ints))) h)
  end_of (suc k) x far h =
      by_test (test (x +ℤ pos 1)) refl (λ e. end_of k (x +ℤ pos 1) (λ z o. far z (omega (arith, ints, o))) e)
    where
      by_test : (t : Bool) → test (x +ℤ pos 1) ≡ t → (test (x +ℤ pos 1) ≡ true → HasEnd test (x +ℤ pos 1))
          → HasEnd test x
      by_test true e above =
          let s = above e in
          let l = s.high in
          record {
            to = s.to;
            high = omega (arith, ints, l);
            holds = λ z a b. by_order (order z x)
                (λ o. here x z h (omega (arith, ints, o, a)))
                (λ o. s.holds z (omega (arith, ints, o)) b);
            after = s.after;
          }
      by_test false e above = record {
        to = x;
        high = omega (arith, ints);
        holds = λ z a b. here x z h (omega (arith, ints, a, b));
        after = e;
      }
