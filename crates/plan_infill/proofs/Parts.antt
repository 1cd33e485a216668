-- Parts of stretches.
use Rattle.std.proofs.Common.{◌≡◌, Bool, true, false, [], ◌∷◌, refl, sym, ◌∙◌, arith, ℤ, pos, ◌+ℤ◌, ◌-ℤ◌, ◌*ℤ◌, ◌<ℤ◌, int_lt}
use lib.Signed.{◌≤ℤ◌}
use Rattle.std.specs.Prelude.{int_le}
use Rattle.std.proofs.lemmas.Int.{ints}
use Rattle.std.proofs.Math.IntN.{zero-*ℤ, *ℤ_comm}
use Rattle.scad_geom.proofs.Ring.{ring, num, ◌⊖◌, ◌⊗◌, v0, v1}
use Rattle.plan_infill.specs.declared.stretch.Stretch.{Stretch}
use Rattle.plan_infill.specs.Quotient.{IsFloor, IsCeiling}
use Rattle.plan_infill.specs.Columns.{IsPositivePart, IsLastPart, IsFirstPart, IsClamped}
use Rattle.plan_infill.proofs.Quotients.{after_floor, after_quotient, before_ceiling, before_quotient}
use Rattle.scad_base.proofs.Tests.{int_le-at_most, int_lt-less}
use Rattle.std.proofs.Math.Bool.{and-true}
use Rattle.std.specs.Cmp.{both_ways}

less_alike : (a b c d : ℤ) → (a <ℤ b → c <ℤ d) → (c <ℤ d → a <ℤ b) → int_lt a b ≡ int_lt c d
less_alike a b c d f g = both_ways (int_lt a b) (int_lt c d) (λ h. let k = f (omega (arith, ints, h)) in int_lt-less c d k) (λ h. let k = g (omega (arith, ints, h)) in int_lt-less a b k)

le_alike : (a b c d : ℤ) → (a ≤ℤ b → c <ℤ d) → (c <ℤ d → a ≤ℤ b) → int_le a b ≡ int_lt c d
le_alike a b c d f g = both_ways (int_le a b) (int_lt c d) (λ h. let k = f (omega (arith, ints, h)) in int_lt-less c d k) (λ h. let k = g (omega (arith, ints, h)) in int_le-at_most a b k)

pub last_part : (of : Stretch) (from r : ℤ) → of.from ≤ℤ of.until → IsClamped from of.from of.until r → IsLastPart of from (record { from = r; until = of.until })
last_part of from r o k =
    let f = k.from in
    let t = k.to in
    record {
      part_of = record { from = f; order = t; until = omega (arith, ints) };
      each = λ z a b. rw (int_lt-less z of.until b, and-true (int_le r z)) (k.same z a b);
    }

lt_by_le : (r u z : ℤ) → int_le r z ≡ int_le u z → int_lt z r ≡ int_lt z u
lt_by_le r u z e = by_test (int_le u z) refl e
  where
    by_test : (t : Bool) → int_le u z ≡ t → int_le r z ≡ t → int_lt z r ≡ int_lt z u
    by_test true q p =
        let a : int_lt z r ≡ false = sym (omega (arith, ints)) in
        let b : int_lt z u ≡ false = sym (omega (arith, ints)) in a ∙ sym b
    by_test false q p =
        let a : int_lt z r ≡ true = sym (omega (arith, ints)) in
        let b : int_lt z u ≡ true = sym (omega (arith, ints)) in a ∙ sym b

pub first_part : (of : Stretch) (until r : ℤ) → of.from ≤ℤ of.until → IsClamped until of.from of.until r → IsFirstPart of until (record { from = of.from; until = r })
first_part of until r o k =
    let f = k.from in
    let t = k.to in
    record {
      part_of = record { from = omega (arith, ints); order = f; until = t };
      each = λ z a b. rw (int_le-at_most of.from z a) (lt_by_le r until z (k.same z a b));
    }

turned : (s z : ℤ) → s *ℤ z ≡ pos 0 -ℤ z *ℤ (pos 0 -ℤ s)
turned s z = ring (s ∷ z ∷ []) (v0 ⊗ v1) (num (pos 0) ⊖ v1 ⊗ (num (pos 0) ⊖ v0)) refl

pub rising_part : (of part : Stretch) (slope start f : ℤ) → pos 0 <ℤ slope → IsFloor (pos 0 -ℤ start) slope f → IsLastPart of (f +ℤ pos 1) part → IsPositivePart of slope start part
rising_part of part slope start f h q l = record {
  part_of = l.part_of;
  each = λ z a b. l.each z a b ∙ le_alike (f +ℤ pos 1) z (pos 0) (slope *ℤ z +ℤ start)
      (λ k. let m = after_floor (pos 0 -ℤ start) slope f z h q k in let e = *ℤ_comm slope z in omega (arith, ints, m, e))
      (λ k. let e = *ℤ_comm slope z in after_quotient (pos 0 -ℤ start) slope f z h q (omega (arith, ints, k, e)));
}

pub falling_part : (of part : Stretch) (slope start u : ℤ) → slope <ℤ pos 0 → IsCeiling start (pos 0 -ℤ slope) u → IsFirstPart of u part → IsPositivePart of slope start part
falling_part of part slope start u h q l =
    let d : pos 0 <ℤ (pos 0 -ℤ slope) = omega (arith, ints) in
    record {
      part_of = l.part_of;
      each = λ z a b. l.each z a b ∙ less_alike z u (pos 0) (slope *ℤ z +ℤ start)
          (λ k. let m = before_ceiling start (pos 0 -ℤ slope) u z d q k in let e = turned slope z in omega (arith, ints, m, e))
          (λ k. let e = turned slope z in before_quotient start (pos 0 -ℤ slope) u z d q (omega (arith, ints, k, e)));
    }

flat : (slope z : ℤ) → slope ≡ pos 0 → slope *ℤ z ≡ pos 0
flat slope z e = rw e (zero-*ℤ z)

pub whole_part : (of : Stretch) (slope start : ℤ) → of.from ≤ℤ of.until → slope ≡ pos 0 → pos 0 <ℤ start → IsPositivePart of slope start of
whole_part of slope start o e h = record {
  part_of = record { from = omega (arith, ints); order = o; until = omega (arith, ints) };
  each = λ z a b. let f = flat slope z e in rw (int_le-at_most of.from z a, int_lt-less z of.until b) (sym (int_lt-less (pos 0) (slope *ℤ z +ℤ start) (omega (arith, ints, f))));
}

pub no_part : (of part : Stretch) (slope start : ℤ) → slope ≡ pos 0 → start ≤ℤ pos 0 → IsFirstPart of of.from part → IsPositivePart of slope start part
no_part of part slope start e h l = record {
  part_of = l.part_of;
  each = λ z a b.
      let f = flat slope z e in
      l.each z a b ∙ less_alike z of.from (pos 0) (slope *ℤ z +ℤ start) (λ k. absurd (omega (arith, ints, k, a)))
      (λ k. absurd (omega (arith, ints, f, k, h)));
}
