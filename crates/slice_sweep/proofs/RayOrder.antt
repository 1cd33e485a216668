-- The order of rays is a strict order in which any two compare.
use Rattle.std.proofs.Common.{◌≡◌, ℕ, zero, suc, ◌+◌, ◌<◌, ◌≤◌, ◌⊎◌, inl, inr, Bool, true, false, not, ◌&&◌, ◌||◌, List, [], ◌∷◌, length, get_or, refl, sym, arith, subst, add-one}
use lib.IntN.{◌*ℤ◌}
use lib.Signed.{◌<ℤ◌}
use lib.Dec.{T, nltb→le}
use Rattle.std.specs.Prelude.{nat_lt}
use Rattle.std.specs.Cmp.{IsStrictWeakOrder}
use Rattle.std.specs.List.Sorted.{IsSortedBy}
use Rattle.std.proofs.lemmas.Int.{ints}
use Rattle.std.proofs.lemmas.List.Sorted.{IsStrictWeakOrder-by_number}
use Rattle.scad_base.proofs.Tests.{is_lt-int_cmp}
use Rattle.scad_geom.specs.declared.level.Level.{Level}
use Rattle.scad_geom.specs.Level.{IsAtMost}
use Rattle.scad_geom.proofs.Heights.{at_most_chain}
use Rattle.slice_bundles.proofs.Lexicographic.{lexicographic}
use Rattle.slice_sweep.specs.declared.ray.Ray.{Ray}
use Rattle.slice_sweep.specs.Rays.{leans_left, comes_first, AreSorted}

-- what a comparison says of the test that it decides
pub ruleset cmp_tests = (is_lt-int_cmp)

lean_order : IsStrictWeakOrder leans_left
lean_order = record {
  one_way = λ x y h. sym (omega (arith, ints));
  chain = λ x y z h k.
      let at : Ray → Level = λ r. record { n = r.run; d = r.rise } in
      let a : IsAtMost (at y) (at x) = omega (arith, ints) in
      let b : IsAtMost (at z) (at y) = omega (arith, ints) in
      let c : IsAtMost (at z) (at x) = at_most_chain (at z) (at y) (at x) z.rises y.rises x.rises b a in
      sym (omega (arith, ints));
}

-- numbers decide where slopes don't
pub ray_order : IsStrictWeakOrder comes_first
ray_order = lexicographic leans_left (λ r s. nat_lt r.number s.number) lean_order
    (IsStrictWeakOrder-by_number (λ (r : Ray). r.number))

-- ---- sorted rays
sorted_by : (rs : List Ray) → ((k : ℕ) (d : Ray) → suc k < length rs → comes_first (get_or rs (suc k) d)
    (get_or rs k d) ≡ false) → AreSorted rs
sorted_by [] h = tt
sorted_by (r ∷ []) h = tt
sorted_by (r ∷ (s ∷ rs)) h = (h zero r (omega arith), sorted_by (s ∷ rs) (λ k d b. h (suc k) d (omega arith)))

pub sorted_from : (rs : List Ray) → IsSortedBy comes_first rs → AreSorted rs
sorted_from rs h = sorted_by rs (λ k d b.
    let t : comes_first (get_or rs (k + 1) d) (get_or rs k d) ≡ false = h k d (omega arith) (omega arith) in
    rw add-one at t)

-- one of two neighbours doesn't come after the other
apart_parts : (c d e : Bool) → (c || (not d && e)) ≡ false
    → (c ≡ false) × ((d ≡ true) ⊎ ((d ≡ false) × (e ≡ false)))
apart_parts true d e h = cc
apart_parts false true e h = (refl, inl refl)
apart_parts false false true h = cc
apart_parts false false false h = (refl, inr (refl, refl))

pub neighbours : (p q : Ray) → comes_first q p ≡ false
    → ((p.run *ℤ q.rise) <ℤ (q.run *ℤ p.rise)) ⊎ ((p.run *ℤ q.rise ≡ q.run *ℤ p.rise) × (p.number ≤ q.number))
neighbours p q h =
    let t = apart_parts (leans_left q p) (leans_left p q) (nat_lt q.number p.number) h in
    let a = t.0 in
    elim t.1 [
      | inl b ↦ inl (omega (arith, ints))
      | inr b ↦ let b0 = b.0 in let b1 = b.1 in inr (omega (arith, ints), not_less q.number p.number b1)
    ]
  where
    not_less : (m n : ℕ) → nat_lt m n ≡ false → n ≤ m
    not_less m n h = nltb→le m n (subst (λ (t : Bool). T (not t)) (sym h) tt)
