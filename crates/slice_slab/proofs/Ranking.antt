-- The order of passages is a strict order in which any two compare.
use Rattle.std.proofs.Common.{◌≡◌, ℕ, ℤ, Bool, true, false, not, ◌&&◌, ◌||◌, ◌==◌, cond, refl, sym, ap₂, ◌∙◌, arith}
use Rattle.std.specs.Prelude.{nat_lt, int_lt}
use Rattle.std.specs.Ordering.{int_cmp, nat_cmp, is_lt}
use Rattle.std.specs.declared.cmp.Ordering.TheVariants.{Less, Equal, Greater}
use Rattle.std.specs.Cmp.{IsStrictWeakOrder}
use Rattle.std.proofs.lemmas.Int.{ints}
use Rattle.std.proofs.lemmas.List.Sorted.{IsStrictWeakOrder-by_number}
use Rattle.scad_geom.specs.declared.level.Level.{Level}
use Rattle.scad_geom.specs.Level.{IsAtMost}
use Rattle.scad_geom.proofs.Heights.{at_most_chain}
use Rattle.slice_bundles.proofs.Lexicographic.{lexicographic}
use Rattle.slice_slab.specs.declared.passage.Passage.{Passage}
use Rattle.slice_slab.specs.Passages.{is_left, leans_left, first_by, comes_first}

left_order : IsStrictWeakOrder is_left
left_order = record {
  one_way = λ x y h. sym (omega (arith, ints));
  chain = λ x y z h k.
      let at : Passage → Level = λ p. record { n = p.x; d = p.rise } in
      let a : IsAtMost (at y) (at x) = omega (arith, ints) in
      let b : IsAtMost (at z) (at y) = omega (arith, ints) in
      let c : IsAtMost (at z) (at x) = at_most_chain (at z) (at y) (at x) z.rises y.rises x.rises b a in
      sym (omega (arith, ints));
}

lean_order : IsStrictWeakOrder leans_left
lean_order = record {
  one_way = λ x y h. sym (omega (arith, ints));
  chain = λ x y z h k.
      let at : Passage → Level = λ p. record { n = p.run; d = p.rise } in
      let a : IsAtMost (at y) (at x) = omega (arith, ints) in
      let b : IsAtMost (at z) (at y) = omega (arith, ints) in
      let c : IsAtMost (at z) (at x) = at_most_chain (at z) (at y) (at x) z.rises y.rises x.rises b a in
      sym (omega (arith, ints));
}

pub passage_order : IsStrictWeakOrder comes_first
passage_order = lexicographic is_left (first_by leans_left (λ p q. nat_lt p.number q.number)) left_order
    (lexicographic leans_left (λ p q. nat_lt p.number q.number) lean_order
    (IsStrictWeakOrder-by_number (λ (p : Passage). p.number)))

-- ---- what comparisons say of the tests
-- what a comparison says of the order that it begins
pub decided : (p q : Passage) (lt mt : Passage → Passage → Bool) (a b : ℤ) → int_lt a b ≡ lt p q → int_lt b a ≡ lt q p
    → ¬ (int_cmp a b ≡ Equal) → is_lt (int_cmp a b) ≡ first_by lt mt p q
decided p q lt mt a b first second apart =
    by_tests (int_lt a b) (int_lt b a) (mt p q) apart ∙ ap₂ (λ less more. less || (not more && mt p q)) first second
  where
    by_tests : (less more rest : Bool) → ¬ (cond less Less (cond more Greater Equal) ≡ Equal)
        → is_lt (cond less Less (cond more Greater Equal)) ≡ (less || (not more && rest))
    by_tests true more rest apart = refl
    by_tests false true rest apart = refl
    by_tests false false rest apart = absurd (apart refl)

pub tied : (p q : Passage) (lt mt : Passage → Passage → Bool) (a b : ℤ) → int_lt a b ≡ lt p q → int_lt b a ≡ lt q p
    → int_cmp a b ≡ Equal → mt p q ≡ first_by lt mt p q
tied p q lt mt a b first second same =
    by_tests (int_lt a b) (int_lt b a) (mt p q) same ∙ ap₂ (λ less more. less || (not more && mt p q)) first second
  where
    by_tests : (less more rest : Bool) → cond less Less (cond more Greater Equal) ≡ Equal
        → rest ≡ (less || (not more && rest))
    by_tests true more rest same = absurd (cc)
    by_tests false true rest same = absurd (cc)
    by_tests false false rest same = refl

pub is_lt-nat_cmp : (a b : ℕ) → is_lt (nat_cmp a b) ≡ nat_lt a b
is_lt-nat_cmp a b = by_tests (nat_lt a b) (a == b)
  where
    by_tests : (less same : Bool) → is_lt (cond less Less (cond same Equal Greater)) ≡ less
    by_tests true same = refl
    by_tests false true = refl
    by_tests false false = refl
