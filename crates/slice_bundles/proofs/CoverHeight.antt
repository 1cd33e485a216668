-- Before the first edge begins, the starts of all edges cover any height.
use Rattle.std.proofs.Common.{◌≡◌, ℕ, zero, suc, ◌<◌, ◌≤◌, true, List, [], length, refl, sym, ap, ◌∙◌, arith, subst, IsPermutation}
use Rattle.scad_geom.specs.declared.level.Level.{Level}
use Rattle.scad_geom.specs.declared.level.LeafEdge.{LeafEdge}
use Rattle.slice_bundles.specs.declared.start.Start.{Start}
use Rattle.slice_bundles.specs.Starts.{numbers_of, all_numbers}
use Rattle.slice_bundles.specs.Times.{times}
use Rattle.slice_bundles.specs.CoverHeight.{CoverHeight}
use Rattle.slice_bundles.proofs.Times.{times_permuted, standing}
use Rattle.slice_bundles.proofs.Choice.{numbers_where, numbers_are, stand_from_first, all_where, once_where}

pub none_live : (es : List LeafEdge) (at : Level) (starts : List Start)
    → IsPermutation (all_numbers es) (numbers_of starts) → CoverHeight es at [] starts
none_live es at starts m = record {
  begun = tt;
  once = λ k. most k (times k (all_numbers es)) refl;
  all = λ k h t. times_permuted k (all_numbers es) (numbers_of starts) m ∙ ap (times k) (numbers_are 0 es)
      ∙ once_where (λ e. true) es k h refl;
}
  where
    few : (k n m : ℕ) → m ≡ n → n ≡ 0 → m ≤ 1
    few k n m p q = omega arith

    fit : (k n m : ℕ) → m ≡ n → n ≡ 1 → m ≤ 1
    fit k n m p q = omega arith

    most : (k n : ℕ) → times k (all_numbers es) ≡ n → times k (numbers_of starts) ≤ 1
    most k zero e = few k (times k (all_numbers es)) (times k (numbers_of starts))
        (times_permuted k (all_numbers es) (numbers_of starts) m) e
    most k (suc n) e =
        let s = standing (λ j. (j < length es) × (true ≡ true)) k (numbers_where (λ e. true) 0 es)
        (all_where (λ e. true) es 0 es (stand_from_first es)) (subst (λ (z : ℕ). 1 ≤ z) (sym (ap (times k) (sym (numbers_are 0 es)) ∙ e)) (omega arith)) in
        fit k (times k (all_numbers es)) (times k (numbers_of starts))
        (times_permuted k (all_numbers es) (numbers_of starts) m)
        (ap (times k) (numbers_are 0 es) ∙ once_where (λ e. true) es k s.0 refl)
