-- Maximal stretches of what holds along a line.
use Rattle.std.proofs.Common.{◌≡◌, ℕ, List, [], ◌∷◌, get_or, subst, arith, ℤ, pos, ◌+ℤ◌, ◌<ℤ◌}
use Rattle.std.specs.Prelude.{All}
use Rattle.std.proofs.lemmas.Int.{ints}
use Rattle.std.proofs.lemmas.List.Elements.{All-nil, All-head, All-tail}
use Rattle.scad_geom.proofs.Rising.{by_order, order}
use Rattle.plan_infill.specs.declared.run.Run.{Run}
use Rattle.plan_infill.specs.Runs.{GoUp}
use Rattle.plan_support.specs.Stretches.{IsStretch, AreStretches}
use Rattle.plan_support.specs.Rows.{AreApart}

module _ (Holds : ℤ → Type 0) where
  -- where nothing holds there is none
  pub no_stretches : (least : ℕ) → ((x : ℤ) → Holds x → ⊥) → AreStretches Holds least []
  no_stretches least none = record {
    upwards = tt;
    each = All-nil (IsStretch Holds least);
    all = λ r s. let l = s.long in absurd (none r.from (s.holds r.from (omega (arith, ints)) (omega (arith, ints, l))));
  }

  -- a place where it doesn't hold stands between two of them
  between : (r s : Run) → IsStretch Holds 0 r → IsStretch Holds 0 s → r.to <ℤ s.from → (r.to +ℤ pos 1) <ℤ s.from
  between r s p q h = by_order (order s.from (r.to +ℤ pos 1))
      (λ o. let e : s.from ≡ r.to +ℤ pos 1 = omega (arith, ints, h, o) in
      let l = q.long in
      absurd (p.after (subst Holds e (q.holds s.from (omega (arith, ints)) (omega (arith, ints, l))))))
      (λ o. o)

  pub stand_apart : (rs : List Run) → GoUp rs → All (IsStretch Holds 0) rs → AreApart rs
  stand_apart [] u e = tt
  stand_apart (r ∷ rs) u e =
      let first = All-head (IsStretch Holds 0) r rs e in
      let others = All-tail (IsStretch Holds 0) r rs e in
      let l = first.long in (
        omega (arith, ints, l),
        (λ k d n. between r (get_or rs k d) first (others k d n) (u.0 k d n)),
        stand_apart rs u.1 others,
      )
