-- Rows of what holds: there is one list of them, and what holds at the same points has the same.
use Rattle.std.proofs.Common.{◌≡◌, ◌≢◌, ℕ, Bool, true, false, List, [], ◌∷◌, refl, sym, subst, ◌∙◌, arith, ℤ, ◌<ℤ◌}
use Rattle.std.specs.Prelude.{All, Contains, if◌then◌else◌}
use Rattle.std.specs.Ordering.{int_eq}
use Rattle.std.proofs.lemmas.Int.{ints}
use Rattle.std.proofs.lemmas.Bool.Decides.{Decides-int_eq}
use Rattle.std.proofs.lemmas.List.Elements.{All-head, All-tail, All-weaker, All-contains}
use Rattle.plan_infill.specs.declared.run.Run.{Run}
use Rattle.plan_infill.specs.Runs.{GoUp}
use Rattle.plan_support.specs.Stretches.{IsStretch, AreStretches}
use Rattle.plan_support.specs.Rows.{Row, runs_at, GoUpwards, AreRowsOf}
use Rattle.plan_support.proofs.HeightRows.{own_row}
use Rattle.plan_support.proofs.SupportRuns.{same_stretches}
use Rattle.plan_infill.proofs.Elements.{first_in, other_in}
use Rattle.plan_layer.proofs.Ascending.{Ascends, one_list}
use Rattle.plan_layer.proofs.OnePlan.{runs_turn}

-- ---- the stretches of one height
module _ (Holds : ℤ → Type 0) (least : ℕ) where
  runs_ascend : (rs : List Run) → GoUp rs → All (IsStretch Holds least) rs
      → Ascends (λ r s. r.from <ℤ s.from) runs_turn rs
  runs_ascend [] g h = tt
  runs_ascend (r ∷ rs) g h =
      let long = (All-head (IsStretch Holds least) r rs h).long in (
        All-weaker (λ s. r.to <ℤ s.from) (λ s. r.from <ℤ s.from) (λ s k. omega (arith, ints)) rs g.0,
        runs_ascend rs g.1 (All-tail (IsStretch Holds least) r rs h),
      )

  one_stretches : (xs ys : List Run) → AreStretches Holds least xs → AreStretches Holds least ys → xs ≡ ys
  one_stretches xs ys a b =
      one_list (λ r s. r.from <ℤ s.from) runs_turn xs ys (runs_ascend xs a.upwards a.each)
      (runs_ascend ys b.upwards b.each)
      (λ r h. b.all r (All-contains (IsStretch Holds least) xs r a.each h))
      (λ r h. a.all r (All-contains (IsStretch Holds least) ys r b.each h))

-- ---- rows by their heights
rows_turn : (r s : Row) → r.y <ℤ s.y → s.y <ℤ r.y → ⊥
rows_turn r s h k = omega (arith, ints)

rows_ascend : (rs : List Row) → GoUpwards rs → Ascends (λ r s. r.y <ℤ s.y) rows_turn rs
rows_ascend [] u = tt
rows_ascend (r ∷ rs) u = (u.0, rows_ascend rs u.1)

-- each row has the runs at its height
pub own_runs : (rows : List Row) → GoUpwards rows → All (λ (r : Row). runs_at r.y rows ≡ r.runs) rows
own_runs rows up k d l = own_row rows k d up l

-- where there are runs at a height there is the row of them
row_there : (y : ℤ) (rows : List Row) → runs_at y rows ≢ []
    → Contains rows (record { y = y; runs = runs_at y rows })
row_there y [] some = absurd (some refl)
row_there y (r ∷ rs) some = by_test (int_eq r.y y) refl some (λ n. row_there y rs n)
  where
    by_test : (t : Bool) → int_eq r.y y ≡ t → (if t then r.runs else runs_at y rs) ≢ []
        → (runs_at y rs ≢ [] → Contains rs (record { y = y; runs = runs_at y rs }))
        → Contains (r ∷ rs) (record { y = y; runs = if t then r.runs else runs_at y rs })
    by_test true e n others =
        let same : r.y ≡ y = (Decides-int_eq r.y y).0 e in
        subst (λ (z : ℤ). Contains (r ∷ rs) (record { y = z; runs = r.runs })) same (first_in r rs)
    by_test false e n others = other_in r rs (record { y = y; runs = runs_at y rs }) (others n)

module _ (Holds : ℤ → ℤ → Type 0) (least : ℕ) where
  in_other : (xs ys : List Row) → AreRowsOf Holds least xs → AreRowsOf Holds least ys → (r : Row)
      → Contains xs r → Contains ys r
  in_other xs ys a b r c =
      let own : runs_at r.y xs ≡ r.runs =
      All-contains (λ (q : Row). runs_at q.y xs ≡ q.runs) xs r (own_runs xs a.upwards) c in
      let one : runs_at r.y ys ≡ r.runs =
      one_stretches (λ x. Holds x r.y) least (runs_at r.y ys) (runs_at r.y xs) (b.each r.y) (a.each r.y) ∙ own in
      let some : runs_at r.y ys ≢ [] =
      λ e. All-contains (λ (q : Row). q.runs ≢ []) xs r a.some c (sym one ∙ e) in
      subst (λ (rs : List Run). Contains ys (record { y = r.y; runs = rs })) one (row_there r.y ys some)

  -- there is one list of rows
  pub rows_are_one : (xs ys : List Row) → AreRowsOf Holds least xs → AreRowsOf Holds least ys → xs ≡ ys
  rows_are_one xs ys a b =
      one_list (λ r s. r.y <ℤ s.y) rows_turn xs ys (rows_ascend xs a.upwards) (rows_ascend ys b.upwards)
      (in_other xs ys a b) (in_other ys xs b a)

  -- each run of each row is a stretch
  pub each_stretch : (rows : List Row) → AreRowsOf Holds least rows
      → All (λ (r : Row). All (IsStretch (λ x. Holds x r.y) least) r.runs) rows
  each_stretch rows a = All-weaker (λ (r : Row). runs_at r.y rows ≡ r.runs)
      (λ (r : Row). All (IsStretch (λ x. Holds x r.y) least) r.runs)
      (λ r e. subst (All (IsStretch (λ x. Holds x r.y) least)) e (a.each r.y).each) rows (own_runs rows a.upwards)

-- what holds at the same points has the same rows
pub rows_alike : (P Q : ℤ → ℤ → Type 0) (least : ℕ) (rows : List Row) → ((x y : ℤ) → P x y → Q x y)
    → ((x y : ℤ) → Q x y → P x y) → AreRowsOf P least rows → AreRowsOf Q least rows
rows_alike P Q least rows f g a = record {
  upwards = a.upwards;
  some = a.some;
  each = λ y. same_stretches (λ x. P x y) (λ x. Q x y) least (runs_at y rows) (λ x. f x y) (λ x. g x y) (a.each y);
}
