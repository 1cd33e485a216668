-- The rows of layers, layer by layer.
use Rattle.std.proofs.Common.{◌≡◌, ◌<◌, ◌≤◌, ◌+◌, ℕ, List, [], ◌∷◌, ◌++◌, length, length-append, get_or, Ok, All, sym, ap, ◌∙◌, subst, ⊎_elim, arith}
use Rattle.std.proofs.lemmas.Bool.{cases_lt}
use Rattle.std.proofs.lemmas.List.{get_or_append_left}
use Rattle.std.proofs.Math.Seq.{get_or-append_seam}
use Rattle.std.proofs.lemmas.List.Elements.{All-push, All-same}
use Rattle.scad_fault.specs.declared.budget.Budget.{Budget}
use Rattle.scad_geom.specs.declared.point.Pt.{Pt}
use Rattle.plan_support.specs.Rows.{Row, AreRows}
use Rattle.plan_support.specs.Spans.{AreSpans}
use Rattle.slice_work.specs.Part.{Layout, Part}
use Rattle.slice_work.specs.Survey.{IsSurveyed, AreSurveyed, AddsRows, IsLeastOver}

module _ (outlines : List (List Pt)) (spacing : ℕ) (old new : List (List Row))
    (adds : AddsRows outlines spacing old new) where
  kept_rows : (n : ℕ) → n < length old → get_or new n [] ≡ get_or old n []
  kept_rows n below = ap (λ (all : List (List Row)). get_or all n []) adds.added
      ∙ get_or_append_left old (adds.rows ∷ []) [] n below

  added_rows : (n : ℕ) → n ≡ length old → get_or new n [] ≡ adds.rows
  added_rows n is = ap (λ (all : List (List Row)). get_or all n []) adds.added
      ∙ ap (λ (k : ℕ). get_or (old ++ adds.rows ∷ []) k []) is
      ∙ get_or-append_seam old adds.rows [] []

  one_longer : length new ≡ length old + 1
  one_longer = ap length adds.added ∙ length-append old (adds.rows ∷ [])

  pub rows_added : All AreRows old → All AreRows new
  rows_added are = All-same AreRows new (old ++ adds.rows ∷ []) adds.added
      (All-push AreRows old adds.rows are adds.are_rows)

-- with the rows of the next layer, which is laid out so
pub next_surveyed : (part : Part) (spacing i j : ℕ) (layout : Layout) (old new : List (List Row)) → j ≡ i + 1
    → part i ≡ Ok layout → AddsRows layout.outlines spacing old new
    → AreSurveyed part spacing i old → AreSurveyed part spacing j new
next_surveyed part spacing i j layout old new next laid adds are =
    let count : length old ≡ i = are.as_many in
    let longer : length new ≡ length old + 1 = one_longer layout.outlines spacing old new adds in
    record {
      as_many = omega (arith, longer, count, next);
      each = λ n below.
          ⊎_elim
          (λ before. subst (IsSurveyed (part n) spacing)
          (sym (kept_rows layout.outlines spacing old new adds n (omega (arith, before, count))))
          (are.each n before))
          (λ behind.
          let here : n ≡ i = omega (arith, below, behind, next) in
          record {
            layout = layout;
            laid = ap part here ∙ laid;
            spans = subst (AreSpans layout.outlines spacing)
                (sym (added_rows layout.outlines spacing old new adds n (omega (arith, here, count)))) adds.spans;
          })
          (cases_lt n i);
    }

-- the least of some layers that passes a budget is the least of more
pub least_of_more : (part : Part) (some all : ℕ) (budget : Budget) → some ≤ all → IsLeastOver part some budget
    → IsLeastOver part all budget
least_of_more part some all budget within least =
    let here : least.layer < some = least.within in
    record {
      layer = least.layer;
      within = omega (arith, here, within);
      over = least.over;
      below = least.below;
    }
