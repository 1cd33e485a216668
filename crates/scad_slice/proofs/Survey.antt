-- What a survey of all layers' outlines says of a tree, and what stands below higher layers then.
use Rattle.std.proofs.Common.{◌≡◌, inr, ◌<◌, ◌≤◌, ℕ, List, [], ◌∷◌, length, Option, Some, None, Result, Ok, Err, refl, sym, ap, ◌∙◌, subst, arith}
use Rattle.std.specs.Prelude.{All, IfOk, map, slice_index_or}
use Rattle.std.specs.List.{range_with_len}
use Rattle.std.proofs.lemmas.List.FromFn.{length-map-range_with_len, get_or-map-range_with_len}
use Rattle.scad_fault.specs.declared.budget.Budget.{Budget}
use Rattle.scad_geom.specs.declared.point.Pt.{Pt}
use Rattle.scad_tree.specs.Solid.{Solid}
use Rattle.scad_tree.specs.Solids.{AreSolids}
use Rattle.scad_words.specs.declared.settings.Settings.{Settings}
use Rattle.plan_support.specs.Covers.{AreCovers, run_count, stretch_limit, AreTooMany}
use Rattle.plan_support.specs.Rows.{Row, AreRows}
use Rattle.plan_support.specs.Spans.{AreSpans}
use Rattle.support_laws.specs.Laws.{AreSpansOf}
use Rattle.support_laws.proofs.Shelter.{covers_are_overhung}
use Rattle.slice_work.specs.declared.want.Want.{Want}
use Rattle.slice_work.specs.declared.want.Want.TheVariants.{Outlines, Plan}
use Rattle.slice_work.specs.declared.survey_fault.SurveyFault.{SurveyFault}
use Rattle.slice_work.specs.declared.survey_fault.SurveyFault.TheVariants.{Memory, Over}
use Rattle.slice_work.specs.Part.{Layout, Part, outlines_of}
use Rattle.slice_work.specs.Survey.{AreSurveyed, IsLeastOver}
use Rattle.scad_slice.specs.Budgets.{layer_count, layer_budget}
use Rattle.scad_slice.specs.Supports.{outlines_budget, first_of, stretches_passed, IsBudgetUnless}
use Rattle.scad_slice.specs.Covers.{AreSurveyedOf, AreCoversOf, CoversFit, IsPassedByAll}
use Rattle.scad_slice.specs.Layer.{IsLayerUnless, IsLayer}
use Rattle.scad_slice.specs.Parts.{IsPart}
use Rattle.scad_slice.proofs.AllOutlines.{all_from}
use Rattle.scad_slice.proofs.FirstOf.{first_none, first_some}
use Rattle.scad_slice.proofs.Stretches.{many_stretches}
use Rattle.scad_slice.proofs.Holding.{layer_outlines}
use Rattle.scad_slice.proofs.SomeParts.{parts_are_there}

module _ (s : Settings) (tree : Solid) where
  abbrev count : ℕ
  count = layer_count s.layer_height tree

  -- ---- the outlines of one layer

  none_by : (i : ℕ) (layout : Layout) (before : Option Budget)
      → IsLayerUnless before Outlines s tree i (Ok layout) → before ≡ None
  none_by i layout (Some budget) same = let never : ⊥ = cc in absurd never
  none_by i layout None over = refl

  -- it is laid out, so it passes no budget
  passes_none : (part : Part) (i : ℕ) (layout : Layout) → IsPart Outlines s tree part → part i ≡ Ok layout
      → layer_budget s.layer_height tree i ≡ None
  passes_none part i layout of_part is =
      let layer : IsLayer Outlines s tree i (Ok layout) = subst (IsLayer Outlines s tree i) is (of_part i) in
      sym layer.passed ∙ none_by i layout layer.before layer.is

  some_by : (i : ℕ) (budget : Budget) (before : Option Budget)
      → IsLayerUnless before Outlines s tree i (Err budget) → before ≡ Some budget
  some_by i budget (Some other) same =
      ap (λ (l : Result Layout Budget). elim l [ Ok layout ↦ Some budget | Err b ↦ Some b ]) (sym same)
  some_by i budget None (outlines, of_tree, same) = let never : ⊥ = cc in absurd never

  -- it passes this one
  passes_some : (part : Part) (i : ℕ) (budget : Budget) → IsPart Outlines s tree part → part i ≡ Err budget
      → layer_budget s.layer_height tree i ≡ Some budget
  passes_some part i budget of_part is =
      let layer : IsLayer Outlines s tree i (Err budget) = subst (IsLayer Outlines s tree i) is (of_part i) in
      sym layer.passed ∙ some_by i budget layer.before layer.is

  -- ---- the outlines of all layers

  module _ (part : Part) (of_part : IsPart Outlines s tree part) (layers : List (List Row))
      (found : AreSurveyed part s.support_spacing count layers) where
    abbrev outlines_at : ℕ → List (List Pt)
    outlines_at n = outlines_of (part n)

    abbrev all : List (List (List Pt))
    all = map outlines_at (range_with_len 0 count)

    spans_are : AreSpansOf all s.support_spacing layers
    spans_are =
        let number : length all ≡ count = length-map-range_with_len outlines_at 0 count in
        record {
          as_many = found.as_many ∙ sym number;
          each = λ n inside.
              let within : n < count = omega (arith, inside, number) in
              let here = found.each n within in
              let same : here.layout.outlines ≡ slice_index_or all n [] =
              ap outlines_of (sym here.laid)
              ∙ sym (get_or-map-range_with_len outlines_at 0 count n n [] within (omega arith)) in
              subst (λ (os : List (List Pt)). AreSpans os s.support_spacing (slice_index_or layers n [])) same
              here.spans;
        }

    surveyed_by : All AreRows layers → AreSurveyedOf s tree layers
    surveyed_by rows = record {
      none_passed =
          first_none (layer_budget s.layer_height tree) 0 count
          (λ n inside.
          let here = found.each n inside in
          ap (layer_budget s.layer_height tree) (omega arith) ∙ passes_none part n here.layout of_part here.laid);
      all = all;
      are_all =
          all_from s.layer_height tree outlines_at
          (λ n inside.
          let here = found.each n inside in
          layer_outlines Outlines s tree part n here.layout of_part here.laid);
      spans = spans_are;
      rows = rows;
    }

  pub surveyed_of : AreSolids tree → (layers : List (List Row))
      → ((part : Part) → IsPart Outlines s tree part → AreSurveyed part s.support_spacing count layers)
      → All AreRows layers → AreSurveyedOf s tree layers
  surveyed_of solids layers found rows =
      let part = parts_are_there Outlines s tree solids in
      surveyed_by part.0 part.1 layers (found part.0 part.1) rows

  -- the least layer that passes a budget
  least_over : (part : Part) (budget : Budget) → IsPart Outlines s tree part → IsLeastOver part count budget
      → outlines_budget s.layer_height tree ≡ Some budget
  least_over part budget of_part least =
      first_some (layer_budget s.layer_height tree) 0 count least.layer budget least.within
      (λ j less.
      let here = least.below j less in
      ap (layer_budget s.layer_height tree) (omega arith) ∙ passes_none part j here.layout of_part here.laid)
      (ap (layer_budget s.layer_height tree) (omega arith) ∙ passes_some part least.layer budget of_part least.over)

  pub over_of : AreSolids tree → (budget : Budget) → 0 < s.support_spacing
      → ((part : Part) → IsPart Outlines s tree part → IsLeastOver part count budget)
      → IsPassedByAll Plan s tree budget
  over_of solids budget spaced found =
      let part = parts_are_there Outlines s tree solids in
      let least = found part.0 part.1 in
      let inside = least.within in
      record {
        some = omega (arith, inside);
        each = λ i. inr (record {
          spacing = spaced;
          is =
              subst (λ (o : Option Budget). IsBudgetUnless o s tree i (Some budget))
              (sym (least_over part.0 budget part.1 least)) refl;
        });
      }

  -- ---- what stands below higher layers

  pub covers_are : (layers covers : List (List Row)) → 0 < s.support_spacing → AreSurveyedOf s tree layers
      → AreCovers layers covers → All AreRows covers → run_count covers ≤ stretch_limit → AreCoversOf s tree covers
  covers_are layers covers spaced surveyed are rows few = record {
    spacing = spaced;
    none_passed = surveyed.none_passed;
    all = surveyed.all;
    are_all = surveyed.are_all;
    overhung = covers_are_overhung surveyed.all s.support_spacing layers covers spaced surveyed.spans are;
    rows = rows;
    few = few;
  }

  some_layers : (covers : List (List Row)) → 0 < run_count covers → 0 < length covers
  some_layers [] some = absurd (omega (arith, some))
  some_layers (rows ∷ covers) some = omega arith

  pub too_many : (layers : List (List Row)) (counted : ℕ) → 0 < s.support_spacing → AreSurveyedOf s tree layers
      → AreTooMany layers counted → IsPassedByAll Plan s tree (stretches_passed counted)
  too_many layers counted spaced surveyed many =
      let over = many.over in
      let more : 0 < run_count many.covers = omega (arith, over) in
      let some = some_layers many.covers more in
      let same = many.are_covers.as_many in
      let number = surveyed.spans.as_many in
      let layers_are = surveyed.are_all.number in
      record {
        some = omega (arith, some, same, number, layers_are);
        each = λ i. inr (record {
          spacing = spaced;
          is =
              subst (λ (o : Option Budget). IsBudgetUnless o s tree i (Some (stretches_passed counted)))
              (sym surveyed.none_passed)
              (record {
                all = surveyed.all;
                are_all = surveyed.are_all;
                covers = many.covers;
                overhung =
                    covers_are_overhung surveyed.all s.support_spacing layers many.covers spaced surveyed.spans
                    many.are_covers;
                is =
                    ap (λ n. Some (stretches_passed n)) many.counts
                    ∙ sym (ap (λ (o : Option Budget). first_of (o ∷ layer_budget s.layer_height tree i ∷ []))
                    (many_stretches (run_count many.covers) over));
              });
        });
      }

-- ---- what the survey answers

-- a drawing of a tree's layers, by what it is given
pub record Drawing : Type 0 where
  pub want : Want
  pub s : Settings
  pub tree : Solid
  pub covers : Option (List (List Row))

abbrev pub Draws : Part → Drawing → Type 0
Draws part d = CoversFit d.want d.s d.tree d.covers × IsPart d.want d.s d.tree part

abbrev pub drawing : Want → Settings → Solid → Option (List (List Row)) → Drawing
drawing want s tree covers = record { want = want; s = s; tree = tree; covers = covers }

pub drawing_same : (a b : Drawing) → a.want ≡ b.want → a.s ≡ b.s → a.tree ≡ b.tree → a.covers ≡ b.covers → a ≡ b
drawing_same a b want s tree covers k =
    record { want = want k; s = s k; tree = tree k; covers = covers k }

abbrev pub outlines_drawn : Settings → Solid → Drawing
outlines_drawn s tree = drawing Outlines s tree None

module _ (s : Settings) (tree : Solid) (n : ℕ)
    (counted : n ≡ layer_count s.layer_height tree) (d : Drawing) (same : d ≡ outlines_drawn s tree) where
  drawn : (part : Part) → IsPart Outlines s tree part → Draws part d
  drawn part of_part = subst (Draws part) (sym same) (refl, of_part)

  pub surveyed_if : {V E : Type 0} (items : V → List (List Row)) (result : Result V E) → AreSolids tree
      → IfOk result (λ all. (part : Part) → Draws part d → AreSurveyed part s.support_spacing n (items all))
      → IfOk result (λ all. All AreRows (items all)) → IfOk result (λ all. AreSurveyedOf s tree (items all))
  surveyed_if items (Ok all) solids found rows =
      surveyed_of s tree solids (items all)
      (λ part of_part.
      subst (λ (m : ℕ). AreSurveyed part s.support_spacing m (items all)) counted (found part (drawn part of_part)))
      rows
  surveyed_if items (Err e) solids found rows = tt

  pub over_if : AreSolids tree → (budget : Budget) → 0 < s.support_spacing
      → ((part : Part) → Draws part d → IsLeastOver part n budget) → IsPassedByAll Plan s tree budget
  over_if solids budget spaced found =
      over_of s tree solids budget spaced
      (λ part of_part.
      subst (λ (m : ℕ). IsLeastOver part m budget) counted (found part (drawn part of_part)))

-- the budget that an answer tells, or another
abbrev told_or : {T : Type 0} → Budget → Result T SurveyFault → Budget
told_or other (Ok t) = other
told_or other (Err Memory) = other
told_or other (Err (Over budget)) = budget

pub one_over : {T : Type 0} (a b : Budget) (x y : Result T SurveyFault) → x ≡ Err (Over a) → y ≡ Err (Over b) → x ≡ y
    → a ≡ b
one_over a b x y is_x is_y same = ap (told_or a) (sym is_x ∙ same ∙ is_y)
