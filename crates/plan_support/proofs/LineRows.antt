-- The rows of support lines, found one line after another.
use Rattle.std.proofs.Common.{◌≡◌, ◌≢◌, inl, inr, ℕ, true, List, [], ◌∷◌, ◌++◌, get_or, sym, subst, ◌∙◌, flat_map, arith, ℤ, pos, ◌+ℤ◌, ◌<ℤ◌}
use lib.Signed.{◌≤ℤ◌}
use Rattle.std.specs.Prelude.{All, unsigned_abs, ◌≤◌}
use Rattle.std.proofs.lemmas.Int.{ints}
use Rattle.std.proofs.lemmas.List.{append-nil}
use Rattle.std.proofs.lemmas.List.Elements.{All-nil, All-push, All-weaker}
use Rattle.scad_geom.specs.declared.point.Pt.{Pt}
use Rattle.scad_geom.specs.Limits.{coordinate_limit}
use Rattle.scad_geom.specs.Loop.{sides}
use Rattle.scad_geom.proofs.Rising.{by_order, order}
use Rattle.plan_infill.specs.declared.line.Line.TheVariants.{Row as AtHeight}
use Rattle.plan_infill.specs.declared.run.Run.{Run}
use Rattle.plan_infill.specs.Extent.{IsEdgeAmong}
use Rattle.plan_infill.specs.Multiple.{IsMultiple}
use Rattle.plan_infill.specs.Runs.{AreRuns}
use Rattle.plan_infill.proofs.Extents.{none_beyond}
use Rattle.plan_infill.proofs.Multiples.{multiples_apart}
use Rattle.plan_support.specs.Stretches.{AreStretches}
use Rattle.plan_support.specs.Rows.{Row, runs_at, GoUpwards, AreApart, AreRows, AreRowsOf}
use Rattle.plan_support.specs.Spans.{IsSpanned, AreSpans, row_of}
use Rattle.plan_support.proofs.Stretches.{no_stretches, stand_apart}
use Rattle.plan_support.proofs.HeightRows.{none_above, others_stay, last_row, own_row, upwards_push}
use Rattle.plan_support.proofs.WoundStretches.{spanned_runs}

-- the rows that have stretches are rows whose runs stand apart
pub rows_apart : (Holds : ℤ → ℤ → Type 0) (rows : List Row) → AreRowsOf Holds 0 rows
    → All (λ (r : Row). unsigned_abs r.y ≤ coordinate_limit) rows → AreRows rows
rows_apart Holds rows h w = record {
  upwards = h.upwards;
  within = w;
  each = λ k d l.
      let r = get_or rows k d in
      let own : AreStretches (λ x. Holds x r.y) 0 (runs_at r.y rows) = h.each r.y in
      subst AreApart (own_row rows k d h.upwards l)
      (stand_apart (λ x. Holds x r.y) (runs_at r.y rows) own.upwards own.each);
}

-- those that lie below a height
pub record SpannedBelow (outlines : List (List Pt)) (spacing : ℕ) (place : ℤ) (rows : List Row) : Type 0 where
  pub upwards : GoUpwards rows
  pub some : All (λ (r : Row). r.runs ≢ []) rows
  pub below : All (λ (r : Row). r.y <ℤ place) rows
  pub within : All (λ (r : Row). unsigned_abs r.y ≤ coordinate_limit) rows
  pub each : (y : ℤ) → y <ℤ place → AreStretches (λ x. IsSpanned outlines spacing x y) 0 (runs_at y rows)

module _ (outlines : List (List Pt)) (spacing : ℕ) where
  abbrev Here : ℤ → ℤ → Type 0
  Here y x = IsSpanned outlines spacing x y

  module _ (low high : ℤ) (among : All (IsEdgeAmong true low high) (flat_map sides outlines)) where
    none_under : (x y : ℤ) → y <ℤ low → IsSpanned outlines spacing x y → ⊥
    none_under x y o h = h.wound (none_beyond outlines true low high y x (inl o) among)

    none_over : (x y : ℤ) → high <ℤ y → IsSpanned outlines spacing x y → ⊥
    none_over x y o h = h.wound (none_beyond outlines true low high y x (inr o) among)

    -- below the first multiple from the least height on there is none
    pub below_none : (place : ℤ) → IsMultiple spacing place → place <ℤ (low +ℤ pos spacing)
        → SpannedBelow outlines spacing place []
    below_none place m first = record {
      upwards = tt;
      some = All-nil (λ (r : Row). r.runs ≢ []);
      below = All-nil (λ (r : Row). r.y <ℤ place);
      within = All-nil (λ (r : Row). unsigned_abs r.y ≤ coordinate_limit);
      each = λ y o. no_stretches (Here y) 0 (λ x h. let a = multiples_apart spacing y place h.line m o in
          none_under x y (omega (arith, ints, a)) h);
    }

    -- above the greatest height neither
    pub below_all_of : (place : ℤ) (rows : List Row) → high <ℤ place → SpannedBelow outlines spacing place rows
        → AreSpans outlines spacing rows
    below_all_of place rows o s = record {
      upwards = s.upwards;
      some = s.some;
      each = λ y. by_order (order place y)
          (λ k. subst (AreStretches (Here y) 0) (sym (above_them y k))
          (no_stretches (Here y) 0 (λ x h. none_over x y (omega (arith, ints, o, k)) h)))
          (λ k. s.each y k);
    }
      where
        above_them : (y : ℤ) → place ≤ℤ y → runs_at y rows ≡ []
        above_them y k =
            subst (λ (rs : List Row). runs_at y rs ≡ []) (append-nil rows)
            (none_above y rows [] (All-weaker (λ (r : Row). r.y <ℤ place) (λ (r : Row). r.y <ℤ y)
            (λ r l. omega (arith, ints, l, k)) rows s.below))

  -- one more line
  module _ (place : ℤ) (rows : List Row) (m : IsMultiple spacing place) (w : unsigned_abs place ≤ coordinate_limit)
      (s : SpannedBelow outlines spacing place rows) where
    still_below : All (λ (r : Row). r.y <ℤ (place +ℤ pos spacing)) rows
    still_below = All-weaker (λ (r : Row). r.y <ℤ place) (λ (r : Row). r.y <ℤ (place +ℤ pos spacing))
        (λ r l. omega (arith, ints, l)) rows s.below

    -- between this line and the next there is none
    none_between : (x y : ℤ) → place <ℤ y → y <ℤ (place +ℤ pos spacing) → IsSpanned outlines spacing x y → ⊥
    none_between x y a b h = let g = multiples_apart spacing place y m h.line a in omega (arith, ints, g, b)

    above_rows : (y : ℤ) → place ≤ℤ y → All (λ (r : Row). r.y <ℤ y) rows
    above_rows y k = All-weaker (λ (r : Row). r.y <ℤ place) (λ (r : Row). r.y <ℤ y)
        (λ r l. omega (arith, ints, l, k)) rows s.below

    no_row_at : (y : ℤ) → place ≤ℤ y → runs_at y rows ≡ []
    no_row_at y k = subst (λ (rs : List Row). runs_at y rs ≡ []) (append-nil rows)
        (none_above y rows [] (above_rows y k))

    one_more : (r : Run) (rs : List Run) → AreStretches (Here place) 0 (r ∷ rs)
        → SpannedBelow outlines spacing (place +ℤ pos spacing) (rows ++ record { y = place; runs = r ∷ rs } ∷ [])
    one_more r rs are =
        let row : Row = record { y = place; runs = r ∷ rs } in
        let spaced = m.spaced in
        record {
          upwards = upwards_push rows row s.upwards s.below;
          some = All-push (λ (q : Row). q.runs ≢ []) rows row s.some (λ e. not_none e);
          below = All-push (λ (q : Row). q.y <ℤ (place +ℤ pos spacing)) rows row still_below
              (omega (arith, ints, spaced));
          within = All-push (λ (q : Row). unsigned_abs q.y ≤ coordinate_limit) rows row s.within w;
          each = λ y l. by_order (order place y)
              (λ k. by_order (order y place)
              (λ j. let e : place ≡ y = omega (arith, ints, k, j) in
              subst (λ (z : ℤ). AreStretches (Here z) 0 (runs_at z (rows ++ row ∷ []))) e
              (subst (AreStretches (Here place) 0) (sym (last_row place rows (r ∷ rs) s.below)) are))
              (λ j. subst (AreStretches (Here y) 0)
              (sym (others_stay y rows row (λ e. omega (arith, ints, e, j)) ∙ no_row_at y k))
              (no_stretches (Here y) 0 (λ x h. none_between x y j l h))))
              (λ k. subst (AreStretches (Here y) 0) (sym (others_stay y rows row (λ e. omega (arith, ints, e, k))))
              (s.each y k));
        }
      where
        not_none : r ∷ rs ≡ [] → ⊥
        not_none e = cc

    no_more : AreStretches (Here place) 0 [] → SpannedBelow outlines spacing (place +ℤ pos spacing) rows
    no_more none = record {
      upwards = s.upwards;
      some = s.some;
      below = still_below;
      within = s.within;
      each = λ y l. by_order (order place y)
          (λ k. subst (AreStretches (Here y) 0) (sym (no_row_at y k)) (by_order (order y place)
          (λ j. let e : place ≡ y = omega (arith, ints, k, j) in
          subst (λ (z : ℤ). AreStretches (Here z) 0 []) e none)
          (λ j. no_stretches (Here y) 0 (λ x h. none_between x y j l h))))
          (λ k. s.each y k);
    }

    pub below_more : (rs : List Run) → AreRuns outlines 0 (AtHeight place) 0 rs
        → SpannedBelow outlines spacing (place +ℤ pos spacing) (rows ++ row_of place rs)
    below_more [] h =
        subst (SpannedBelow outlines spacing (place +ℤ pos spacing)) (sym (append-nil rows))
        (no_more (spanned_runs outlines spacing place m [] h))
    below_more (r ∷ rs) h = one_more r rs (spanned_runs outlines spacing place m (r ∷ rs) h)
