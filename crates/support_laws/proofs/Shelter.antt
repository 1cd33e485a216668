-- What lies below the runs of higher layers stands below their outlines.
use Rattle.std.proofs.Common.{◌≡◌, inl, inr, ℕ, zero, suc, ◌+◌, ◌<◌, Bool, true, false, List, [], ◌∷◌, length, refl, sym, ap, subst, ◌∙◌, arith, ℤ}
use Rattle.std.specs.Prelude.{drop, slice_index_or, flat_map, ◌||◌}
use Rattle.std.proofs.lemmas.Bool.{both_ways}
use Rattle.scad_geom.specs.declared.point.Pt.{Pt}
use Rattle.scad_geom.specs.Loop.{sides}
use Rattle.plan_infill.proofs.Beyond.{extent}
use Rattle.plan_support.specs.Covers.{IsCovered}
use Rattle.plan_support.specs.On.{is_on, is_on_some}
use Rattle.plan_support.specs.Rows.{Row, runs_at}
use Rattle.plan_support.specs.Spans.{point_at, IsWound, IsSpanned, AreSpans}
use Rattle.plan_support.specs.Supports.{IsSupported}
use Rattle.plan_infill.proofs.Elements.{first_in, other_in, first_or_other}
use Rattle.support_laws.specs.Supports.{IsOverhung, NeedsSupport}
use Rattle.support_laws.specs.Laws.{CoversAreOverhung, RunsAreSupports}
use Rattle.support_laws.proofs.Extents.{extents}
use Rattle.support_laws.proofs.OnLines.{rows_hold, held_on, spanned_lines, overhung_lines}
use Rattle.support_laws.proofs.Rows.{rows_alike}

module _ (spacing : ℕ) where
  -- one list of rows for each layer
  abbrev AreAllSpans : List (List (List Pt)) → List (List Row) → Type 0
  AreAllSpans [] [] = Unit {0}
  AreAllSpans [] (rows ∷ layers) = ⊥
  AreAllSpans (o ∷ os) [] = ⊥
  AreAllSpans (o ∷ os) (rows ∷ layers) = AreSpans o spacing rows × AreAllSpans os layers

  all_spans : (all : List (List (List Pt))) (layers : List (List Row)) → length layers ≡ length all
      → ((n : ℕ) → n < length all → AreSpans (slice_index_or all n []) spacing (slice_index_or layers n []))
      → AreAllSpans all layers
  all_spans [] [] e f = tt
  all_spans [] (rows ∷ layers) e f = omega (arith, e)
  all_spans (o ∷ os) [] e f = omega (arith, e)
  all_spans (o ∷ os) (rows ∷ layers) e f =
      (f 0 (omega arith), all_spans os layers (omega (arith, e)) (λ n l. f (suc n) (omega (arith, l))))

  dropped_spans : (n : ℕ) (all : List (List (List Pt))) (layers : List (List Row)) → AreAllSpans all layers
      → AreAllSpans (drop n all) (drop n layers)
  dropped_spans zero all layers a = a
  dropped_spans (suc n) [] [] a = a
  dropped_spans (suc n) [] (rows ∷ layers) a = absurd a
  dropped_spans (suc n) (o ∷ os) [] a = absurd a
  dropped_spans (suc n) (o ∷ os) (rows ∷ layers) a = dropped_spans n os layers a.1

  -- what some runs cover stands below their layer
  overhung_first : (o : List (List Pt)) (os : List (List (List Pt))) (x y : ℤ) → IsSpanned o spacing x y
      → IsOverhung (o ∷ os) spacing x y
  overhung_first o os x y s = record {
    line = s.line;
    below = record { outlines = o; there = first_in o os; wound = s.wound };
  }

  overhung_other : (o : List (List Pt)) (os : List (List (List Pt))) (x y : ℤ) → IsOverhung os spacing x y
      → IsOverhung (o ∷ os) spacing x y
  overhung_other o os x y h =
      let b = h.below in
      record {
        line = h.line;
        below = record { outlines = b.outlines; there = other_in o os b.outlines b.there; wound = b.wound };
      }

  covered_below : (above : List (List (List Pt))) (layers : List (List Row)) → AreAllSpans above layers → (x y : ℤ)
      → is_on_some layers x y ≡ true → IsOverhung above spacing x y
  covered_below [] [] a x y c = absurd (both_ways _ refl c)
  covered_below [] (rows ∷ layers) a x y c = absurd a
  covered_below (o ∷ os) [] a x y c = absurd a
  covered_below (o ∷ os) (rows ∷ layers) a x y c =
      by_test (is_on (runs_at y rows) x) refl c (λ k. covered_below os layers a.1 x y k)
    where
      by_test : (t : Bool) → is_on (runs_at y rows) x ≡ t → (t || is_on_some layers x y) ≡ true
          → (is_on_some layers x y ≡ true → IsOverhung os spacing x y) → IsOverhung (o ∷ os) spacing x y
      by_test true e k others =
          overhung_first o os x y (rows_hold (IsSpanned o spacing) 0 rows a.0 x y e)
      by_test false e k others = overhung_other o os x y (others k)

  -- and the other way
  or_second : (p q : Bool) → q ≡ true → (p || q) ≡ true
  or_second true q e = refl
  or_second false q e = e

  below_covered : (above : List (List (List Pt))) (layers : List (List Row)) → AreAllSpans above layers → (x y : ℤ)
      → IsOverhung above spacing x y → is_on_some layers x y ≡ true
  below_covered [] layers a x y h = let lt = h.below.there.1 in absurd (omega (arith, lt))
  below_covered (o ∷ os) [] a x y h = absurd a
  below_covered (o ∷ os) (rows ∷ layers) a x y h =
      let b = h.below in
      elim (first_or_other o os b.outlines b.there) [
        | inl e ↦
            let s : IsSpanned o spacing x y =
            record {
              line = h.line;
              wound = subst (λ (z : List (List Pt)). IsWound z (point_at x y)) (sym e) b.wound;
            } in
            ap (λ (t : Bool). t || is_on_some layers x y)
            (held_on (IsSpanned o spacing) spacing (extent (flat_map sides o)) (spanned_lines o spacing) rows a.0 x y s)
        | inr c ↦ or_second (is_on (runs_at y rows) x) (is_on_some layers x y) (below_covered os layers a.1 x y
            (record { line = h.line; below = record { outlines = b.outlines; there = c; wound = b.wound } }))
      ]

pub covers_are_overhung : CoversAreOverhung
covers_are_overhung all spacing layers covers spaced spans are =
    let m = are.as_many in
    let k = spans.as_many in
    let each = all_spans spacing all layers spans.as_many spans.each in
    record {
      as_many = m ∙ k;
      each = λ n l. rows_alike (IsCovered layers n) (IsOverhung (drop (n + 1) all) spacing) 0
          (slice_index_or covers n [])
          (λ x y c. covered_below spacing (drop (n + 1) all) (drop (n + 1) layers)
          (dropped_spans spacing (n + 1) all layers each) x y c)
          (λ x y h. below_covered spacing (drop (n + 1) all) (drop (n + 1) layers)
          (dropped_spans spacing (n + 1) all layers each) x y h)
          (are.each n (omega (arith, l, k)));
    }

-- ---- support runs
pub runs_are_supports : RunsAreSupports
runs_are_supports all spacing gap least n covers paths spaced over l are =
    let above = drop (n + 1) all in
    let outlines = slice_index_or all n [] in
    let cover = slice_index_or covers n [] in
    record {
      rows = are.rows;
      are_rows = rows_alike (IsSupported outlines cover gap) (NeedsSupport above outlines spacing gap) least are.rows
          (λ x y s. record {
            overhung = rows_hold (IsOverhung above spacing) 0 cover (over.each n l) x y s.covered;
            free = s.free;
          })
          (λ x y h. record {
            covered = held_on (IsOverhung above spacing) spacing (extents above) (overhung_lines above spacing) cover
                (over.each n l) x y h.overhung;
            free = h.free;
          }) are.are_rows;
      paths_are = are.paths_are;
    }
