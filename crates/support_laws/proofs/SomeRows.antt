-- What holds on support lines alone, is decided there, and doesn't hold far out, has its rows: from far below on, line by
-- line.
use Rattle.std.proofs.Common.{◌≡◌, ◌≢◌, ℕ, zero, suc, ◌+◌, ◌*◌, ◌<◌, ◌≤◌, List, [], ◌∷◌, ◌++◌, sym, subst, ◌∙◌, arith, ℤ, pos, ◌+ℤ◌, ◌-ℤ◌, ◌<ℤ◌}
use lib.Signed.{◌≤ℤ◌}
use Rattle.std.specs.Prelude.{All, unsigned_abs}
use Rattle.std.proofs.lemmas.Int.{ints}
use Rattle.std.proofs.lemmas.List.{append-nil}
use Rattle.std.proofs.lemmas.List.Elements.{All-nil, All-cons, All-append, All-weaker}
use Rattle.scad_geom.proofs.Rising.{by_order, order}
use Rattle.scad_geom.proofs.Signs.{minus_times}
use Rattle.plan_infill.specs.declared.run.Run.{Run}
use Rattle.plan_infill.specs.Multiple.{IsMultiple}
use Rattle.plan_support.specs.Rows.{Row, runs_at, GoUpwards, AreRowsOf}
use Rattle.plan_support.specs.Spans.{row_of}
use Rattle.plan_support.specs.Stretches.{AreStretches}
use Rattle.plan_support.proofs.HeightRows.{none_above, others_stay, last_row, upwards_push}
use Rattle.plan_infill.proofs.Multiples.{next_multiple, multiples_apart, times_more, one_more_time, twice_and_more}
use Rattle.plan_support.proofs.Stretches.{no_stretches}
use Rattle.support_laws.proofs.Complete.{HasStretches, some_stretches}
use Rattle.support_laws.proofs.OnLines.{IsOnLines}

pub record HasRows (Holds : ℤ → ℤ → Type 0) (least : ℕ) : Type 0 where
  pub rows : List Row
  pub are_rows : AreRowsOf Holds least rows

module _ (Holds : ℤ → ℤ → Type 0) (spacing n least : ℕ) (on : IsOnLines Holds spacing n) (spaced : 0 < spacing) where
  abbrev AreHere : ℤ → List Run → Type 0
  AreHere y rs = AreStretches (λ x. Holds x y) least rs

  -- the rows below a line
  record AreFound (place : ℤ) : Type 0 where
    rows : List Row
    multiple : IsMultiple spacing place
    upwards : GoUpwards rows
    some : All (λ (r : Row). r.runs ≢ []) rows
    below : All (λ (r : Row). r.y <ℤ place) rows
    each : (y : ℤ) → y <ℤ place → AreHere y (runs_at y rows)

  -- far out nothing holds
  none_far : (y : ℤ) → n < unsigned_abs y → AreHere y []
  none_far y o = no_stretches (λ x. Holds x y) least (λ x h. let w = (on.within x y h).y in omega (arith, o, w))

  no_row_at : (place : ℤ) (f : AreFound place) (y : ℤ) → place ≤ℤ y → runs_at y f.rows ≡ []
  no_row_at place f y o =
      subst (λ (rs : List Row). runs_at y rs ≡ []) (append-nil f.rows)
      (none_above y f.rows [] (All-weaker (λ (r : Row). r.y <ℤ place) (λ (r : Row). r.y <ℤ y)
      (λ r l. omega (arith, ints, l, o)) f.rows f.below))

  -- ---- one more line
  module _ (place : ℤ) (f : AreFound place) where
    there : (rs : List Run) → runs_at place (f.rows ++ row_of place rs) ≡ rs
    there [] = subst (λ (rows : List Row). runs_at place rows ≡ []) (sym (append-nil f.rows))
        (no_row_at place f place (omega (arith, ints)))
    there (r ∷ rs) = last_row place f.rows (r ∷ rs) f.below

    elsewhere : (rs : List Run) (y : ℤ) → (place ≡ y → ⊥) → runs_at y (f.rows ++ row_of place rs) ≡ runs_at y f.rows
    elsewhere [] y other =
        subst (λ (rows : List Row). runs_at y rows ≡ runs_at y f.rows) (sym (append-nil f.rows)) (λ i. runs_at y f.rows)
    elsewhere (r ∷ rs) y other = others_stay y f.rows (record { y = place; runs = r ∷ rs }) other

    still_upwards : (rs : List Run) → GoUpwards (f.rows ++ row_of place rs)
    still_upwards [] = subst GoUpwards (sym (append-nil f.rows)) f.upwards
    still_upwards (r ∷ rs) = upwards_push f.rows (record { y = place; runs = r ∷ rs }) f.upwards f.below

    some_row : (rs : List Run) → All (λ (r : Row). r.runs ≢ []) (row_of place rs)
    some_row [] = All-nil (λ (r : Row). r.runs ≢ [])
    some_row (r ∷ rs) =
        All-cons (λ (q : Row). q.runs ≢ []) (record { y = place; runs = r ∷ rs }) [] (λ e. cc)
        (All-nil (λ (q : Row). q.runs ≢ []))

    row_below : (rs : List Run) → All (λ (r : Row). r.y <ℤ (place +ℤ pos spacing)) (row_of place rs)
    row_below [] = All-nil (λ (r : Row). r.y <ℤ (place +ℤ pos spacing))
    row_below (r ∷ rs) =
        All-cons (λ (q : Row). q.y <ℤ (place +ℤ pos spacing)) (record { y = place; runs = r ∷ rs }) []
        (omega (arith, ints, spaced)) (All-nil (λ (q : Row). q.y <ℤ (place +ℤ pos spacing)))

    -- between this line and the next nothing holds
    none_between : (y : ℤ) → place <ℤ y → y <ℤ (place +ℤ pos spacing) → AreHere y []
    none_between y a b = no_stretches (λ x. Holds x y) least (λ x h.
        let g = multiples_apart spacing place y f.multiple (on.line x y h) a in omega (arith, ints, g, b))

    each_more : (rs : List Run) → AreHere place rs → (y : ℤ) → y <ℤ (place +ℤ pos spacing)
        → AreHere y (runs_at y (f.rows ++ row_of place rs))
    each_more rs are y l = by_order (order place y)
        (λ a. by_order (order y place)
        (λ b. let e : place ≡ y = omega (arith, ints, a, b) in
        subst (λ (z : ℤ). AreHere z (runs_at z (f.rows ++ row_of place rs))) e
        (subst (AreHere place) (sym (there rs)) are))
        (λ b. subst (AreHere y) (sym (elsewhere rs y (λ e. omega (arith, ints, e, b)) ∙ no_row_at place f y a))
        (none_between y b l)))
        (λ a. subst (AreHere y) (sym (elsewhere rs y (λ e. omega (arith, ints, e, a)))) (f.each y a))

    one_more : AreFound (place +ℤ pos spacing)
    one_more =
        let s : HasStretches (λ x. Holds x place) least =
        some_stretches (λ x. Holds x place) (on.decided place f.multiple) n (λ x h. (on.within x place h).x) least in
        record {
          rows = f.rows ++ row_of place s.runs;
          multiple = next_multiple spacing place f.multiple;
          upwards = still_upwards s.runs;
          some = All-append (λ (r : Row). r.runs ≢ []) f.rows (row_of place s.runs) f.some (some_row s.runs);
          below = All-append (λ (r : Row). r.y <ℤ (place +ℤ pos spacing)) f.rows (row_of place s.runs)
              (All-weaker (λ (r : Row). r.y <ℤ place) (λ (r : Row). r.y <ℤ (place +ℤ pos spacing))
              (λ r l. omega (arith, ints, l)) f.rows f.below)
              (row_below s.runs);
          each = each_more s.runs s.are_stretches;
        }

  -- ---- from far below to far above
  abbrev limit : ℕ
  limit = n * spacing

  abbrev low : ℤ
  low = pos 0 -ℤ pos limit

  none_found : AreFound (low +ℤ pos 0)
  none_found =
      let t = minus_times (pos n) (pos spacing) in
      let m = times_more n spacing spaced in
      record {
        rows = [];
        multiple = record { spaced = spaced; times = pos 0 -ℤ pos n; is = omega (arith, ints, t) };
        upwards = tt;
        some = All-nil (λ (r : Row). r.runs ≢ []);
        below = All-nil (λ (r : Row). r.y <ℤ (low +ℤ pos 0));
        each = λ y o. none_far y (omega (arith, ints, o, m));
      }

  found : (k : ℕ) → AreFound (low +ℤ pos (k * spacing))
  found zero = let e : 0 ≡ 0 * spacing = omega arith in subst (λ (m : ℕ). AreFound (low +ℤ pos m)) e none_found
  found (suc k) =
      let t = one_more_time k spacing in
      let e : (low +ℤ pos (k * spacing)) +ℤ pos spacing ≡ low +ℤ pos (suc k * spacing) = omega (arith, ints, t) in
      subst AreFound e (one_more (low +ℤ pos (k * spacing)) (found k))

  pub some_rows : HasRows Holds least
  some_rows =
      let f : AreFound (low +ℤ pos ((n + n + 1) * spacing)) = found (n + n + 1) in
      let t = twice_and_more n spacing spaced in
      let m = times_more n spacing spaced in
      record {
        rows = f.rows;
        are_rows = record {
          upwards = f.upwards;
          some = f.some;
          each = λ y. by_order (order (low +ℤ pos ((n + n + 1) * spacing)) y)
              (λ o. subst (AreHere y) (sym (no_row_at (low +ℤ pos ((n + n + 1) * spacing)) f y o))
              (none_far y (omega (arith, ints, o, t, m))))
              (λ o. f.each y o);
        };
      }
