-- A layer has the lines of infill that have runs: from far before all outlines on, line by line.
use Rattle.std.proofs.Common.{◌≡◌, ◌⊎◌, inl, inr, ℕ, zero, suc, ◌+◌, ◌*◌, ◌<◌, ◌≤◌, List, [], ◌++◌, subst, flat_map}
use Rattle.std.proofs.Common.{arith, ℤ, pos, ◌+ℤ◌, ◌-ℤ◌}
use Rattle.std.specs.Prelude.{All}
use Rattle.std.proofs.lemmas.Int.{ints}
use Rattle.std.proofs.lemmas.Bool.{cases_lt}
use Rattle.std.proofs.lemmas.List.Elements.{All-nil}
use Rattle.scad_geom.specs.declared.point.Pt.{Pt}
use Rattle.scad_geom.specs.Loop.{sides}
use Rattle.scad_geom.proofs.Signs.{minus_times}
use Rattle.plan_infill.specs.Extent.{IsEdgeAmong}
use Rattle.plan_infill.specs.Multiple.{IsMultiple}
use Rattle.plan_infill.specs.There.{HasRuns}
use Rattle.plan_infill.proofs.Beyond.{extent, extent_within}
use Rattle.plan_infill.proofs.Extents.{edges_among, edges_wider}
use Rattle.plan_infill.proofs.Multiples.{next_multiple, times_more, one_more_time, twice_and_more}
use Rattle.plan_infill.proofs.SomeRuns.{runs_are_there}
use Rattle.scad_words.specs.declared.settings.Settings.{Settings}
use Rattle.plan_layer.specs.Infill.{has_rows, line_at, depth, LineRuns, IsFilled, AreFilled, line_of}
use Rattle.plan_layer.proofs.LineRuns.{FilledBefore, before_none, before_more, before_all}

pub record HasLines (outlines : List (List Pt)) (layer : ℕ) (s : Settings) : Type 0 where
  pub lines : List LineRuns
  pub are_filled : AreFilled outlines layer s lines

module _ (outlines : List (List Pt)) (layer : ℕ) (s : Settings) where
  module _ (spaced : 0 < s.infill_spacing) where
    -- all outlines lie within this
    abbrev n : ℕ
    n = extent (flat_map sides outlines)

    abbrev limit : ℕ
    limit = n * s.infill_spacing

    abbrev low : ℤ
    low = pos 0 -ℤ pos limit

    among : All (IsEdgeAmong (has_rows layer) low (pos limit)) (flat_map sides outlines)
    among = edges_among (has_rows layer) limit (flat_map sides outlines)
        (edges_wider n limit (times_more n s.infill_spacing spaced) (flat_map sides outlines)
        (extent_within (flat_map sides outlines)))

    -- the lines before a place
    record AreFound (place : ℤ) : Type 0 where
      lines : List LineRuns
      multiple : IsMultiple s.infill_spacing place
      filled : FilledBefore outlines layer s place lines

    none_found : AreFound (low +ℤ pos 0)
    none_found =
        let t = minus_times (pos n) (pos s.infill_spacing) in
        let m : IsMultiple s.infill_spacing (low +ℤ pos 0) =
        record { spaced = spaced; times = pos 0 -ℤ pos n; is = omega (arith, ints, t) } in
        record {
          lines = [];
          multiple = m;
          filled = before_none outlines layer s low (pos limit) among (low +ℤ pos 0) m (omega (arith, ints, spaced));
        }

    one_more : (place : ℤ) → AreFound place → AreFound (place +ℤ pos s.infill_spacing)
    one_more place f =
        let r : HasRuns outlines (depth s) (line_at layer place) s.line_width =
        runs_are_there outlines (depth s) (line_at layer place) s.line_width in
        record {
          lines = f.lines ++ line_of place r.runs;
          multiple = next_multiple s.infill_spacing place f.multiple;
          filled = before_more outlines layer s place f.lines f.multiple f.filled r.runs r.are_runs;
        }

    found : (k : ℕ) → AreFound (low +ℤ pos (k * s.infill_spacing))
    found zero =
        let e : 0 ≡ 0 * s.infill_spacing = omega arith in
        subst (λ (m : ℕ). AreFound (low +ℤ pos m)) e none_found
    found (suc k) =
        let t = one_more_time k s.infill_spacing in
        let e : (low +ℤ pos (k * s.infill_spacing)) +ℤ pos s.infill_spacing ≡ low +ℤ pos (suc k * s.infill_spacing) =
        omega (arith, ints, t) in
        subst AreFound e (one_more (low +ℤ pos (k * s.infill_spacing)) (found k))

    all_found : HasLines outlines layer s
    all_found =
        let f : AreFound (low +ℤ pos ((n + n + 1) * s.infill_spacing)) = found (n + n + 1) in
        let t = twice_and_more n s.infill_spacing spaced in
        record {
          lines = f.lines;
          are_filled = before_all outlines layer s low (pos limit) among
              (low +ℤ pos ((n + n + 1) * s.infill_spacing)) f.lines (omega (arith, ints, t)) f.filled;
        }

  -- with the spacing 0 there is none
  without_lines : s.infill_spacing ≤ 0 → HasLines outlines layer s
  without_lines none = record {
    lines = [];
    are_filled = record {
      upwards = tt;
      each = All-nil (IsFilled outlines layer s);
      all = λ z r m is. absurd (let h = m.spaced in omega (arith, none, h));
    };
  }

  pub some_lines : HasLines outlines layer s
  some_lines = by_spacing (cases_lt 0 s.infill_spacing)
    where
      by_spacing : (0 < s.infill_spacing) ⊎ (s.infill_spacing ≤ 0) → HasLines outlines layer s
      by_spacing (inl spaced) = all_found spaced
      by_spacing (inr none) = without_lines none
