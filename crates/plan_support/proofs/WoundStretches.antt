-- Runs that are deep by nothing are the stretches that outlines wind round.
use Rattle.std.proofs.Common.{ℕ, List, ℤ, pos, ◌+ℤ◌, ◌-ℤ◌}
use Rattle.std.proofs.lemmas.List.Elements.{All-weaker}
use Rattle.scad_geom.specs.declared.point.Pt.{Pt}
use Rattle.plan_infill.specs.declared.line.Line.TheVariants.{Row as AtHeight}
use Rattle.plan_infill.specs.declared.run.Run.{Run}
use Rattle.plan_infill.specs.Runs.{IsDeep, IsRun, AreRuns}
use Rattle.plan_infill.proofs.DeepRuns.{deep_by_nothing}
use Rattle.plan_infill.specs.Multiple.{IsMultiple}
use Rattle.plan_support.specs.Stretches.{IsStretch, AreStretches}
use Rattle.plan_support.specs.Spans.{point_at, IsSpanned}

module _ (outlines : List (List Pt)) (spacing : ℕ) (y : ℤ) (m : IsMultiple spacing y) where
  spanned_if : (x : ℤ) → IsDeep outlines 0 (point_at x y) → IsSpanned outlines spacing x y
  spanned_if x d = record { line = m; wound = d.inside }

  stretch_of : (r : Run) → IsRun outlines 0 (AtHeight y) 0 r → IsStretch (λ x. IsSpanned outlines spacing x y) 0 r
  stretch_of r s = record {
    long = s.long;
    holds = λ x a b. spanned_if x (s.deep x a b);
    before = λ h. s.before (deep_by_nothing outlines (point_at (r.from -ℤ pos 1) y) h.wound);
    after = λ h. s.after (deep_by_nothing outlines (point_at (r.to +ℤ pos 1) y) h.wound);
  }

  run_of : (r : Run) → IsStretch (λ x. IsSpanned outlines spacing x y) 0 r → IsRun outlines 0 (AtHeight y) 0 r
  run_of r s = record {
    long = s.long;
    deep = λ x a b. deep_by_nothing outlines (point_at x y) (s.holds x a b).wound;
    before = λ d. s.before (spanned_if (r.from -ℤ pos 1) d);
    after = λ d. s.after (spanned_if (r.to +ℤ pos 1) d);
  }

  pub spanned_runs : (rs : List Run) → AreRuns outlines 0 (AtHeight y) 0 rs
      → AreStretches (λ x. IsSpanned outlines spacing x y) 0 rs
  spanned_runs rs a = record {
    upwards = a.upwards;
    each = All-weaker (IsRun outlines 0 (AtHeight y) 0) (IsStretch (λ x. IsSpanned outlines spacing x y) 0) stretch_of
        rs a.each;
    all = λ r s. a.all r (run_of r s);
  }
