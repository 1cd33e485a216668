-- The stretches of a test that tells whether the points of a line are deep are its runs.
use Rattle.std.proofs.Common.{◌≡◌, ◌≢◌, ℕ, Bool, true, false, List, refl, flat_map, arith, ℤ, pos, ◌+ℤ◌, ◌-ℤ◌}
use Rattle.std.proofs.lemmas.Int.{ints}
use Rattle.std.proofs.lemmas.Bool.{both_ways}
use Rattle.std.proofs.lemmas.List.Elements.{All-weaker}
use Rattle.scad_geom.specs.declared.point.Pt.{Pt}
use Rattle.scad_geom.specs.Point.{Point, whole}
use Rattle.scad_geom.specs.Segment.{segments}
use Rattle.scad_geom.specs.Loop.{sides}
use Rattle.scad_geom.specs.Winding.{wind}
use Rattle.scad_ring.specs.Octagon.{octagon_of}
use Rattle.scad_ring.specs.Nearness.{Open, IsClear}
use Rattle.plan_infill.specs.declared.line.Line.{Line}
use Rattle.plan_infill.specs.declared.run.Run.{Run}
use Rattle.plan_infill.specs.Runs.{IsDeep, point_on, IsRun, AreRuns}
use Rattle.plan_infill.specs.Sweep.{IsStretch, AreStretches}

-- no point differs from another by less than nothing, so a point is deep by nothing where outlines wind round it
nothing_near : (q a b : Point) → IsClear Open (octagon_of 0) q a b
nothing_near q a b s t from to some near = let r = near.0 in let l = near.1.0 in omega (arith, ints, r, l)

pub deep_by_nothing : (outlines : List (List Pt)) (q : Pt)
    → wind (whole q) (segments (flat_map sides outlines)) ≢ pos 0 → IsDeep outlines 0 q
deep_by_nothing outlines q w = record { inside = w; apart = λ k d l. nothing_near _ _ _ }

module _ (outlines : List (List Pt)) (c : ℕ) (line : Line) (test : ℤ → Bool)
    (deep_if : (z : ℤ) → test z ≡ true → IsDeep outlines c (point_on line z))
    (if_deep : (z : ℤ) → IsDeep outlines c (point_on line z) → test z ≡ true) where
  pub not_deep : (z : ℤ) → (IsDeep outlines c (point_on line z) → ⊥) → test z ≡ false
  not_deep z n = by_test (test z) refl
    where
      by_test : (b : Bool) → test z ≡ b → b ≡ false
      by_test true e = absurd (n (deep_if z e))
      by_test false e = refl

  run_of : (least : ℕ) (r : Run) → IsStretch test least r → IsRun outlines c line least r
  run_of least r s = record {
    long = s.long;
    deep = λ z a b. deep_if z (s.holds z a b);
    before = λ d. both_ways _ s.before (if_deep (r.from -ℤ pos 1) d);
    after = λ d. both_ways _ s.after (if_deep (r.to +ℤ pos 1) d);
  }

  of_run : (least : ℕ) (r : Run) → IsRun outlines c line least r → IsStretch test least r
  of_run least r s = record {
    long = s.long;
    holds = λ z a b. if_deep z (s.deep z a b);
    before = not_deep (r.from -ℤ pos 1) s.before;
    after = not_deep (r.to +ℤ pos 1) s.after;
  }

  pub are_runs : (least : ℕ) (rs : List Run) → AreStretches test least rs → AreRuns outlines c line least rs
  are_runs least rs s = record {
    upwards = s.upwards;
    each = All-weaker (IsStretch test least) (IsRun outlines c line least) (run_of least) rs s.each;
    all = λ r i. s.all r (of_run least r i);
  }
