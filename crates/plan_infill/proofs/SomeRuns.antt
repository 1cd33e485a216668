-- Each line has its runs.
use Rattle.std.proofs.Common.{◌≡◌, inl, inr, ℕ, ◌+◌, Bool, true, false, List, flat_map, arith, ℤ, pos}
use Rattle.std.proofs.Common.{◌+ℤ◌, ◌-ℤ◌, ◌<ℤ◌}
use lib.Signed.{◌≤ℤ◌}
use Rattle.std.proofs.lemmas.Int.{ints}
use Rattle.scad_geom.specs.declared.point.Pt.{Pt}
use Rattle.scad_geom.specs.Loop.{sides}
use Rattle.plan_infill.specs.declared.line.Line.{Line}
use Rattle.plan_infill.specs.Runs.{IsDeep, point_on}
use Rattle.plan_infill.specs.There.{HasRuns, RunsAreThere}
use Rattle.plan_infill.proofs.Beyond.{extent, none_far}
use Rattle.plan_infill.proofs.Deciding.{holds, held, holding, deep_or_not}
use Rattle.plan_infill.proofs.StretchSearch.{HasStretches, stretches_of}
use Rattle.plan_infill.proofs.DeepRuns.{not_deep, are_runs}

module _ (outlines : List (List Pt)) (c : ℕ) (line : Line) (least : ℕ) where
  abbrev test : ℤ → Bool
  test z = holds (deep_or_not outlines c line z)

  deep_if : (z : ℤ) → test z ≡ true → IsDeep outlines c (point_on line z)
  deep_if z e = held (deep_or_not outlines c line z) e

  if_deep : (z : ℤ) → IsDeep outlines c (point_on line z) → test z ≡ true
  if_deep z d = holding (deep_or_not outlines c line z) d

  abbrev n : ℕ
  n = extent (flat_map sides outlines)

  before : (z : ℤ) → z <ℤ (pos 0 -ℤ pos n) → test z ≡ false
  before z h = not_deep outlines c line test deep_if if_deep z (λ d. d.inside (none_far outlines line z (inl h)))

  behind : (z : ℤ) → (((pos 0 -ℤ pos n) +ℤ pos ((n + n) + 2)) -ℤ pos 1) ≤ℤ z → test z ≡ false
  behind z h = not_deep outlines c line test deep_if if_deep z
      (λ d. d.inside (none_far outlines line z (inr (omega (arith, ints, h)))))

  some_runs : HasRuns outlines c line least
  some_runs =
      let s : HasStretches test least = stretches_of test least (pos 0 -ℤ pos n) before ((n + n) + 2) behind in
      record { runs = s.runs; are_runs = are_runs outlines c line test deep_if if_deep least s.runs s.are_stretches }

pub runs_are_there : RunsAreThere
runs_are_there outlines c line least = some_runs outlines c line least
