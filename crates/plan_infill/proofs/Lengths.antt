-- The ends of runs differ.
use Rattle.std.proofs.Common.{◌≡◌, ◌≤◌, ℕ, ap, ℤ, pos, ◌-ℤ◌, arith}
use lib.Signed.{◌≤ℤ◌}
use Rattle.std.proofs.lemmas.Int.{ints}
use Rattle.scad_geom.specs.declared.point.Pt.{Pt}
use Rattle.plan_infill.specs.declared.line.Line.{Line}
use Rattle.plan_infill.specs.declared.line.Line.TheVariants.{Row, Column}
use Rattle.plan_infill.specs.Runs.{point_on}
use Rattle.plan_infill.specs.Lengths.{RunsHaveLengths}

-- one point of a line has one place
one_place : (line : Line) (y z : ℤ) → point_on line y ≡ point_on line z → y ≡ z
one_place (Row at) y z same = ap (λ (p : Pt). p.x) same
one_place (Column at) y z same = ap (λ (p : Pt). p.y) same

apart : (least : ℕ) (y z : ℤ) → 1 ≤ least → pos least ≤ℤ (z -ℤ y) → y ≡ z → ⊥
apart least y z some long same = omega (arith, ints)

pub runs_have_lengths : RunsHaveLengths
runs_have_lengths outlines c line least r some is same =
    apart least r.from r.to some is.long (one_place line r.from r.to same)
