-- An exact point and the whole point below and to the left of it: where this one is deep, the other keeps the clearance.
use Rattle.std.proofs.Common.{◌≡◌, ◌≤◌, ℕ, List, ◌∙◌, sym, flat_map, arith, true, pos, ◌<ℤ◌}
use Rattle.std.proofs.lemmas.Int.{ints}
use Rattle.std.proofs.lemmas.List.Elements.{All-weaker}
use Rattle.scad_geom.specs.declared.point.Pt.{Pt}
use Rattle.scad_geom.specs.Point.{Point, whole}
use Rattle.scad_geom.specs.Segment.{segments}
use Rattle.scad_geom.specs.Loop.{sides}
use Rattle.scad_geom.specs.Winding.{wind}
use Rattle.winding_laws.specs.Points.{IsWithinOne}
use Rattle.scad_ring.specs.Nearness.{Closed, IsClear}
use Rattle.plan_sides.proofs.Closure.{sides_balanced}
use Rattle.plan_infill.specs.Quotient.{IsFloor}
use Rattle.plan_infill.specs.Runs.{IsDeep}
use Rattle.plan_walls.specs.Clearance.{clearance, KeepsWithin}
use Rattle.plan_walls.proofs.Off.{IsOff}
use Rattle.plan_walls.proofs.Clear.{clear_of}
use Rattle.plan_walls.proofs.Inside.{wound_alike}

-- p is the whole point below and to the left of q, or q itself
pub record IsUnder (p : Pt) (q : Point) : Type 0 where
  pub x : IsFloor q.x q.d p.x
  pub y : IsFloor q.y q.d p.y

within_one : (p : Pt) (q : Point) → pos 0 <ℤ q.d → IsUnder p q → IsWithinOne q (whole p)
within_one p q hd under =
    let xl = under.x.least in
    let xm = under.x.most in
    let yl = under.y.least in
    let ym = under.y.most in
    record {
      right = omega (arith, ints, hd, xl);
      left = omega (arith, ints, xm);
      above = omega (arith, ints, hd, yl);
      below = omega (arith, ints, ym);
    }

module _ (outlines : List (List Pt)) (c : ℕ) (p : Pt) (q : Point) (hd : pos 0 <ℤ q.d) (under : IsUnder p q)
    (deep : IsDeep outlines c p) (two : 2 ≤ c) where
  one : pos 0 <ℤ pos 1
  one = omega (arith, ints)

  same_winding : wind q (segments (flat_map sides outlines)) ≡ wind (whole p) (segments (flat_map sides outlines))
  same_winding =
      wound_alike c (omega (arith, two)) (flat_map sides outlines) (sides_balanced outlines) q (whole p) hd one
      (within_one p q hd under) deep.apart true true

  pub deep_keeps : KeepsWithin outlines c q
  deep_keeps = record {
    clear = All-weaker (IsOff c (whole p)) (λ e. IsClear Closed (clearance c) q (whole e.a) (whole e.b))
        (λ e h. clear_of c q (whole p) hd one (within_one p q hd under) e h) (flat_map sides outlines) deep.apart;
    inside = λ e. deep.inside (sym same_winding ∙ e);
  }
