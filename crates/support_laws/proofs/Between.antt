-- An exact point between two whole points of a row has a whole place at it or less than one before it, from the first on
-- and up to the second.
use Rattle.std.proofs.Common.{◌≡◌, arith, ℤ, pos, ◌*ℤ◌, ◌<ℤ◌}
use lib.Signed.{◌≤ℤ◌}
use Rattle.std.proofs.lemmas.Int.{ints}
use Rattle.scad_geom.specs.declared.point.Pt.{Pt}
use Rattle.scad_geom.specs.Point.{Point, whole}
use Rattle.winding_laws.specs.Points.{IsOn}
use Rattle.plan_infill.specs.Quotient.{IsFloor}
use Rattle.plan_infill.proofs.Means.{has_floor, at_one_place}
use Rattle.plan_support.specs.Spans.{point_at}

-- ---- between two whole points of a row
pub record HasPlace (from to y : ℤ) (q : Point) : Type 0 where
  pub place : ℤ
  pub from_first : from ≤ℤ place
  pub to_last : place ≤ℤ to
  pub floor : IsFloor q.x q.d place
  pub level : q.y ≡ y *ℤ q.d

pub has_place : (from to y : ℤ) (q : Point) → from ≤ℤ to → pos 0 <ℤ q.d
    → IsOn (whole (point_at from y)) (whole (point_at to y)) q → HasPlace from to y q
has_place from to y q up hd on =
    let f = has_floor on.k on.s on.t q.x q.d from to on.positive on.first on.second hd up on.x on.d in
    record {
      place = f.place;
      from_first = f.from;
      to_last = f.to;
      floor = f.floor;
      level = at_one_place on.k on.s on.t q.y q.d y on.positive on.y on.d;
    }

-- a whole point is itself one of them
pub whole_place : (from to y : ℤ) (q : Pt) (h : HasPlace from to y (whole q)) → point_at h.place y ≡ q
whole_place from to y q h =
    let l = h.floor.least in
    let m = h.floor.most in
    let v = h.level in
    let x : h.place ≡ q.x = omega (arith, ints, l, m) in
    let z : y ≡ q.y = omega (arith, ints, v) in
    λ i. record { x = x i; y = z i }
