-- What lies less than one from a point that an edge doesn't come near to keeps the clearance of the edge.
use Rattle.std.proofs.Common.{◌≡◌, ℕ, subst, arith, ℤ, pos, ◌+ℤ◌, ◌-ℤ◌, ◌*ℤ◌, ◌<ℤ◌}
use lib.IntN.{*ℤ_comm}
use Rattle.std.proofs.lemmas.Int.{ints}
use Rattle.scad_geom.specs.declared.point.Edge.{Edge}
use Rattle.scad_geom.specs.Point.{Point, whole}
use Rattle.scad_geom.specs.Near.{mean}
use Rattle.winding_laws.specs.Points.{IsWithinOne}
use Rattle.scad_ring.specs.Octagon.{reach, octagon}
use Rattle.scad_ring.specs.Nearness.{Closed, Open, IsWithinRegion, IsClear}
use Rattle.scad_ring.proofs.OpenNearness.{near_by_one}
use Rattle.plan_walls.specs.Clearance.{clearance}
use Rattle.plan_walls.proofs.Off.{IsOff}
use Rattle.plan_walls.proofs.Round.{weight_positive}

-- of two points each lies less than one from the other
pub one_back : (q b : Point) → IsWithinOne q b → IsWithinOne b q
one_back q b one =
    let e = *ℤ_comm b.d q.d in
    let r = one.right in
    let l = one.left in
    let a = one.above in
    let o = one.below in
    record {
      right = omega (arith, ints, l, e);
      left = omega (arith, ints, r, e);
      above = omega (arith, ints, o, e);
      below = omega (arith, ints, a, e);
    }

-- the clearance of c and one micrometre more along each axis are the octagon of c
widened : (c u : ℤ) (b p : Point) → IsWithinRegion Open (octagon ((c -ℤ pos 1) +ℤ pos 1) ((u -ℤ pos 2) +ℤ pos 2)) b p
    → IsWithinRegion Open (octagon c u) b p
widened c u b p h =
    let s : (c -ℤ pos 1) +ℤ pos 1 ≡ c = omega (arith, ints) in
    let t : (u -ℤ pos 2) +ℤ pos 2 ≡ u = omega (arith, ints) in
    subst (λ (v : ℤ). IsWithinRegion Open (octagon c v) b p) t
    (subst (λ (z : ℤ). IsWithinRegion Open (octagon z ((u -ℤ pos 2) +ℤ pos 2)) b p) s h)

-- so q is clear of what b is off
pub clear_of : (c : ℕ) (q b : Point) → pos 0 <ℤ q.d → pos 0 <ℤ b.d → IsWithinOne q b → (e : Edge) → IsOff c b e
    → IsClear Closed (clearance c) q (whole e.a) (whole e.b)
clear_of c q b dq db one e off s t from to some near =
    off s t from to some
    (widened (pos c) (pos (reach c)) b (mean s t (whole e.a) (whole e.b))
    (near_by_one (pos c -ℤ pos 1) (pos (reach c) -ℤ pos 2) b q (mean s t (whole e.a) (whole e.b)) db dq
    (weight_positive s t some) (one_back q b one) near))
