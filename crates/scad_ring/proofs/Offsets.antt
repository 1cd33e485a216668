-- The corners of an octagon round an end of an edge are near to the edge.
use Rattle.std.proofs.Common.{◌≡◌, inl, inr, arith, List, ℤ, pos, neg_ℤ, ◌+ℤ◌, ◌-ℤ◌, ◌*ℤ◌, ◌<ℤ◌}
use lib.Signed.{◌≤ℤ◌}
use Rattle.std.specs.Prelude.{◌↔◌, All}
use Rattle.std.proofs.lemmas.Int.{ints}
use Rattle.scad_geom.specs.declared.point.Pt.{Pt}
use Rattle.scad_geom.specs.Point.{Point, whole}
use Rattle.scad_geom.specs.Segment.{segments}
use Rattle.scad_geom.specs.Loop.{sides}
use Rattle.scad_geom.proofs.Rising.{order}
use Rattle.scad_ring.specs.Octagon.{octagon}
use Rattle.scad_ring.specs.Nearness.{Closed, Meets}
use Rattle.scad_ring.specs.Ring.{IsLeftOf, AllTurnLeft, IsBefore, StartsLowest, round}
use Rattle.scad_ring.specs.Corners.{low}
use Rattle.scad_ring.proofs.Convex.{one_first}
use Rattle.scad_ring.proofs.Octants.{IsSize}
use Rattle.scad_ring.proofs.Approaches.{meets_if_approach}
use Rattle.scad_ring.proofs.EdgeTests.{meets_back}
use Rattle.scad_ring.proofs.Slants.{IsOctagon}

-- a point lies near to the way from p to r
abbrev pub IsNearWay : ℤ → ℤ → Pt → Pt → Pt → Type 0
IsNearWay c u p r k = Meets Closed (octagon c u) (whole k) (whole p) (whole r)

-- these are the corners of the ring round the way from p to r by the octagon of half width c and half sum u
pub record IsRingRound (c u : ℤ) (p r : Pt) (corners : List Pt) : Type 0 where
  pub holds : (q : Point) → pos 0 <ℤ q.d → Meets Closed (octagon c u) q (whole p) (whole r) ↔ All (IsLeftOf q)
      (segments (sides corners))
  pub near : All (IsNearWay c u p r) corners
  pub turns : AllTurnLeft (round corners)
  pub starts : StartsLowest corners

-- a difference lies in the octagon
pub record IsOffset (c u x y : ℤ) : Type 0 where
  pub across : IsSize c x
  pub upwards : IsSize c y
  pub sum : IsSize u (x +ℤ y)
  pub difference : IsSize u (x -ℤ y)

pub near_first : (c u : ℤ) (p r k : Pt) → IsOffset c u (k.x -ℤ p.x) (k.y -ℤ p.y) → IsNearWay c u p r k
near_first c u p r k o =
    let al = o.across.least in
    let am = o.across.most in
    let bl = o.upwards.least in
    let bm = o.upwards.most in
    let sl = o.sum.least in
    let sm = o.sum.most in
    let fl = o.difference.least in
    let fm = o.difference.most in
    meets_if_approach (whole k) p r c u (record {
      s = pos 1;
      t = pos 0;
      from = omega (arith, ints);
      to = omega (arith, ints);
      some = omega (arith, ints);
      right = one_first (pos 1) (pos 0) (c *ℤ pos 1) (p.x *ℤ pos 1 -ℤ k.x) (p.y *ℤ pos 1 -ℤ k.y)
          (r.x *ℤ pos 1 -ℤ k.x) (r.y *ℤ pos 1 -ℤ k.y) (omega (arith, ints, al));
      left = one_first (neg_ℤ (pos 1)) (pos 0) (c *ℤ pos 1) (p.x *ℤ pos 1 -ℤ k.x) (p.y *ℤ pos 1 -ℤ k.y)
          (r.x *ℤ pos 1 -ℤ k.x) (r.y *ℤ pos 1 -ℤ k.y) (omega (arith, ints, am));
      over = one_first (pos 0) (pos 1) (c *ℤ pos 1) (p.x *ℤ pos 1 -ℤ k.x) (p.y *ℤ pos 1 -ℤ k.y)
          (r.x *ℤ pos 1 -ℤ k.x) (r.y *ℤ pos 1 -ℤ k.y) (omega (arith, ints, bl));
      below = one_first (pos 0) (neg_ℤ (pos 1)) (c *ℤ pos 1) (p.x *ℤ pos 1 -ℤ k.x) (p.y *ℤ pos 1 -ℤ k.y)
          (r.x *ℤ pos 1 -ℤ k.x) (r.y *ℤ pos 1 -ℤ k.y) (omega (arith, ints, bm));
      over_right = one_first (pos 1) (pos 1) (u *ℤ pos 1) (p.x *ℤ pos 1 -ℤ k.x) (p.y *ℤ pos 1 -ℤ k.y)
          (r.x *ℤ pos 1 -ℤ k.x) (r.y *ℤ pos 1 -ℤ k.y) (omega (arith, ints, sl));
      below_right = one_first (pos 1) (neg_ℤ (pos 1)) (u *ℤ pos 1) (p.x *ℤ pos 1 -ℤ k.x)
          (p.y *ℤ pos 1 -ℤ k.y)
          (r.x *ℤ pos 1 -ℤ k.x) (r.y *ℤ pos 1 -ℤ k.y) (omega (arith, ints, fl));
      over_left = one_first (neg_ℤ (pos 1)) (pos 1) (u *ℤ pos 1) (p.x *ℤ pos 1 -ℤ k.x) (p.y *ℤ pos 1 -ℤ k.y)
          (r.x *ℤ pos 1 -ℤ k.x) (r.y *ℤ pos 1 -ℤ k.y) (omega (arith, ints, fm));
      below_left = one_first (neg_ℤ (pos 1)) (neg_ℤ (pos 1)) (u *ℤ pos 1) (p.x *ℤ pos 1 -ℤ k.x)
          (p.y *ℤ pos 1 -ℤ k.y)
          (r.x *ℤ pos 1 -ℤ k.x) (r.y *ℤ pos 1 -ℤ k.y) (omega (arith, ints, sm));
    })

pub near_last : (c u : ℤ) (p r k : Pt) → IsOffset c u (k.x -ℤ r.x) (k.y -ℤ r.y) → IsNearWay c u p r k
near_last c u p r k o =
    meets_back Closed (octagon c u) (whole k) (whole r) (whole p) (near_first c u r p k o)

-- w and its opposite are at most w in size
pub size_least : {w z : ℤ} → pos 0 ≤ℤ w → z ≡ pos 0 -ℤ w → IsSize w z
size_least h e = record { least = omega (arith, ints); most = omega (arith, ints) }

pub size_most : {w z : ℤ} → pos 0 ≤ℤ w → z ≡ w → IsSize w z
size_most h e = record { least = omega (arith, ints); most = omega (arith, ints) }

-- what is at most c along one axis and at most t along the other lies in the octagon
module _ {c t u : ℤ} (o : IsOctagon c t u) {x y : ℤ} where
  pub wide : IsSize c x → IsSize t y → IsOffset c u x y
  wide h i =
      let j = h.least in
      let k = h.most in
      let l = i.least in
      let m = i.most in
      record {
        across = h;
        upwards = record { least = omega (arith, ints, l, o.less); most = omega (arith, ints, m, o.less) };
        sum = record { least = omega (arith, ints, j, l, o.sum); most = omega (arith, ints, k, m, o.sum) };
        difference = record { least = omega (arith, ints, j, m, o.sum); most = omega (arith, ints, k, l, o.sum) };
      }

  pub tall : IsSize t x → IsSize c y → IsOffset c u x y
  tall h i =
      let j = h.least in
      let k = h.most in
      let l = i.least in
      let m = i.most in
      record {
        across = record { least = omega (arith, ints, j, o.less); most = omega (arith, ints, k, o.less) };
        upwards = i;
        sum = record { least = omega (arith, ints, j, l, o.sum); most = omega (arith, ints, k, m, o.sum) };
        difference = record { least = omega (arith, ints, j, m, o.sum); most = omega (arith, ints, k, l, o.sum) };
      }

-- the lowest corners of the ends of an edge that rises to the right, or is flat
pub before : (p r : Pt) (c : ℤ) → p.y ≤ℤ r.y → p.x <ℤ r.x → IsBefore (low c p) (low c r)
before p r c y x = elim (order r.y p.y) [
  | inl h ↦ inr (omega (arith, ints), x)
  | inr h ↦ inl (omega (arith, ints))
]
