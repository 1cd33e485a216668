-- The octagon's own sides round a point, and those of the four-sided one.
use Rattle.std.proofs.Common.{arith, ℤ, pos, neg_ℤ, ◌-ℤ◌, ◌*ℤ◌, ◌<ℤ◌}
use lib.Signed.{◌≤ℤ◌}
use Rattle.std.proofs.lemmas.Int.{ints}
use Rattle.scad_geom.specs.declared.point.Pt.{Pt}
use Rattle.scad_ring.specs.Corners.{low_left, low_right, right_low, right_high, high_right, high_left}
use Rattle.scad_ring.specs.Corners.{left_high, left_low, low, right, high, left}
use Rattle.scad_ring.proofs.Steps.{side}
use Rattle.scad_ring.proofs.Slants.{IsOctagon}
use Rattle.scad_ring.proofs.Offsets.{size_least, size_most, wide, tall}
use Rattle.scad_ring.proofs.Sides.{OwnSide}

-- from one side to the next, an eighth or a quarter of a turn to the left
pub eighth : pos 0 <ℤ pos 1
eighth = omega (arith, ints)

pub quarter : pos 0 <ℤ pos 2
quarter = omega (arith, ints)

broad : {c t u : ℤ} → IsOctagon c t u → pos 0 ≤ℤ c
broad o = omega (arith, ints, o.least, o.less)

module _ {c t u : ℤ} (o : IsOctagon c t u) (some : pos 0 <ℤ t) (p : Pt) where
  slanted : pos 0 <ℤ (c -ℤ t)
  slanted = omega (arith, ints, o.less)

  pub low_side : OwnSide c u (pos 0) (pos 1) c p (low_left c t p) (low_right c t p)
  low_side = record {
    side = side (pos 2 *ℤ t) (omega (arith, ints)) (omega (arith, ints)) (omega (arith, ints)) (omega (arith, ints));
    offset = tall o (size_least o.least (omega (arith, ints))) (size_least (broad o) (omega (arith, ints)));
    bound = λ q e f a. a.over;
  }

  pub low_right_side : OwnSide c u (neg_ℤ (pos 1)) (pos 1) u p (low_right c t p) (right_low c t p)
  low_right_side = record {
    side = side (c -ℤ t) slanted (omega (arith, ints)) (omega (arith, ints)) (omega (arith, ints, o.sum));
    offset = tall o (size_most o.least (omega (arith, ints))) (size_least (broad o) (omega (arith, ints)));
    bound = λ q e f a. a.over_left;
  }

  pub right_side : OwnSide c u (neg_ℤ (pos 1)) (pos 0) c p (right_low c t p) (right_high c t p)
  right_side = record {
    side = side (pos 2 *ℤ t) (omega (arith, ints)) (omega (arith, ints)) (omega (arith, ints)) (omega (arith, ints));
    offset = wide o (size_most (broad o) (omega (arith, ints))) (size_least o.least (omega (arith, ints)));
    bound = λ q e f a. a.left;
  }

  pub high_right_side : OwnSide c u (neg_ℤ (pos 1)) (neg_ℤ (pos 1)) u p (right_high c t p) (high_right c t p)
  high_right_side = record {
    side = side (c -ℤ t) slanted (omega (arith, ints)) (omega (arith, ints)) (omega (arith, ints, o.sum));
    offset = wide o (size_most (broad o) (omega (arith, ints))) (size_most o.least (omega (arith, ints)));
    bound = λ q e f a. a.below_left;
  }

  pub high_side : OwnSide c u (pos 0) (neg_ℤ (pos 1)) c p (high_right c t p) (high_left c t p)
  high_side = record {
    side = side (pos 2 *ℤ t) (omega (arith, ints)) (omega (arith, ints)) (omega (arith, ints)) (omega (arith, ints));
    offset = tall o (size_most o.least (omega (arith, ints))) (size_most (broad o) (omega (arith, ints)));
    bound = λ q e f a. a.below;
  }

  pub high_left_side : OwnSide c u (pos 1) (neg_ℤ (pos 1)) u p (high_left c t p) (left_high c t p)
  high_left_side = record {
    side = side (c -ℤ t) slanted (omega (arith, ints)) (omega (arith, ints)) (omega (arith, ints, o.sum));
    offset = tall o (size_least o.least (omega (arith, ints))) (size_most (broad o) (omega (arith, ints)));
    bound = λ q e f a. a.below_right;
  }

  pub left_side : OwnSide c u (pos 1) (pos 0) c p (left_high c t p) (left_low c t p)
  left_side = record {
    side = side (pos 2 *ℤ t) (omega (arith, ints)) (omega (arith, ints)) (omega (arith, ints)) (omega (arith, ints));
    offset = wide o (size_least (broad o) (omega (arith, ints))) (size_most o.least (omega (arith, ints)));
    bound = λ q e f a. a.right;
  }

  pub low_left_side : OwnSide c u (pos 1) (pos 1) u p (left_low c t p) (low_left c t p)
  low_left_side = record {
    side = side (c -ℤ t) slanted (omega (arith, ints)) (omega (arith, ints)) (omega (arith, ints, o.sum));
    offset = wide o (size_least (broad o) (omega (arith, ints))) (size_least o.least (omega (arith, ints)));
    bound = λ q e f a. a.over_right;
  }

module _ {c : ℤ} (o : IsOctagon c (pos 0) c) (p : Pt) where
  pub low_to_right : OwnSide c c (neg_ℤ (pos 1)) (pos 1) c p (low c p) (right c p)
  low_to_right = record {
    side = side c o.less (omega (arith, ints)) (omega (arith, ints)) (omega (arith, ints));
    offset = tall o (size_most o.least (omega (arith, ints))) (size_least (broad o) (omega (arith, ints)));
    bound = λ q e f a. a.over_left;
  }

  pub right_to_high : OwnSide c c (neg_ℤ (pos 1)) (neg_ℤ (pos 1)) c p (right c p) (high c p)
  right_to_high = record {
    side = side c o.less (omega (arith, ints)) (omega (arith, ints)) (omega (arith, ints));
    offset = wide o (size_most (broad o) (omega (arith, ints))) (size_most o.least (omega (arith, ints)));
    bound = λ q e f a. a.below_left;
  }

  pub high_to_left : OwnSide c c (pos 1) (neg_ℤ (pos 1)) c p (high c p) (left c p)
  high_to_left = record {
    side = side c o.less (omega (arith, ints)) (omega (arith, ints)) (omega (arith, ints));
    offset = tall o (size_most o.least (omega (arith, ints))) (size_most (broad o) (omega (arith, ints)));
    bound = λ q e f a. a.below_right;
  }

  pub left_to_low : OwnSide c c (pos 1) (pos 1) c p (left c p) (low c p)
  left_to_low = record {
    side = side c o.less (omega (arith, ints)) (omega (arith, ints)) (omega (arith, ints));
    offset = wide o (size_least (broad o) (omega (arith, ints))) (size_most o.least (omega (arith, ints)));
    bound = λ q e f a. a.over_right;
  }
