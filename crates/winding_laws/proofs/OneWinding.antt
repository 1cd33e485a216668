-- Round all points near to a centre a balanced list winds alike, where no point of it is near to the centre: as one
-- point sees
-- the segments they move by the way to the other, and none meets the way.
use Rattle.std.proofs.Common.{◌≡◌, Bool, true, List, [], ◌∷◌, refl, sym, ap, ap₂, ◌∙◌, subst, arith}
use lib.IntN.{ℤ, pos, ◌+ℤ◌, ◌-ℤ◌, ◌*ℤ◌}
use lib.Signed.{◌<ℤ◌}
use Rattle.std.specs.List.{AllByRecursion}
use Rattle.std.proofs.lemmas.Int.{ints}
use Rattle.std.proofs.lemmas.List.Elements.{recursion_from_All}
use Rattle.scad_base.proofs.Products.{positive_product}
use Rattle.scad_geom.specs.Point.{Point, is_same_point}
use Rattle.scad_geom.specs.Segment.{Segment}
use Rattle.scad_geom.specs.Winding.{turn, wind_by}
use Rattle.scad_geom.specs.Balance.{IsBalanced}
use Rattle.scad_geom.specs.Near.{mean}
use Rattle.scad_geom.proofs.Ring.{ring, ◌⊖◌, ◌⊗◌, v0, v1, v2, v3, v4}
use Rattle.scad_geom.proofs.Sums.{sum_z}
use Rattle.winding_laws.specs.Region.{HalfPlane, Holds, square}
use Rattle.winding_laws.specs.Nearness.{IsPoint, seen_from, IsNear, IsFar, IsFarSegment, IsClearSegment}
use Rattle.winding_laws.specs.OneWinding.{RegionsHaveOneWinding, SquaresHaveOneWinding}
use Rattle.winding_laws.proofs.Views.{swing, swing_turned, turn_seen, IsAlong, swing_along, swing_to_along}
use Rattle.winding_laws.proofs.Regions.{near_itself, near_seen, near_unseen, axis_seen, mean_seen}
use Rattle.winding_laws.proofs.Corners.{IsAway}
use Rattle.winding_laws.proofs.Edges.{moved_swing, far_proper}
use Rattle.winding_laws.proofs.Sameness.{are_same, along_seen}
use Rattle.winding_laws.proofs.Squares.{near_by_close, far_segments}
use Rattle.winding_laws.proofs.Totals.{starts, ends, balanced_totals, sums_changed, equal_by_sums}
use Rattle.winding_laws.proofs.Ways.{length, way, way_holds_origin, near_moved_back, way_near, by_length}
use Rattle.scad_base.proofs.Integers.{at_most_of_less, equal_of_gap}
use Rattle.scad_geom.proofs.Signs.{no_gap, square_at_least, mul-one}

module _ (region : List HalfPlane) (above right : Bool) (c q p : Point) (dc : pos 0 <ℤ c.d) (dq : pos 0 <ℤ q.d) (dp : pos 0 <ℤ p.d) (nq : IsNear region c q) (np : IsNear region c p) where
  qq : pos 0 <ℤ (q.d *ℤ q.d)
  qq = positive_product q.d q.d dq dq

  -- how far q sees p
  abbrev far : Point
  far = seen_from q p

  far_positive : pos 0 <ℤ (p.d *ℤ q.d)
  far_positive = positive_product p.d q.d dp dq

  -- the swing of the way from where q sees a point to where p sees it
  abbrev change : Point → ℤ
  change x = swing above right (seen_from q x) (seen_from p x)

  change_same : (x y : Point) → IsPoint x → IsPoint y → is_same_point x y ≡ true → change x ≡ change y
  change_same x y dx dy h =
      swing_along above right (seen_from q x) (seen_from q y) (seen_from p x) (along_seen q x y dx dy (are_same x y h))
      ∙ swing_to_along above right (seen_from q y) (seen_from p x) (seen_from p y)
      (along_seen p x y dx dy (are_same x y h))

  -- p sees a point as q sees it, moved back by the way to p
  moved_along : (x : Point) → IsAlong (seen_from p x) (seen_from far (seen_from q x))
  moved_along x =
      record {
        k = q.d *ℤ q.d;
        l = pos 1;
        k_positive = qq;
        l_positive = omega (arith, ints);
        x = axis_seen x.x x.d p.x p.d q.x q.d ∙ sym
            (mul-one ((x.x *ℤ q.d -ℤ q.x *ℤ x.d) *ℤ (p.d *ℤ q.d) -ℤ (p.x *ℤ q.d -ℤ q.x *ℤ p.d) *ℤ
            (x.d *ℤ q.d)));
        y = axis_seen x.y x.d p.y p.d q.y q.d ∙ sym
            (mul-one ((x.y *ℤ q.d -ℤ q.y *ℤ x.d) *ℤ (p.d *ℤ q.d) -ℤ (p.y *ℤ q.d -ℤ q.y *ℤ p.d) *ℤ
            (x.d *ℤ q.d)));
      }

  -- ---- where they are two points
  away : pos 0 <ℤ length far → (a b : Point) → IsFar region c a b
      → IsAway (way far) (seen_from q a) (seen_from q b)
  away more a b f s t hs ht o h =
      f s t hs ht o
      (near_unseen region q c (mean s t a b) qq
      (way_near region (seen_from q c) far (seen_from q q) (no_gap (q.x *ℤ q.d) (q.x *ℤ q.d) refl)
      (no_gap (q.y *ℤ q.d) (q.y *ℤ q.d) refl) (at_most_of_less (pos 0) (p.d *ℤ q.d) far_positive) qq more
      (near_seen region q c q (at_most_of_less (pos 0) (q.d *ℤ q.d) qq) nq)
      (near_seen region q c p (at_most_of_less (pos 0) (q.d *ℤ q.d) qq) np)
      (seen_from q (mean s t a b)) (subst (Holds (way far)) (mean_seen q a b s t) h)))

  two_points : pos 0 <ℤ length far → (a b : Point) → pos 0 <ℤ a.d → pos 0 <ℤ b.d → IsFar region c a b
      → turn above right p a b ≡ turn above right q a b +ℤ (change b -ℤ change a)
  two_points more a b da db f =
      let sa : Point = seen_from q a in
      let sb : Point = seen_from q b in
      let ea : pos 0 <ℤ sa.d = positive_product a.d q.d da dq in
      let eb : pos 0 <ℤ sb.d = positive_product b.d q.d db dq in
      let la = square_at_least sa.d in
      let lb = square_at_least sb.d in
      turn_seen above right p a b dp da
      ∙ swing_along above right (seen_from p a) (seen_from far sa) (seen_from p b) (moved_along a)
      ∙ swing_to_along above right (seen_from far sa) (seen_from p b) (seen_from far sb) (moved_along b)
      ∙ moved_swing (way far) above right sa sb (seen_from far sa) (seen_from far sb) ea eb
      (positive_product sa.d (p.d *ℤ q.d) ea far_positive) (positive_product sb.d (p.d *ℤ q.d) eb far_positive)
      (near_itself (way far) (way_holds_origin far) sa la) (near_itself (way far) (way_holds_origin far) sb lb)
      (near_moved_back far sa la) (near_moved_back far sb lb) (away more a b f)
      ∙ ap₂ (λ (y z : ℤ). y +ℤ z) (sym (turn_seen above right q a b dq da))
      (ap₂ (λ (y z : ℤ). y -ℤ z)
      (sym (swing_to_along above right sb (seen_from p b) (seen_from far sb) (moved_along b)))
      (sym (swing_to_along above right sa (seen_from p a) (seen_from far sa) (moved_along a))))

  -- ---- where they are one
  same_along : far.x ≡ pos 0 → far.y ≡ pos 0 → (x : Point) → IsAlong (seen_from p x) (seen_from q x)
  same_along hx hy x = record {
    k = q.d;
    l = p.d;
    k_positive = dq;
    l_positive = dp;
    x = one_axis x.x x.d p.x p.d q.x q.d
        hx;
    y = one_axis x.y x.d p.y p.d q.y q.d hy;
  }
    where
      one_axis : (x d y e z f : ℤ) → y *ℤ f -ℤ z *ℤ e ≡ pos 0
          → (x *ℤ e -ℤ y *ℤ d) *ℤ f ≡ (x *ℤ f -ℤ z *ℤ d) *ℤ e
      one_axis x d y e z f h =
          ring (x ∷ d ∷ y ∷ e ∷ f ∷ []) ((v0 ⊗ v3 ⊖ v2 ⊗ v1) ⊗ v4)
          ((v0 ⊗ v4) ⊗ v3 ⊖ (v2 ⊗ v4) ⊗ v1) refl
          ∙ ap (λ (u : ℤ). (x *ℤ f) *ℤ e -ℤ u *ℤ d) (equal_of_gap (y *ℤ f) (z *ℤ e) h)
          ∙ ring (x ∷ d ∷ e ∷ z ∷ f ∷ []) ((v0 ⊗ v4) ⊗ v2 ⊖ (v3 ⊗ v2) ⊗ v1)
          ((v0 ⊗ v4 ⊖ v3 ⊗ v1) ⊗ v2) refl

  no_swing : (x : Point) → swing above right x x ≡ pos 0
  no_swing x = none (swing above right x x) (swing_turned above right x x)
    where
      none : (z : ℤ) → z ≡ pos 0 -ℤ z → z ≡ pos 0
      none z h = omega (arith, ints)

  no_change : far.x ≡ pos 0 → far.y ≡ pos 0 → (x : Point) → change x ≡ pos 0
  no_change hx hy x = swing_to_along above right (seen_from q x) (seen_from p x) (seen_from q x) (same_along hx hy x)
      ∙
      no_swing (seen_from q x)

  one_point : far.x ≡ pos 0 → far.y ≡ pos 0 → (a b : Point) → pos 0 <ℤ a.d → pos 0 <ℤ b.d
      → turn above right p a b ≡ turn above right q a b +ℤ (change b -ℤ change a)
  one_point hx hy a b da db =
      turn_seen above right p a b dp da
      ∙ swing_along above right (seen_from p a) (seen_from q a) (seen_from p b) (same_along hx hy a)
      ∙ swing_to_along above right (seen_from q a) (seen_from p b) (seen_from q b) (same_along hx hy b)
      ∙ sym (turn_seen above right q a b dq da)
      ∙ nothing_more (turn above right q a b) (change a) (change b) (no_change hx hy a) (no_change hx hy b)
    where
      nothing_more : (t x y : ℤ) → x ≡ pos 0 → y ≡ pos 0 → t ≡ t +ℤ (y -ℤ x)
      nothing_more t x y h k = omega (arith, ints)

  changed_turn : (a b : Point) → pos 0 <ℤ a.d → pos 0 <ℤ b.d → IsFar region c a b → turn above right p a b
      ≡ turn above right q a b +ℤ (change b -ℤ change a)
  changed_turn a b da db f = by_length far (λ more. two_points more a b da db f) (λ hx hy. one_point hx hy a b da db)

  -- ---- of a list

  wind_changed : (ss : List Segment) → AllByRecursion (IsFarSegment region c) ss
      → wind_by above right p ss +ℤ sum_z
      change (starts ss) ≡ wind_by above right q ss +ℤ sum_z change (ends ss)
  wind_changed [] h = refl
  wind_changed (s ∷ ss) h =
      sums_changed (turn above right p s.from s.to) (turn above right q s.from s.to) (change s.from) (change s.to)
      (wind_by above right p ss) (wind_by above right q ss) (sum_z change (starts ss)) (sum_z change (ends ss))
      (changed_turn s.from s.to h.0.proper.from h.0.proper.to h.0.far) (wind_changed ss h.1)

  pub one_winding : (ss : List Segment) → IsBalanced ss → AllByRecursion (IsFarSegment region c) ss
      → wind_by above right p ss ≡ wind_by above right q ss
  one_winding ss b h =
      equal_by_sums (wind_by above right p ss) (wind_by above right q ss)
      (sum_z change (starts ss)) (sum_z change (ends ss))
      (wind_changed ss h) (balanced_totals change change_same ss (far_proper region c ss h) b)

pub regions_have_one_winding : RegionsHaveOneWinding
regions_have_one_winding region above right c q p dc dq dp nq np ss b h = one_winding region above right c q p dc dq dp
    nq np ss b (recursion_from_All (IsFarSegment region c) ss h)

pub squares_have_one_winding : SquaresHaveOneWinding
squares_have_one_winding h above right c q p dc dq dp nq np ss b k =
    one_winding (square h) above right c q p dc dq dp (near_by_close h c q nq) (near_by_close h c p np) ss b
    (far_segments h c ss (recursion_from_All (IsClearSegment h c) ss k))
