-- A ring that has no corner to the right of a side winds round what lies to the left of all sides, and round nothing
-- else off their lines.
use Rattle.std.proofs.Common.{◌≡◌, ◌+◌, ◌≤◌, length, List, [], ◌∷◌, ◌++◌, map, refl, sym, ap, ap₂, ◌∙◌, arith, All}
use lib.IntN.{ℤ, pos, ◌-ℤ◌, ◌*ℤ◌}
use lib.Signed.{◌<ℤ◌, ◌≤ℤ◌}
use Rattle.std.specs.Prelude.{◌↔◌, ◌≢◌}
use Rattle.std.specs.List.{AllByRecursion}
use Rattle.std.proofs.lemmas.Int.{ints, by_lt_z}
use Rattle.std.proofs.lemmas.List.Elements.{All-from_recursion, All-contains}
use Rattle.scad_base.proofs.Products.{positive_product}
use Rattle.scad_geom.specs.declared.point.Pt.{Pt}
use Rattle.scad_geom.specs.Balance.{IsBalanced, starts_at, ends_at}
use Rattle.scad_geom.specs.Loop.{path, sides}
use Rattle.scad_geom.specs.Point.{Point, whole, is_same_point}
use Rattle.scad_geom.specs.Segment.{Segment, segments}
use Rattle.scad_geom.specs.Winding.{side_by, wind}
use Rattle.scad_geom.proofs.Balance.{once, starts-cons, ends-cons}
use Rattle.scad_geom.proofs.Ring.{ring, num, ◌⊕◌, ◌⊖◌, ◌⊗◌, v0, v1, v2, v3, v4, v5, v6, v7, v8}
use Rattle.scad_geom.proofs.Signs.{at_least_mul}
use Rattle.winding_laws.specs.Nearness.{IsProper, seen_from}
use Rattle.winding_laws.proofs.Views.{cross}
use Rattle.scad_hull.specs.Flat.{flat_left}
use Rattle.scad_hull.specs.Ring.{round, IsRightOfNone, IsConvexRing}
use Rattle.scad_hull.specs.Laws.{IsFlatBefore, outline_point, ring_sides, IsOnLine, IsLeftOf, RingsHold}
use Rattle.scad_hull.proofs.Flats.{rings_are_convex}
use Rattle.scad_hull.proofs.Whole.{recursion_of}
use Rattle.scad_hull.proofs.Winds.{HasLeft, IsBeside, along, winds, unwound}

-- ---- outlines are balanced
path_balance : (p : Point) (from : Pt) (ps : List Pt) (last : Pt)
    → starts_at p (segments (path from ps last)) + once (is_same_point p (whole last))
    ≡ ends_at p (segments (path from ps last)) + once (is_same_point p (whole from))
path_balance p from [] last =
    omega (
      arith,
      starts-cons p (record { from = whole from; to = whole last }) [],
      ends-cons p
          (record { from = whole from; to = whole last }) [],
    )
path_balance p from (r ∷ ps) last =
    let h = path_balance p r ps last in
    omega (
      arith,
      starts-cons p (record { from = whole from; to = whole r }) (segments (path r ps last)),
      ends-cons p
          (record { from = whole from; to = whole r }) (segments (path r ps last)),
    )

outline_balance : (p : Pt) (ps : List Pt) → IsBalanced (segments (sides (p ∷ ps)))
outline_balance p ps = record { each = λ q d. let h = path_balance q p ps p in omega arith }

-- ---- corners and sides
transposed : {X Y : Type 0} (R : X → Y → Type 0) (xs : List X) (ys : List Y)
    → AllByRecursion (λ x. AllByRecursion (R x) ys) xs → AllByRecursion (λ y. AllByRecursion (λ x. R x y) xs) ys
transposed R xs [] h = tt
transposed R xs (y ∷ ys) h = (firsts xs h, transposed R xs ys (rests xs h))
  where
    firsts : (zs : List _) → AllByRecursion (λ x. R x y × AllByRecursion (R x) ys) zs
        → AllByRecursion (λ x. R x y) zs
    firsts [] h = tt
    firsts (z ∷ zs) h = (h.0.0, firsts zs h.1)

    rests : (zs : List _) → AllByRecursion (λ x. R x y × AllByRecursion (R x) ys) zs
        → AllByRecursion (λ x. AllByRecursion (R x) ys) zs
    rests [] h = tt
    rests (z ∷ zs) h = (h.0.1, rests zs h.1)

each_of : {X : Type 0} {P Q : X → Type 0} → ((x : X) → P x → Q x) → (xs : List X) → AllByRecursion P xs
    → AllByRecursion Q xs
each_of f [] h = tt
each_of f (x ∷ xs) h = (f x h.0, each_of f xs h.1)

-- whole ends, and a corner that isn't to the right
pub record IsOver (c : ℤ × ℤ) (s : Segment) : Type 0 where
  pub from : s.from.d ≡ pos 1
  pub to : s.to.d ≡ pos 1
  pub over : pos 0 ≤ℤ flat_left (s.from.x, s.from.y) (s.to.x, s.to.y) c

over_path : (c a : ℤ × ℤ) (ps : List (ℤ × ℤ)) (last : ℤ × ℤ) (tail : List (ℤ × ℤ))
    → IsRightOfNone flat_left c (a ∷ (ps ++ (last ∷ tail)))
    → AllByRecursion (IsOver c) (segments (path (outline_point a) (map outline_point ps) (outline_point last)))
over_path c a [] last tail h = (record { from = refl; to = refl; over = h.0 }, tt)
over_path c a (p ∷ ps) last tail h = (record { from = refl; to = refl; over = h.0 }, over_path c p ps last tail h.1)

over_sides : (c p q : ℤ × ℤ) (ps : List (ℤ × ℤ)) → IsRightOfNone flat_left c (round (p ∷ (q ∷ ps)))
    → AllByRecursion (IsOver c) (ring_sides (p ∷ (q ∷ ps)))
over_sides c p q ps h = over_path c p (q ∷ ps) p (q ∷ []) h

-- the side of a segment as the point sees it
side_seen : (q a b : Point) → side_by q a b *ℤ q.d ≡ cross (seen_from q a) (seen_from q b) *ℤ a.d
unfolding side_by cross
side_seen q a b =
    ring (a.x ∷ a.y ∷ a.d ∷ b.x ∷ b.y ∷ b.d ∷ q.x ∷ q.y ∷ q.d ∷ [])
    (((v3 ⊗ v2 ⊖ v0 ⊗ v5) ⊗ (v7 ⊗ v2 ⊖ v1 ⊗ v8) ⊖ (v4 ⊗ v2 ⊖ v1 ⊗ v5)
    ⊗ (v6 ⊗ v2 ⊖ v0 ⊗ v8)) ⊗ v8)
    (((v0 ⊗ v8 ⊖ v6 ⊗ v2) ⊗ (v4 ⊗ v8 ⊖ v7 ⊗ v5) ⊖ (v1 ⊗ v8 ⊖ v7 ⊗ v2)
    ⊗ (v3 ⊗ v8 ⊖ v6 ⊗ v5)) ⊗ v2) refl

module _ (q : Point) (d : pos 0 <ℤ q.d) where
  one : pos 0 <ℤ pos 1
  one = omega (arith, ints)

  proper : (s : Segment) → s.from.d ≡ pos 1 → s.to.d ≡ pos 1 → IsProper s
  proper s e f = record { from = above s.from.d e; to = above s.to.d f }
    where
      above : (z : ℤ) → z ≡ pos 1 → pos 0 <ℤ z
      above z e = omega (arith, ints)

  -- ---- to the left of all
  has_left : (s : Segment) → s.from.d ≡ pos 1 → s.to.d ≡ pos 1 → IsLeftOf q s → HasLeft q d s
  has_left s e f h = record {
    proper = proper s e f;
    left = positive (cross (seen_from q s.from) (seen_from q s.to)) (side_by q s.from s.to *ℤ q.d)
        (side_seen q s.from s.to ∙ ap (λ (z : ℤ). cross (seen_from q s.from) (seen_from q s.to) *ℤ z) e)
        (positive_product (side_by q s.from s.to) q.d h d);
  }
    where
      times_one : (z : ℤ) → z *ℤ pos 1 ≡ z
      times_one z = ring (z ∷ []) (v0 ⊗ num (pos 1)) v0 refl

      positive : (z y : ℤ) → y ≡ z *ℤ pos 1 → pos 0 <ℤ y → pos 0 <ℤ z
      positive z y e h = let g = times_one z in omega (arith, ints)

  -- ---- to the right of one
  module _ (s : Segment) (e : s.from.d ≡ pos 1) (f : s.to.d ≡ pos 1) (right : side_by q s.from s.to <ℤ pos 0) where
    abbrev u : ℤ
    u = s.from.y -ℤ s.to.y

    abbrev v : ℤ
    v = s.to.x -ℤ s.from.x

    whole_side : side_by q s.from s.to ≡ side_by q (record { x = s.from.x; y = s.from.y; d = pos 1 })
        (record { x = s.to.x; y = s.to.y; d = pos 1 })
    whole_side = ap₂ (λ (k l : ℤ). side_by q (record { x = s.from.x; y = s.from.y; d = k })
        (record { x = s.to.x; y = s.to.y; d = l })) e f

    parts : (c : ℤ × ℤ) → along q d u v (seen_from q (whole (outline_point c)))
        ≡ q.d *ℤ flat_left (s.from.x, s.from.y) (s.to.x, s.to.y) c -ℤ side_by q s.from s.to
    unfolding side_by
    parts c =
        ring (s.from.x ∷ s.from.y ∷ s.to.x ∷ s.to.y ∷ c.0 ∷ c.1 ∷ q.x ∷ q.y ∷ q.d ∷ [])
        ((v1 ⊖ v3) ⊗ (v4 ⊗ v8 ⊖ v6 ⊗ num (pos 1)) ⊕ (v2 ⊖ v0) ⊗ (v5 ⊗ v8 ⊖ v7 ⊗ num (pos 1)))
        (v8 ⊗ ((v2 ⊖ v0) ⊗ (v5 ⊖ v1) ⊖ (v3 ⊖ v1) ⊗ (v4 ⊖ v0))
        ⊖ ((v2 ⊗ num (pos 1) ⊖ v0 ⊗ num (pos 1)) ⊗ (v7 ⊗ num (pos 1) ⊖ v1 ⊗ v8)
        ⊖ (v3 ⊗ num (pos 1) ⊖ v1 ⊗ num (pos 1)) ⊗ (v6 ⊗ num (pos 1) ⊖ v0 ⊗ v8))) refl
        ∙ ap (λ (z : ℤ). q.d *ℤ flat_left (s.from.x, s.from.y) (s.to.x, s.to.y) c -ℤ z) (sym whole_side)

    ahead : (c : ℤ × ℤ) → IsOver c s → pos 0 <ℤ along q d u v (seen_from q (whole (outline_point c)))
    ahead c h =
        more (along q d u v (seen_from q (whole (outline_point c))))
        (q.d *ℤ flat_left (s.from.x, s.from.y) (s.to.x, s.to.y) c) (side_by q s.from s.to) (parts c)
        (at_least_mul q.d (flat_left (s.from.x, s.from.y) (s.to.x, s.to.y) c) (weak q.d d) h.over) right
      where
        weak : (z : ℤ) → pos 0 <ℤ z → pos 0 ≤ℤ z
        weak z h = omega (arith, ints)

        more : (x y z : ℤ) → x ≡ y -ℤ z → pos 0 ≤ℤ y → z <ℤ pos 0 → pos 0 <ℤ x
        more x y z e h k = omega (arith, ints)

    beside_path : (a : ℤ × ℤ) (ps : List (ℤ × ℤ)) (last : ℤ × ℤ) → IsOver a s
        → AllByRecursion (λ c. IsOver c s) ps → IsOver last s → AllByRecursion (IsBeside q d u v) (segments
        (path (outline_point a) (map outline_point ps) (outline_point last)))
    beside_path a [] last h k l = (
      record {
        proper = record { from = one; to = one };
        from = ahead a h;
        to = ahead
            last l;
      },
      tt,
    )
    beside_path a (p ∷ ps) last h k l = (
      record
          { proper = record { from = one; to = one }; from = ahead a h; to = ahead p k.0 },
      beside_path p ps last k.0
          k.1 l,
    )

  -- ---- the ring
  module _ (p r : ℤ × ℤ) (ps : List (ℤ × ℤ))
      (over : AllByRecursion (λ c. IsRightOfNone flat_left c (round (p ∷ (r ∷ ps)))) (p ∷ (r ∷ ps))) where
    abbrev corners : List (ℤ × ℤ)
    corners = p ∷ (r ∷ ps)

    abbrev ss : List Segment
    ss = ring_sides corners

    balanced : IsBalanced ss
    balanced = outline_balance (outline_point p) (map outline_point (r ∷ ps))

    each_over : AllByRecursion (λ s. AllByRecursion (λ c. IsOver c s) corners) ss
    each_over = transposed IsOver corners ss (each_of (λ c h. over_sides c p r ps h) corners over)

    unwound_by : (s : Segment) → AllByRecursion (λ c. IsOver c s) corners → side_by q s.from s.to <ℤ pos 0
        → wind q ss ≡ pos 0
    unwound_by s h right =
        unwound q d (s.from.y -ℤ s.to.y) (s.to.x -ℤ s.from.x) ss
        (beside_path s h.0.from h.0.to right p (r ∷ ps) p h.0 h.1 h.0) balanced

    left_of_all : (wind q ss ≡ pos 0 → ⊥) → (ts : List Segment)
        → AllByRecursion (λ s. AllByRecursion (λ c. IsOver c s) corners) ts
        → AllByRecursion (λ s. IsOnLine q s → ⊥) ts → AllByRecursion (IsLeftOf q) ts
    left_of_all n [] h o = tt
    left_of_all n (s ∷ ts) h o = (
      by_lt_z (pos 0) (side_by q s.from s.to) (λ k. k)
          (λ k. by_lt_z (side_by q s.from s.to) (pos 0) (λ l. absurd (n (unwound_by s h.0 l)))
          (λ l. absurd (o.0 (level (side_by q s.from s.to) k l)))),
      left_of_all n ts h.1 o.1,
    )
      where
        level : (z : ℤ) → z ≤ℤ pos 0 → pos 0 ≤ℤ z → z ≡ pos 0
        level z h k = omega (arith, ints)

    all_left : (ts : List Segment) → AllByRecursion (λ s. AllByRecursion (λ c. IsOver c s) corners) ts
        → AllByRecursion (IsLeftOf q) ts → AllByRecursion (HasLeft q d) ts
    all_left [] h l = tt
    all_left (s ∷ ts) h l = (has_left s h.0.0.from h.0.0.to l.0, all_left ts h.1 l.1)

    wound : AllByRecursion (IsLeftOf q) ss → wind q ss ≡ pos 0 → ⊥
    wound l e =
        let w = winds q d (record { from = whole (outline_point p); to = whole (outline_point r) })
        (segments (path (outline_point r) (map outline_point ps) (outline_point p))) (all_left ss each_over l)
        balanced in
        none (wind q ss) w e
      where
        none : (z : ℤ) → pos 1 ≤ℤ z → z ≡ pos 0 → ⊥
        none z h e = omega (arith, ints)

    pub held : All (λ s. IsOnLine q s → ⊥) ss → (wind q ss ≢ pos 0) ↔ All (IsLeftOf q) ss
    held off = (
      (λ n. All-from_recursion (IsLeftOf q) ss
          (left_of_all n ss each_over (recursion_of (λ s. IsOnLine q s → ⊥) ss off))),
      (λ l e. wound (recursion_of (IsLeftOf q) ss l) e),
    )

too_few : {X : Type 0} (a : X) → 3 ≤ length (a ∷ []) → ⊥
too_few a h = omega arith

of_ring : (points ring : List (ℤ × ℤ)) → IsConvexRing flat_left IsFlatBefore points ring → (q : Point)
    → pos 0 <ℤ q.d → All (λ s. IsOnLine q s → ⊥) (ring_sides ring)
    → (wind q (ring_sides ring) ≢ pos 0) ↔ All (IsLeftOf q) (ring_sides ring)
of_ring points [] h q d off = absurd h.starts
of_ring points (a ∷ []) h q d off = absurd (too_few a h.three)
of_ring points (a ∷ (b ∷ ps)) h q d off =
    held q d a b ps
    (recursion_of (λ c. IsRightOfNone flat_left c (round (a ∷ (b ∷ ps)))) (a ∷ (b ∷ ps))
    (λ k e i. All-contains (λ c. IsRightOfNone flat_left c (round (a ∷ (b ∷ ps)))) points _ h.holds
    (h.corners k e i))) off

pub rings_hold : RingsHold
rings_hold = record {
  each = λ points ring e q d off. of_ring points ring (rings_are_convex.each points ring e) q d
      off;
}
