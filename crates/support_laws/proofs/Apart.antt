-- An exact point of a row less than one micrometre behind a free whole point stands apart by one micrometre less.
use Rattle.std.proofs.Common.{◌≡◌, ℕ, ◌-◌, ◌*◌, ◌<◌, true, List, [], ◌∷◌, refl, subst, ◌∙◌, flat_map, arith, ℤ, pos, ◌+ℤ◌, ◌-ℤ◌, ◌*ℤ◌, ◌<ℤ◌}
use lib.Signed.{◌≤ℤ◌}
use Rattle.std.specs.Prelude.{All}
use Rattle.std.proofs.lemmas.Int.{ints}
use Rattle.std.proofs.lemmas.List.Elements.{All-weaker, All-map}
use Rattle.scad_geom.specs.declared.point.Pt.{Pt}
use Rattle.scad_geom.specs.declared.point.Edge.{Edge}
use Rattle.scad_geom.specs.Loop.{sides}
use Rattle.scad_geom.specs.Near.{mean, IsHalf, IsClose, IsClear}
use Rattle.scad_geom.specs.Point.{Point, whole}
use Rattle.scad_geom.specs.Segment.{segment_of, segments}
use Rattle.scad_geom.specs.Winding.{wind}
use Rattle.scad_geom.proofs.Ring.{ring, num, ◌⊕◌, ◌⊖◌, ◌⊗◌, v0, v1, v2, v3, v4, v5}
use Rattle.scad_geom.proofs.Signs.{at_least_mul, at_least_left}
use Rattle.winding_laws.specs.Nearness.{IsClearSegment}
use Rattle.winding_laws.proofs.OneWinding.{squares_have_one_winding}
use Rattle.plan_infill.specs.Quotient.{IsFloor}
use Rattle.plan_sides.proofs.Closure.{sides_balanced}
use Rattle.plan_support.specs.Spans.{point_at}
use Rattle.plan_support.specs.Supports.{IsFree}
use Rattle.support_laws.specs.Apart.{StandsApart}

-- ---- along one axis: m / w lies by h halves from n / d, and this by less than one behind p
most_gap : (h m w n d p : ℤ) → ((h +ℤ pos 2) *ℤ (w *ℤ pos 1) -ℤ pos 2 *ℤ (m *ℤ pos 1 -ℤ p *ℤ w)) *ℤ d
    ≡ (h *ℤ (w *ℤ d) -ℤ pos 2 *ℤ (m *ℤ d -ℤ n *ℤ w)) +ℤ pos 2 *ℤ (((p *ℤ d +ℤ d) -ℤ n) *ℤ w)
most_gap h m w n d p = ring (h ∷ m ∷ w ∷ n ∷ d ∷ p ∷ [])
    (((v0 ⊕ num (pos 2)) ⊗ (v2 ⊗ num (pos 1)) ⊖ num (pos 2) ⊗ (v1 ⊗ num (pos 1) ⊖ v5 ⊗ v2)) ⊗ v4)
    ((v0 ⊗ (v2 ⊗ v4) ⊖ num (pos 2) ⊗ (v1 ⊗ v4 ⊖ v3 ⊗ v2)) ⊕ num (pos 2) ⊗ (((v5 ⊗ v4 ⊕ v4) ⊖ v3) ⊗ v2)) refl

least_gap : (h m w n d p : ℤ) → (pos 2 *ℤ (m *ℤ pos 1 -ℤ p *ℤ w) +ℤ (h +ℤ pos 2) *ℤ (w *ℤ pos 1)) *ℤ d
    ≡ ((pos 2 *ℤ (m *ℤ d -ℤ n *ℤ w) +ℤ h *ℤ (w *ℤ d)) +ℤ pos 2 *ℤ ((n -ℤ p *ℤ d) *ℤ w)) +ℤ pos 2 *ℤ (w *ℤ d)
least_gap h m w n d p = ring (h ∷ m ∷ w ∷ n ∷ d ∷ p ∷ [])
    ((num (pos 2) ⊗ (v1 ⊗ num (pos 1) ⊖ v5 ⊗ v2) ⊕ (v0 ⊕ num (pos 2)) ⊗ (v2 ⊗ num (pos 1))) ⊗ v4)
    (((num (pos 2) ⊗ (v1 ⊗ v4 ⊖ v3 ⊗ v2) ⊕ v0 ⊗ (v2 ⊗ v4)) ⊕ num (pos 2) ⊗ ((v3 ⊖ v5 ⊗ v4) ⊗ v2))
    ⊕ num (pos 2) ⊗ (v2 ⊗ v4)) refl

-- so it lies by one micrometre more from p at most
half_more : (h m w n d p : ℤ) → pos 0 <ℤ w → pos 0 <ℤ d → (p *ℤ d) ≤ℤ n → n ≤ℤ (p *ℤ d +ℤ d)
    → IsHalf h (m *ℤ d -ℤ n *ℤ w) (w *ℤ d) → IsHalf (h +ℤ pos 2) (m *ℤ pos 1 -ℤ p *ℤ w) (w *ℤ pos 1)
half_more h m w n d p hw hd a b k =
    let f = k.from in
    let t = k.to in
    let over = at_least_mul ((p *ℤ d +ℤ d) -ℤ n) w (omega (arith, ints, b)) (omega (arith, ints, hw)) in
    let under = at_least_mul (n -ℤ p *ℤ d) w (omega (arith, ints, a)) (omega (arith, ints, hw)) in
    let size = at_least_mul w d (omega (arith, ints, hw)) (omega (arith, ints, hd)) in
    let mg = most_gap h m w n d p in
    let lg = least_gap h m w n d p in
    let most = at_least_left ((h +ℤ pos 2) *ℤ (w *ℤ pos 1) -ℤ pos 2 *ℤ (m *ℤ pos 1 -ℤ p *ℤ w)) d hd
    (omega (arith, ints, mg, over, t)) in
    let least = at_least_left (pos 2 *ℤ (m *ℤ pos 1 -ℤ p *ℤ w) +ℤ (h +ℤ pos 2) *ℤ (w *ℤ pos 1)) d hd
    (omega (arith, ints, lg, under, size, f)) in
    record { from = omega (arith, ints, least); to = omega (arith, ints, most) }

-- p lies by no more than h halves from what is less than one behind it
half_behind : (h n d p : ℤ) → pos 2 ≤ℤ h → pos 0 <ℤ d → (p *ℤ d) ≤ℤ n → n ≤ℤ (p *ℤ d +ℤ d)
    → IsHalf h (n *ℤ pos 1 -ℤ p *ℤ d) (d *ℤ pos 1)
half_behind h n d p two hd a b =
    let m = at_least_mul (h -ℤ pos 2) d (omega (arith, ints, two)) (omega (arith, ints, hd)) in
    let e : (h -ℤ pos 2) *ℤ d ≡ h *ℤ (d *ℤ pos 1) -ℤ pos 2 *ℤ d =
    ring (h ∷ d ∷ []) ((v0 ⊖ num (pos 2)) ⊗ v1) (v0 ⊗ (v1 ⊗ num (pos 1)) ⊖ num (pos 2) ⊗ v1) refl in
    record { from = omega (arith, ints, m, e, a, hd); to = omega (arith, ints, m, e, b) }

-- ---- of a free point
module _ (outlines : List (List Pt)) (gap : ℕ) (p y : ℤ) (q : Point) (hd : pos 0 <ℤ q.d) (floor : IsFloor q.x q.d p)
    (level : q.y ≡ y *ℤ q.d) (some : 0 < gap) (free : IsFree outlines gap (point_at p y)) where
  one : pos 0 <ℤ pos 1
  one = omega (arith, ints)

  close_more : (m : Point) → pos 0 <ℤ m.d → IsClose (pos (2 * (gap - 1))) q m
      → IsClose (pos (2 * gap)) (whole (point_at p y)) m
  close_more m hm c =
      let e : pos (2 * (gap - 1)) +ℤ pos 2 ≡ pos (2 * gap) = omega (arith, ints, some) in
      let a = floor.least in
      let b = floor.most in
      subst (λ (h : ℤ). IsClose h (whole (point_at p y)) m) e
      (record {
        across = half_more (pos (2 * (gap - 1))) m.x m.d q.x q.d p hm hd a (omega (arith, ints, b)) c.across;
        along = half_more (pos (2 * (gap - 1))) m.y m.d q.y q.d y hm hd (omega (arith, ints, level))
            (omega (arith, ints, level, hd)) c.along;
      })

  clear : All (λ (e : Edge). IsClear (pos (2 * (gap - 1))) q (whole e.a) (whole e.b)) (flat_map sides outlines)
  clear = All-weaker (λ (e : Edge). IsClear (pos (2 * gap)) (whole (point_at p y)) (whole e.a) (whole e.b))
      (λ (e : Edge). IsClear (pos (2 * (gap - 1))) q (whole e.a) (whole e.b))
      (λ e far s t from to weight near. far s t from to weight
      (close_more (mean s t (whole e.a) (whole e.b)) (omega (arith, ints, weight)) near))
      (flat_map sides outlines) free.clear

  close_itself : IsClose (pos (2 * gap)) (whole (point_at p y)) (whole (point_at p y))
  close_itself = record {
    across = record { from = omega (arith, ints); to = omega (arith, ints) };
    along = record { from = omega (arith, ints); to = omega (arith, ints) };
  }

  close_to : IsClose (pos (2 * gap)) (whole (point_at p y)) q
  close_to =
      let a = floor.least in
      let b = floor.most in
      let two : pos 2 ≤ℤ pos (2 * gap) = omega (arith, ints, some) in
      record {
        across = half_behind (pos (2 * gap)) q.x q.d p two hd a (omega (arith, ints, b));
        along = half_behind (pos (2 * gap)) q.y q.d y two hd (omega (arith, ints, level))
            (omega (arith, ints, level, hd));
      }

  clear_segments : All (IsClearSegment (pos (2 * gap)) (whole (point_at p y))) (segments (flat_map sides outlines))
  clear_segments = All-map (IsClearSegment (pos (2 * gap)) (whole (point_at p y))) segment_of (flat_map sides outlines)
      (λ i d l. record { proper = record { from = one; to = one }; clear = free.clear i d l })

  outside : wind q (segments (flat_map sides outlines)) ≡ pos 0
  outside =
      squares_have_one_winding (pos (2 * gap)) true true (whole (point_at p y)) (whole (point_at p y)) q one one hd
      close_itself close_to (segments (flat_map sides outlines)) (sides_balanced outlines) clear_segments
      ∙ free.outside

  pub stands_apart : StandsApart outlines (gap - 1) q
  stands_apart = record { outside = outside; clear = clear }
