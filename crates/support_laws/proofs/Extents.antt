-- Outlines wind round no point that lies farther out than all of their sides.
use Rattle.std.proofs.Common.{ℕ, ◌+◌, ◌≤◌, List, [], ◌∷◌, flat_map, arith, ℤ, pos, ◌-ℤ◌, ◌<ℤ◌}
use lib.Signed.{◌≤ℤ◌}
use Rattle.std.specs.Prelude.{All}
use Rattle.std.proofs.lemmas.Int.{ints}
use Rattle.std.proofs.lemmas.List.Elements.{All-nil, All-cons, All-weaker, All-contains}
use Rattle.scad_geom.specs.declared.point.Pt.{Pt}
use Rattle.scad_geom.specs.Loop.{sides}
use Rattle.scad_geom.specs.Within.{IsWithin, IsEdgeWithin}
use Rattle.scad_geom.proofs.Rising.{by_order, order}
use Rattle.plan_infill.proofs.Beyond.{below_all, above_all, left_of_all, right_of_all, extent, extent_within}
use Rattle.plan_infill.proofs.Extents.{edges_wider}
use Rattle.plan_support.specs.Spans.{point_at, IsWound}
use Rattle.support_laws.specs.Supports.{IsBelow}

-- all sides lie within a limit
abbrev pub AreWithin : ℕ → List (List Pt) → Type 0
AreWithin limit outlines = All (IsEdgeWithin limit) (flat_map sides outlines)

module _ (limit : ℕ) (outlines : List (List Pt)) (within : AreWithin limit outlines) (x y : ℤ)
    (wound : IsWound outlines (point_at x y)) where
  not_left : (pos 0 -ℤ pos limit) ≤ℤ x
  not_left = by_order (order (pos 0 -ℤ pos limit) x) (λ o. o) (λ o. absurd (wound (left_of_all x y outlines
      (All-weaker (IsEdgeWithin limit) (λ e. (x <ℤ e.a.x) × (x <ℤ e.b.x))
      (λ e k. let f = k.a.x in let g = k.b.x in (omega (arith, ints, f, o), omega (arith, ints, g, o)))
      (flat_map sides outlines) within))))

  not_right : x ≤ℤ pos limit
  not_right = by_order (order x (pos limit)) (λ o. o) (λ o. absurd (wound (right_of_all x y (flat_map sides outlines)
      (All-weaker (IsEdgeWithin limit) (λ e. (e.a.x ≤ℤ x) × (e.b.x ≤ℤ x))
      (λ e k. let f = k.a.x in let g = k.b.x in (omega (arith, ints, f, o), omega (arith, ints, g, o)))
      (flat_map sides outlines) within))))

  not_below : (pos 0 -ℤ pos limit) ≤ℤ y
  not_below = by_order (order (pos 0 -ℤ pos limit) y) (λ o. o) (λ o. absurd (wound (below_all x y
      (flat_map sides outlines) (All-weaker (IsEdgeWithin limit) (λ e. (y <ℤ e.a.y) × (y <ℤ e.b.y))
      (λ e k. let f = k.a.y in let g = k.b.y in (omega (arith, ints, f, o), omega (arith, ints, g, o)))
      (flat_map sides outlines) within))))

  not_above : y ≤ℤ pos limit
  not_above = by_order (order y (pos limit)) (λ o. o) (λ o. absurd (wound (above_all x y (flat_map sides outlines)
      (All-weaker (IsEdgeWithin limit) (λ e. (e.a.y ≤ℤ y) × (e.b.y ≤ℤ y))
      (λ e k. let f = k.a.y in let g = k.b.y in (omega (arith, ints, f, o), omega (arith, ints, g, o)))
      (flat_map sides outlines) within))))

  pub wound_within : IsWithin limit (point_at x y)
  wound_within =
      let l = not_left in
      let r = not_right in
      let b = not_below in
      let a = not_above in
      record { x = omega (arith, ints, l, r); y = omega (arith, ints, b, a) }

-- of some layers
pub below_within : (limit : ℕ) (above : List (List (List Pt))) → All (AreWithin limit) above → (x y : ℤ)
    → IsBelow above (point_at x y) → IsWithin limit (point_at x y)
below_within limit above within x y b =
    wound_within limit b.outlines (All-contains (AreWithin limit) above b.outlines within b.there) x y b.wound

-- a number that is at least as great in size as all coordinates of all layers
abbrev pub extents : List (List (List Pt)) → ℕ
extents [] = 0
extents (o ∷ os) = extent (flat_map sides o) + extents os

all_within : (n : ℕ) (above : List (List (List Pt))) → extents above ≤ n → All (AreWithin n) above
all_within n [] h = All-nil (AreWithin n)
all_within n (o ∷ os) h =
    All-cons (AreWithin n) o os
    (edges_wider (extent (flat_map sides o)) n (omega (arith, h)) (flat_map sides o)
    (extent_within (flat_map sides o)))
    (all_within n os (omega (arith, h)))

pub extents_within : (above : List (List (List Pt))) → All (AreWithin (extents above)) above
extents_within above = all_within (extents above) above (omega arith)
