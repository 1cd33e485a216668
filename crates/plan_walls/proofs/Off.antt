-- What a wall's shape holds, hard by a point, the outlines wind round and no ring does: so no side comes near to the
-- point.
use Rattle.std.proofs.Common.{◌≡◌, ℕ, zero, suc, ◌+◌, ◌≤◌, Bool, true, false, true≢false, not, ◌||◌, List, []}
use Rattle.std.proofs.Common.{◌∷◌, length, refl, sym, ◌∙◌, subst, arith, ℤ, pos, negsuc, ◌<ℤ◌}
use Rattle.std.specs.List.{AllByRecursion}
use Rattle.std.proofs.lemmas.Int.{ints}
use Rattle.std.proofs.lemmas.Bool.{and_parts, not-true}
use Rattle.scad_geom.specs.declared.point.Edge.{Edge}
use Rattle.scad_geom.specs.declared.level.LeafEdge.{LeafEdge}
use Rattle.scad_geom.specs.declared.shape.Shape.{Shape}
use Rattle.scad_geom.specs.Point.{Point, whole}
use Rattle.scad_geom.specs.Segment.{segments}
use Rattle.scad_geom.specs.Winding.{wind_by}
use Rattle.scad_geom.specs.Leaves.{edges_of}
use Rattle.scad_geom.specs.Shape.{is_in_by}
use Rattle.scad_geom.specs.Sign.{is_zero}
use Rattle.scad_ring.specs.Octagon.{octagon_of}
use Rattle.scad_ring.specs.Nearness.{Open, IsClear}
use Rattle.plan_walls.specs.Walls.{rings_from, with_rings, some_inside, IsFirstWithout}
use Rattle.plan_walls.proofs.Round.{ring_winds}
use Rattle.plan_walls.proofs.Leaves.{outline_leaf, ring_leaf, first_ring, later_ring}

-- no point of an edge is near to b by the octagon of c without its border
abbrev pub IsOff : ℕ → Point → Edge → Type 0
IsOff c b e = IsClear Open (octagon_of c) b (whole e.a) (whole e.b)

-- whether a leaf holds what lies hard by a point
abbrev is_inside : Bool → Bool → Point → List LeafEdge → ℕ → Bool
is_inside above right b all leaf = not (is_zero (wind_by above right b (segments (edges_of leaf all))))

not_wound : (z : ℤ) → not (is_zero z) ≡ false → pos 0 <ℤ z → ⊥
not_wound (pos zero) h p = omega (arith, ints, p)
not_wound (pos (suc n)) h p = true≢false h
not_wound (negsuc n) h p = omega (arith, ints, p)

neither : (a b : Bool) → (a || b) ≡ false → (a ≡ false) × (b ≡ false)
neither true b h = absurd (true≢false h)
neither false b h = (refl, h)

module _ (c : ℕ) (some : 1 ≤ c) (above right : Bool) (b : Point) (db : pos 0 <ℤ b.d) where
  rings_off : (all : List LeafEdge) (k : ℕ) (es : List Edge)
      → ((leaf : ℕ) → k ≤ leaf → edges_of leaf all ≡ edges_of leaf (rings_from c k es))
      → some_inside (is_inside above right b all) k (length es) ≡ false → AllByRecursion (IsOff c b) es
  rings_off all k [] same h = tt
  rings_off all k (e ∷ es) same h =
      let parts = neither (is_inside above right b all k)
      (some_inside (is_inside above right b all) (k + 1) (length es)) h in (
        (λ s t from to more near.
            not_wound (wind_by above right b (segments (edges_of k all))) parts.0
            (subst (λ (fs : List Edge). pos 0 <ℤ wind_by above right b (segments fs))
            (sym (same k (omega arith) ∙ first_ring c k e es)) (ring_winds c some e b db
            (record { s = s; t = t; from = from; to = to; some = more; near = near }) above right))),
        rings_off all (k + 1) es
            (λ leaf least. same leaf (omega (arith, least)) ∙ later_ring c leaf k e es (omega (arith, least)))
            parts.1,
      )

  -- what the shape holds, the outlines wind round, off each of their sides
  pub held_off : (es : List Edge) (shape : Shape) → IsFirstWithout (length es) shape
      → is_in_by above right (with_rings c es) shape b ≡ true
      → (not (is_zero (wind_by above right b (segments es))) ≡ true) × AllByRecursion (IsOff c b) es
  unfolding is_in_by
  held_off es shape first held =
      let inside : ℕ → Bool = is_inside above right b (with_rings c es) in
      let parts = and_parts (inside 0) (not (some_inside inside 1 (length es))) (sym (first inside) ∙ held) in (
        subst (λ (fs : List Edge). not (is_zero (wind_by above right b (segments fs))) ≡ true)
            (outline_leaf c es) parts.0,
        rings_off (with_rings c es) 1 es (λ leaf least. ring_leaf c leaf es least)
            (not-true (some_inside inside 1 (length es)) parts.1),
      )
