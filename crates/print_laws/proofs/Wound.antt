-- Points round which outlines wind lie no farther than the outlines' points do.
use Rattle.std.proofs.Common.{◌≤◌, inl, inr, ◌≢◌, ℕ, List, flat_map, arith, ℤ, pos, ◌-ℤ◌}
use Rattle.std.specs.Prelude.{All, unsigned_abs}
use Rattle.std.proofs.lemmas.Int.{ints}
use Rattle.std.proofs.lemmas.List.Elements.{All-weaker}
use Rattle.scad_geom.specs.declared.point.Pt.{Pt}
use Rattle.scad_geom.specs.declared.point.Edge.{Edge}
use Rattle.scad_geom.specs.Limits.{point_limit}
use Rattle.scad_geom.specs.Loop.{sides}
use Rattle.scad_geom.specs.Point.{whole}
use Rattle.scad_geom.specs.Segment.{segments}
use Rattle.scad_geom.specs.Winding.{wind}
use Rattle.scad_geom.specs.Within.{IsWithin, IsEdgeWithin}
use Rattle.scad_geom.proofs.Rising.{order}
use Rattle.winding_laws.specs.Points.{IsOn}
use Rattle.plan_infill.specs.Extent.{IsEdgeAmong}
use Rattle.plan_infill.specs.Runs.{IsDeep, point_on}
use Rattle.plan_infill.proofs.DeepRuns.{deep_by_nothing}
use Rattle.plan_infill.proofs.Extents.{edges_among}
use Rattle.plan_sides.proofs.Within.{outlines_within}
use Rattle.plan_layer.specs.Infill.{has_rows, line_at}
use Rattle.plan_layer.specs.Clearance.{PathsKeepClear}
use Rattle.plan_walls.specs.Clearance.{KeepsClear}
use Rattle.plan_layer.specs.Moves.{all_moves}
use Rattle.plan_layer.proofs.Beyond.{nothing_beyond}

abbrev least : ℤ
least = pos 0 -ℤ pos point_limit

abbrev most : ℤ
most = pos point_limit

-- the ends of a segment are points of it
pub starts_on : (a b : Pt) → IsOn (whole a) (whole b) (whole a)
starts_on a b = record {
  k = pos 1;
  s = pos 1;
  t = pos 0;
  positive = omega (arith, ints);
  first = omega (arith, ints);
  second = omega (arith, ints);
  some = omega (arith, ints);
  x = omega (arith, ints);
  y = omega (arith, ints);
  d = omega (arith, ints);
}

ends_on : (a b : Pt) → IsOn (whole a) (whole b) (whole b)
ends_on a b = record {
  k = pos 1;
  s = pos 0;
  t = pos 1;
  positive = omega (arith, ints);
  first = omega (arith, ints);
  second = omega (arith, ints);
  some = omega (arith, ints);
  x = omega (arith, ints);
  y = omega (arith, ints);
  d = omega (arith, ints);
}

module _ (outlines : List (List Pt)) (within : All (λ l. All (IsWithin point_limit) l) outlines) where
  among : (layer : ℕ) → All (IsEdgeAmong (has_rows layer) least most) (flat_map sides outlines)
  among layer =
      edges_among (has_rows layer) point_limit (flat_map sides outlines) (outlines_within point_limit outlines within)

  not_beyond : (layer : ℕ) (z t : ℤ) → IsDeep outlines 0 (point_on (line_at layer z) t) → unsigned_abs z ≤ point_limit
  not_beyond layer z t d = elim (order least z) [
    | inr o ↦ absurd (nothing_beyond outlines layer least most z t (inl o) (among layer) 0 d)
    | inl o ↦ elim (order z most) [
      | inr k ↦ absurd (nothing_beyond outlines layer least most z t (inr k) (among layer) 0 d)
      | inl k ↦ omega (arith, ints, o, k)
    ]
  ]

  wound_within : (p : Pt) → wind (whole p) (segments (flat_map sides outlines)) ≢ pos 0 → IsWithin point_limit p
  wound_within p h =
      let d = deep_by_nothing outlines p h in
      record { x = not_beyond 1 p.x p.y d; y = not_beyond 0 p.y p.x d }

  -- ---- the ends of moves that keep a distance
  kept_within : (c : ℕ) (e : Edge) → KeepsClear outlines c e → IsEdgeWithin point_limit e
  kept_within c e k = record {
    a = wound_within e.a (k (whole e.a) (omega (arith, ints)) (starts_on e.a e.b)).inside;
    b = wound_within e.b (k (whole e.b) (omega (arith, ints)) (ends_on e.a e.b)).inside;
  }

  pub moves_within : (c : ℕ) (paths : List (List Pt)) → PathsKeepClear outlines c paths
      → All (IsEdgeWithin point_limit) (all_moves paths)
  moves_within c paths k =
      All-weaker (KeepsClear outlines c) (IsEdgeWithin point_limit) (kept_within c) (all_moves paths) k
