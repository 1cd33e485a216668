-- Both coordinates by their calls, over the numbers of the points as they are handed on.
use Rattle.std.proofs.Common.{◌≡◌, ◌≤◌, ℤ, unsigned_abs, refl, ap₂, ◌∙◌, to_z, of_z, arith}
use Rattle.std.proofs.lemmas.Int.{to_z-of_z}
use mir.Syntax.{w32, w128}
use Rattle.scad_geom.specs.declared.point.Pt.{Pt}
use Rattle.scad_geom.specs.Limits.{point_limit}
use Rattle.scad_geom.specs.Rounding.{half_down}
use Rattle.scad_geom.proofs.Casts.{by_cast, handed}
use Rattle.slice_section.proofs.Weights.{apart_by, weighted_by, between_by}
use Rattle.slice_section.proofs.cut.point_between.Goals as goal

kept : (z : ℤ) → unsigned_abs z ≤ point_limit → to_z w32 (of_z w32 z) ≡ z
kept z small = handed w32 z (omega (arith, small)) refl

pub coordinate_at-requires-clause-heights : goal.coordinate_at-requires-clause-heights
coordinate_at-requires-clause-heights c =
    let low = c.args.lower.z in
    let high = c.args.upper.z in
    between_by (to_z w128 (of_z w128 c.args.plane)) (to_z w32 (of_z w32 low)) (to_z w32 (of_z w32 high)) c.args.plane
    low high (to_z-of_z w128 c.args.plane c.ranges.plane) (kept low c.requires.heights.small_low)
    (kept high c.requires.heights.small_high) c.requires.heights

pub coordinate_at-requires-2-clause-heights : goal.coordinate_at-requires-2-clause-heights
coordinate_at-requires-2-clause-heights c =
    let low = c.args.lower.z in
    let high = c.args.upper.z in
    between_by (to_z w128 (of_z w128 c.args.plane)) (to_z w32 (of_z w32 low)) (to_z w32 (of_z w32 high)) c.args.plane
    low high (to_z-of_z w128 c.args.plane c.ranges.plane) (kept low c.requires.heights.small_low)
    (kept high c.requires.heights.small_high) c.requires.heights

pub returns : goal.returns
returns c =
    let l = c.args.lower in
    let u = c.args.upper in
    let plane = to_z-of_z w128 c.args.plane c.ranges.plane in
    let low = kept l.z c.requires.heights.small_low in
    let high = kept u.z c.requires.heights.small_high in
    let point : ℤ → ℤ → Pt = λ x y. record { x = x; y = y } in
    ap₂ point
    (by_cast w32 c.coordinate_at.type_inv (c.coordinate_at.ensures ∙ ap₂ half_down
    (weighted_by (kept l.x c.requires.lower_x) (kept u.x c.requires.upper_x) low high plane) (apart_by high low)))
    (by_cast w32 c.coordinate_at-2.type_inv (c.coordinate_at-2.ensures ∙ ap₂ half_down
    (weighted_by (kept l.y c.requires.lower_y) (kept u.y c.requires.upper_y) low high plane) (apart_by high low)))
