-- The two rings are the placed outlines, in range, and as long as each other.
use Rattle.std.proofs.Common.{◌≡◌, List, [], ◌∷◌, length, ap, ap₂, sym, ◌∙◌}
use Rattle.std.proofs.lemmas.List.{length-map}
use Rattle.scad_geom.specs.declared.point3.Pt3.{Pt3}
use Rattle.scad_matrix.specs.Matrix.{placed_point}
use Rattle.std.specs.List.{list_all}
use Rattle.scad_geom.specs.PointRange.{is_in_range}
use Rattle.scad_shapes.specs.Rings.{placed_ring, two_rings}
use Rattle.scad_shapes.proofs.Stacks.{ring_made, two_in_range, two_alike, solid_is, solid_counts}
use Rattle.scad_shapes.proofs.TriangleCount.{prism_count}
use Rattle.scad_shapes.proofs.prisms.prism.Goals as goal

pub solid-requires-clause-alike : goal.solid-requires-clause-alike
solid-requires-clause-alike c =
    let a = c.args in
    let upper = ring_made c.in_ok-upper.upper (placed_ring a.m.now a.high a.top.now) c.in_ok-upper.ensures in
    let lower = ring_made c.in_ok-lower.lower (placed_ring a.m.now a.low a.bottom.now) c.in_ok-lower.ensures in
    two_alike c.in_ok-upper.upper c.in_ok-lower.lower
    (ap length lower.0 ∙ length-map a.bottom.now (λ p. placed_point a.m.now p.0 p.1 a.low) ∙ c.requires.alike
    ∙ sym (length-map a.top.now (λ p. placed_point a.m.now p.0 p.1 a.high)) ∙ sym (ap length upper.0))

pub solid-requires-clause-in_range : goal.solid-requires-clause-in_range
solid-requires-clause-in_range c =
    let a = c.args in
    let upper = ring_made c.in_ok-upper.upper (placed_ring a.m.now a.high a.top.now) c.in_ok-upper.ensures in
    let lower = ring_made c.in_ok-lower.lower (placed_ring a.m.now a.low a.bottom.now) c.in_ok-lower.ensures in
    two_in_range c.in_ok-upper.upper c.in_ok-lower.lower
    (ap (list_all is_in_range) upper.0 ∙ upper.1) (ap (list_all is_in_range) lower.0 ∙ lower.1)

are : (c : goal.After-array_drop) → c.in_ok-upper.upper ∷ c.in_ok-lower.lower ∷ []
    ≡ two_rings c.args.m.now c.args.bottom.now c.args.top.now c.args.low c.args.high
are c =
    let a = c.args in
    let upper = ring_made c.in_ok-upper.upper (placed_ring a.m.now a.high a.top.now) c.in_ok-upper.ensures in
    let lower = ring_made c.in_ok-lower.lower (placed_ring a.m.now a.low a.bottom.now) c.in_ok-lower.ensures in
    ap₂ (λ (u l : List Pt3). u ∷ l ∷ []) upper.0 lower.0

pub returns-clause-solid : goal.returns-clause-solid
returns-clause-solid c =
    let a = c.args in
    let high = placed_ring a.m.now a.high a.top.now in
    let low = placed_ring a.m.now a.low a.bottom.now in
    let upper = ring_made c.in_ok-upper.upper high c.in_ok-upper.ensures in
    let lower = ring_made c.in_ok-lower.lower low c.in_ok-lower.ensures in
    solid_is c.solid.result _ _ (are c) c.solid.ensures (two_in_range high low upper.1 lower.1)

pub returns-clause-count : goal.returns-clause-count
returns-clause-count c =
    let a = c.args in
    solid_counts c.solid.result _ _ _ (are c) c.solid.ensures
    (prism_count a.m.now a.bottom.now a.top.now a.low a.high c.requires.alike c.requires.some)
