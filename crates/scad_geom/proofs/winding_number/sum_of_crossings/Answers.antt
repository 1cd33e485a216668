-- The turns so far and what is left make the whole, and the sizes of what is handed on.
use Rattle.std.proofs.Common.{◌+◌, ℤ, ◌+ℤ◌, to_z, drop, ap, sym, ◌∙◌, arith}
use Rattle.std.proofs.lemmas.Int.{to_z-of_z}
use Rattle.std.proofs.lemmas.List.{at_drop_all}
use Rattle.std.proofs.Math.IntN.{+ℤ_idl, +ℤ_idr}
use Rattle.scad_geom.specs.Point.{halves}
use Rattle.scad_geom.specs.Segment.{segments}
use Rattle.scad_geom.specs.Winding.{wind}
use Rattle.scad_geom.proofs.Casts.{sizes, by_cast}
use Rattle.scad_geom.proofs.Crossings.{wind_more}
use Rattle.scad_geom.proofs.winding_number.sum_of_crossings.Goals as goal
use mir.Syntax.{w64}

pub crossing-requires-clause-x : goal.crossing-requires-clause-x
crossing-requires-clause-x c = omega (arith, sizes)

pub crossing-requires-clause-y : goal.crossing-requires-clause-y
crossing-requires-clause-y c = omega (arith, sizes)

pub plus-sum-requires : goal.plus-sum-requires
plus-sum-requires c = record { fits = omega (arith, sizes) }

pub edges-init : goal.edges-init
edges-init c =
    record { small = omega arith; sum = sym (+ℤ_idl _) }

pub offset_bounds-edges-edge-index : goal.offset_bounds-edges-edge-index
offset_bounds-edges-edge-index c =
    omega arith

pub crossing-requires-clause-edge : goal.crossing-requires-clause-edge
crossing-requires-clause-edge c =
    c.requires.edges c.edges.edge-index _ c.edges-test.true

pub edges-preserved : goal.edges-preserved
edges-preserved c =
    let sum : ℤ = to_z w64 c.edges.sum-bits in
    let x = c.ranges.x in
    let y = c.ranges.y in
    let turned = simp to_z-of_z at c.crossing.ensures.value in
    record {
      small = omega (arith, sizes);
      sum = simp to_z-of_z (simp to_z-of_z at c.edges.invariant.sum
          ∙ wind_more c.args.edges.now c.edges.edge-index _ (halves c.args.x c.args.y) sum c.edges-test.true
          ∙ ap (λ z. z +ℤ wind (halves c.args.x c.args.y) (segments (drop (c.edges.edge-index + 1) c.args.edges.now)))
          (sym (by_cast w64 c.plus-sum.type_inv c.plus-sum.ensures.sum
          ∙ ap (λ z. sum +ℤ z) (by_cast w64 c.crossing.type_inv turned))));
    }

pub returns : goal.returns
returns c =
    let x = c.ranges.x in
    let y = c.ranges.y in
    sym (simp to_z-of_z at c.edges.invariant.sum
    ∙ ap (λ z. to_z w64 c.edges.sum-bits +ℤ z)
    (at_drop_all (λ left. wind (halves c.args.x c.args.y) (segments left)) c.args.edges.now c.edges.edge-index
    c.edges-test.false)
    ∙ +ℤ_idr _)
