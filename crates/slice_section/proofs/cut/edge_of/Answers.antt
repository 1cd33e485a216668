use Rattle.std.proofs.Common.{Some, ap₂, ◌∙◌}
use Rattle.std.proofs.lemmas.Int.{to_z-of_z}
use Rattle.scad_geom.specs.declared.point.Pt.{Pt}
use Rattle.scad_geom.specs.declared.point.Edge.{Edge}
use Rattle.slice_section.proofs.SideCuts.{edge-found}
use Rattle.slice_section.proofs.cut.edge_of.Goals as goal

pub returns : goal.returns
returns c =
    let plane_fits = c.ranges.plane in
    let from = simp to_z-of_z at c.point_between.ensures in
    let to = simp to_z-of_z at c.point_between-2.ensures in
    let edge : Pt → Pt → Edge = λ a b. record { a = a; b = b } in
    ap₂ (λ a b. Some (edge a b)) from to
    ∙ edge-found c.args.plane c.args.triangle.now c.in_ok-falling.falling c.in_ok-rising.rising
    (simp to_z-of_z at c.in_ok-falling.ensures.first) (simp to_z-of_z at c.in_ok-rising.ensures.first)
