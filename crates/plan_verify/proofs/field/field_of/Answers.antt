use Rattle.std.proofs.Common.{List, length, refl, ap, ◌∙◌, arith}
use Rattle.std.specs.Prelude.{flat_map}
use Rattle.scad_geom.specs.declared.point.Pt.{Pt}
use Rattle.scad_geom.specs.declared.point.Edge.{Edge}
use Rattle.scad_geom.specs.Loop.{sides}
use Rattle.plan_verify.proofs.Sound.{field_is}
use Rattle.plan_verify.proofs.field.field_of.Goals as goal

pub returns : goal.returns
returns c =
    let same = c.deref.ensures.value in
    let count = ap (λ (es : List Edge). length es) same in
    field_is c.args.layer.now _ c.deref.result.now refl c.in_ok-sides.ensures.sides
    (same ∙ c.in_ok-edges.ensures ∙ ap (λ (loops : List (List Pt)). flat_map sides loops) c.as_slice.ensures)
    c.in_ok-sides.ensures.boxed c.requires
    (omega (arith, count, c.in_ok-edges.edges.ok.0, c.in_ok-edges.edges.ok.1, c.in_ok-edges.edges.small))
