-- What the plane meets is a face's, or lies on a line about which it is turned again.
use Rattle.std.proofs.Common.{sym, ◌∙◌, subst}
use Rattle.std.specs.List.{Contains}
use Rattle.scad_hull.proofs.FirstSteps.{small_in, some_met, met_points, met_small, third_plane, edge_there}
use Rattle.scad_hull.proofs.first.turned_on.Goals as goal

pub off-requires-clause-points : goal.off-requires-clause-points
off-requires-clause-points c =
    met_small c.args.cloud.now.points.now c.args.a c.beside-b.result c.beside-b.ensures.value c.args.normal
    c.requires.turned
    c.requires.has
    c.as_slice.result.now (c.as_slice.ensures.value ∙ c.in_ok-met.ensures) c.requires.points

pub returns-in_default : goal.returns-in_default
returns-in_default c = record {
  narrow = tt;
  plane = tt;
  none = some_met c.args.cloud.now.points.now c.args.a c.beside-b.result c.beside-b.ensures.value c.args.normal
      c.requires.turned
      c.requires.has
      c.as_slice.result.now (c.as_slice.ensures.value ∙ c.in_ok-met.ensures) c.in_default.ensures.none;
}

pub off-requires-2-clause-points : goal.off-requires-2-clause-points
off-requires-2-clause-points c =
    met_small c.args.cloud.now.points.now c.args.a c.beside-b.result c.beside-b.ensures.value c.args.normal
    c.requires.turned
    c.requires.has
    c.as_slice-2.result.now (c.as_slice-2.ensures.value ∙ c.in_ok-met.ensures) c.requires.points

pub off-requires-2-clause-b : goal.off-requires-2-clause-b
off-requires-2-clause-b c =
    small_in c.args.cloud.now.points.now c.in-Some.d c.requires.points
    (met_points c.args.cloud.now.points.now c.args.a c.beside-b.result c.beside-b.ensures.value c.args.normal
    c.requires.turned
    c.requires.has
    c.as_slice.result.now (c.as_slice.ensures.value ∙ c.in_ok-met.ensures) c.in-Some.d c.in-Some.ensures.some)

pub returns-in-Some-off : goal.returns-in-Some-off
returns-in-Some-off c = record {
  narrow = c.requires.narrow;
  plane = third_plane c.args.cloud.now.points.now c.args.a c.beside-b.result c.beside-b.ensures.value c.args.normal
      c.requires.turned c.requires.has
      c.as_slice-2.result.now (c.as_slice-2.ensures.value ∙ c.in_ok-met.ensures) c.in-Some.d
      (subst (λ xs. Contains xs c.in-Some.d) (c.as_slice.ensures.value ∙ sym c.as_slice-2.ensures.value)
      c.in-Some.ensures.some)
      c.in-Some.ensures.off c.in-Some-off.field-0 c.in-Some-off.ensures.some c.in-Some-off.ensures.off;
  none = tt;
}

pub turned_again-requires : goal.turned_again-requires
turned_again-requires c = record {
  points = c.requires.points;
  has_a = c.requires.has;
  has_d = met_points c.args.cloud.now.points.now c.args.a c.beside-b.result c.beside-b.ensures.value c.args.normal
      c.requires.turned c.requires.has
      c.as_slice.result.now (c.as_slice.ensures.value ∙ c.in_ok-met.ensures) c.in-Some.d c.in-Some.ensures.some;
  edge = edge_there c.args.cloud.now.points.now c.args.a c.beside-b.result c.beside-b.ensures.value c.args.normal
      c.requires.turned c.requires.has
      c.as_slice-2.result.now (c.as_slice-2.ensures.value ∙ c.in_ok-met.ensures) c.in-Some.d
      (subst (λ xs. Contains xs c.in-Some.d) (c.as_slice.ensures.value ∙ sym c.as_slice-2.ensures.value)
      c.in-Some.ensures.some)
      c.in-Some.ensures.off c.in-None.ensures.none;
}

pub returns : goal.returns
returns c = record {
  narrow = c.turned_again.ensures.narrow;
  plane = c.turned_again.ensures.plane;
  none = c.turned_again.ensures.none;
}
