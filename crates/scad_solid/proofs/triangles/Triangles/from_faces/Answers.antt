use Rattle.std.proofs.Common.{ap, sym, ◌∙◌}
use Rattle.std.specs.List.{list_all}
use Rattle.scad_solid.specs.Range.{is_triangle_in_range}
use Rattle.scad_solid.specs.Surface.{is_closed}
use Rattle.scad_solid.proofs.InRange.{fans_in_range}
use Rattle.scad_solid.proofs.triangles.Triangles.from_faces.Goals as goal

pub invariant_of-result : goal.invariant_of-result
invariant_of-result c = record {
  closed = ap is_closed (sym c.as_slice.ensures.value) ∙ sym c.in-Ok-true.ensures ∙ c.in-Ok-true.field-0-test;
  in_range = ap (list_all is_triangle_in_range) c.in-Ok.ensures ∙ fans_in_range c.args.points.now c.args.faces.now
      (sym c.if-not-all_in_range.ensures);
}
