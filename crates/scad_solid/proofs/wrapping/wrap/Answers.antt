use Rattle.std.proofs.Common.{ap, ◌∙◌}
use Rattle.std.specs.List.{list_all}
use Rattle.scad_solid.specs.Range.{is_triangle_in_range}
use Rattle.scad_solid.specs.Surface.{is_closed}
use Rattle.scad_solid.proofs.ClosedWays.{is_closed-wrapped, wrapped_in_range}
use Rattle.scad_solid.proofs.wrapping.wrap.Goals as goal

pub from_closed-requires : goal.from_closed-requires
from_closed-requires c = record {
  closed = ap is_closed c.in_ok-wrapped.ensures ∙ is_closed-wrapped c.args.rings.now c.requires.alike;
  in_range = ap (list_all is_triangle_in_range) c.in_ok-wrapped.ensures ∙ wrapped_in_range c.args.rings.now
      c.requires.in_range;
}
