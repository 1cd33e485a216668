-- The comparison of whole points is that of points.
use Rattle.std.proofs.Common.{not, sym, ap, ◌∙◌}
use Rattle.scad_geom.proofs.Balance.{same_whole}
use Rattle.slice_pieces.proofs.rounding.has_length.Goals as goal

pub returns : goal.returns
returns c = c.ne.ensures ∙ ap not (sym (same_whole c.args.e.now.a c.args.e.now.b))
