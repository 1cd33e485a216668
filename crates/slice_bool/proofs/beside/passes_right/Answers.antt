-- The gap on the spot's own divisor.
use Rattle.std.proofs.Common.{◌∙◌, pos}
use Rattle.slice_border.specs.declared.stop.Stop.{Stop}
use Rattle.slice_border.proofs.RightOf.{right_of}
use Rattle.slice_bool.proofs.beside.passes_right.Goals as goal

pub returns : goal.returns
returns c =
    let s : Stop = c.args.s.now in
    c.lies_right.ensures ∙ right_of c.args.e.now s.spot.x s.spot.at.n s.spot.at.d (pos s.spot.run)
