use Rattle.std.proofs.Common.{arith, sym, ◌∙◌}
use Rattle.scad_scope.specs.View.{frame_listed, frame_stored, listed, stored}
use Rattle.scad_scope.proofs.Finding.{names-index}
use Rattle.scad_scope.proofs.frames.Frames.names.Goals as goal

pub returns : goal.returns
unfolding frame_listed frame_stored listed stored
returns c =
    c.names.ensures
    ∙ sym (names-index c.args.self.now.frames.items c.args.at c.index.result.now (omega arith) c.index.ensures)
