-- The cursors stand on the same front.
use Rattle.std.proofs.lemmas.Result.{on_ok_weaker}
use Rattle.slice_outlines.proofs.Refitting.{refitted}
use Rattle.slice_outlines.proofs.sweep.Sweep.fit_cursors.Goals as goal

pub returns : goal.returns
returns c = on_ok_weaker c.fit.result (λ fitted levels left w.
    refitted c.args.edges.now c.args.shape.now levels left c.fit.new.self c.args.self.now (fitted w.cursors) w)
    c.fit.ensures
