use Rattle.std.proofs.Common.{◌≡◌, ◌-◌, length, None}
use Rattle.layer_board.specs.Calls.{view, layers_of, IsOf}
use Rattle.slice_work.specs.Part.{Part}
use Rattle.slice_work.specs.Shares.{IsNoted, AreDrawnOf, AreWithin, SkipsAbove}
use Rattle.slice_work.proofs.Noting.{IsDrawnBefore}
use Rattle.slice_work.proofs.worker.share.Given as goal

abbrev pub invariant-layers : goal.invariant-layers
invariant-layers g l = record {
  «of» : IsOf l.board l.pass;
  free : (view l.pass).pending ≡ None;
  members : (view l.pass).members ≡ (view l.fn.pass).members;
  noted : IsNoted l.first (view l.pass) l.done.items;
  drawn : (part : Part) → g.W.LayerWork.draws l.work part → AreDrawnOf part l.done.items;
  within : AreWithin l.done.items;
  skips : SkipsAbove (view l.pass);
  before : IsDrawnBefore (view l.pass);
}

abbrev pub decreases-layers : goal.decreases-layers
decreases-layers g l = layers_of l.board - length (view l.pass).drawn
