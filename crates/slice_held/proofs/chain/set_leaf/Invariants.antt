use Rattle.std.proofs.Common.{◌≡◌, map}
use Rattle.slice_held.specs.Cells.{bare, AreSound}
use Rattle.slice_held.proofs.Chains.{IsOn, IsSetFrom}
use Rattle.slice_held.proofs.chain.set_leaf.Given as goal

abbrev pub decreases-places : goal.decreases-places
decreases-places l = l.place

abbrev pub invariant-places : goal.invariant-places
invariant-places l = record {
  sound : AreSound l.cells.items;
  bare : map bare l.cells.items ≡ map bare l.fn.cells.items;
  on : IsOn l.fn.cells.items l.leaf l.place;
  set : IsSetFrom l.leaf l.inside l.place l.fn.cells.items l.cells.items;
}
