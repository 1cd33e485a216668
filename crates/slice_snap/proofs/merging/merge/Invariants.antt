use Rattle.slice_snap.specs.Chains.{AreChained}
use Rattle.slice_snap.proofs.merging.merge.Given as goal

abbrev pub invariant-pieces : goal.invariant-pieces
invariant-pieces l = AreChained l.pieces l.chains l.place
