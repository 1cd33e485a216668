use Rattle.std.proofs.Common.{◌≡◌, take}
use Rattle.slice_snap.specs.Chains.{kept}
use Rattle.slice_snap.proofs.chains.Chains.wholes.Given as goal

abbrev pub invariant-places : goal.invariant-places
invariant-places l = l.wholes.items ≡ kept (take l.place l.self.gone.items) (take l.place l.self.wholes.items)
