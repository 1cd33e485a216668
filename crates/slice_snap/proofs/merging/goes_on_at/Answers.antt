-- Two pieces of a list whose ends can be compared.
use Rattle.slice_snap.specs.Chains.{no_piece}
use Rattle.slice_snap.proofs.merging.goes_on_at.Goals as goal

pub goes_on-requires-clause-comparable : goal.goes_on-requires-clause-comparable
goes_on-requires-clause-comparable c = c.requires.comparable c.args.next no_piece c.requires.there
