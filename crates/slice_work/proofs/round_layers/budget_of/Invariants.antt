use Rattle.std.proofs.Common.{Contains, drop}
use Rattle.slice_work.specs.Shares.{over_numbers}
use Rattle.slice_work.proofs.round_layers.budget_of.Given as goal

-- the layer is among those that are left
abbrev pub invariant-layers : goal.invariant-layers
invariant-layers l = Contains (over_numbers l.round.first (drop l.drawn-index l.round.done.items)) l.round.least
