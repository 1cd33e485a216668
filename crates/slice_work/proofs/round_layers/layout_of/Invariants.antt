use Rattle.std.proofs.Common.{Contains, drop}
use Rattle.slice_work.specs.Shares.{made_numbers}
use Rattle.slice_work.proofs.round_layers.layout_of.Given as goal

-- the layer is among those that are left
abbrev pub invariant-layers : goal.invariant-layers
invariant-layers l = Contains (made_numbers l.round.first (drop l.drawn-index l.round.done.items)) l.n
