use Rattle.std.proofs.Common.{◌≡◌, take, flat_map}
use Rattle.plan_support.specs.Lines.{row_heights}
use Rattle.plan_support.proofs.heights.heights_of.Given as goal

abbrev pub invariant-layers : goal.invariant-layers
invariant-layers l = l.heights.items ≡ flat_map row_heights (take l.rows-index l.layers)
