-- The rectangle holds the sides so far.
use Rattle.std.proofs.Common.{take}
use Rattle.std.specs.Prelude.{All}
use Rattle.plan_verify.specs.Extent.{IsIn}
use Rattle.plan_verify.proofs.index.extent_round.Given as goal

abbrev pub invariant-sides : goal.invariant-sides
invariant-sides l = All (IsIn l.extent) (take l.side-index l.sides)
