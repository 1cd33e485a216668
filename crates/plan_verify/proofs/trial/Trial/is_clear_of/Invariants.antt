-- No side so far is near.
use Rattle.std.proofs.Common.{take}
use Rattle.std.specs.Prelude.{All}
use Rattle.plan_verify.specs.Trial.{IsApart}
use Rattle.plan_verify.proofs.trial.Trial.is_clear_of.Given as goal

abbrev pub invariant-sides : goal.invariant-sides
invariant-sides l = All (IsApart l.self) (take l.side-index l.sides)
