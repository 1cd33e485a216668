use Rattle.plan_support.proofs.Holes.{HoledUpTo}
use Rattle.plan_support.proofs.support.holes_of.Given as goal

abbrev pub invariant-sides : goal.invariant-sides
invariant-sides l = HoledUpTo l.outlines l.y l.gap l.side-index l.holes.items
