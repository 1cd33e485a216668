use Rattle.std.proofs.Common.{◌≡◌, ◌++◌, drop}
use Rattle.scad_leaves.proofs.profiles.push_all.Given as goal

-- those so far, and what is left
abbrev pub invariant-points : goal.invariant-points
invariant-points l = l.out.items ++ drop l.p-index l.ring ≡ l.fn.out.items ++ l.ring
