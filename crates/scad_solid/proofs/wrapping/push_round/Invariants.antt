use Rattle.std.proofs.Common.{◌≡◌, ◌++◌, [], ◌∷◌, drop, length, true}
use Rattle.scad_solid.specs.Solid.{fans}
use Rattle.scad_solid.specs.Stack.{are_alike}
use Rattle.scad_solid.specs.Wrap.{bands}
use Rattle.scad_solid.proofs.wrapping.push_round.Given as goal

-- the bands so far and those behind the ring that was reached are all
abbrev pub invariant-loop-lower : goal.invariant-loop-lower
invariant-loop-lower l = record {
  made : l.out.items ++ fans (bands l.upper (drop l.lower-index l.rings ++ l.first ∷ [])) ≡ l.fn.out.items ++ fans
      (bands l.first (l.rings ++ l.first ∷ []));
  alike : are_alike (l.upper ∷ drop l.lower-index l.rings) ≡ true;
  same : length l.upper ≡ length l.first;
}
