use Rattle.std.proofs.Common.{◌≡◌, ◌++◌, ◌∷◌, drop, true}
use Rattle.scad_solid.specs.Solid.{fans}
use Rattle.scad_solid.specs.Stack.{faces_below, are_alike}
use Rattle.scad_solid.proofs.stacking.push_below.Given as goal

-- the bands so far and those below the ring that was reached are all
abbrev pub invariant-loop-lower : goal.invariant-loop-lower
invariant-loop-lower l = record {
  made : l.out.items ++ fans (faces_below l.upper (drop l.lower-index l.rings)) ≡ l.fn.out.items ++ fans
      (faces_below l.fn.top l.rings);
  alike : are_alike (l.upper ∷ drop l.lower-index l.rings) ≡ true;
}
