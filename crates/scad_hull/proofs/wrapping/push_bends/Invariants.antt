-- The bends so far and those of the corners left are all.
use Rattle.std.proofs.Common.{◌≡◌, ◌++◌, ◌∷◌, [], drop}
use Rattle.scad_hull.specs.Ring.{round}
use Rattle.scad_hull.specs.Wrapping.{bends_of}
use Rattle.scad_hull.proofs.wrapping.push_bends.Given as goal

abbrev pub invariant-corners : goal.invariant-corners
invariant-corners l = l.bends.items ++ bends_of
    (l.from ∷ (l.at ∷ (drop l.to-index l.rest ++ (l.first ∷ (l.second ∷ [])))))
    ≡ l.fn.bends.items ++ bends_of (round l.fn.ring)
