use Rattle.std.proofs.Common.{◌≡◌, ◌++◌, drop, map, get_or}
use Rattle.std.specs.List.{zip}
use Rattle.scad_solid.specs.Solid.{fans}
use Rattle.scad_solid.specs.Stack.{path, quad, band}
use Rattle.scad_solid.proofs.stacking.push_band.Given as goal

-- the quads so far and those of the points left are the band
abbrev pub invariant-loop-j : goal.invariant-loop-j
invariant-loop-j l = l.out.items ++ fans (map quad (zip (path l.a (drop l.j l.upper) (get_or l.upper 0 l.a))
    (path l.b (drop l.j l.lower) (get_or l.lower 0 l.b)))) ≡ l.fn.out.items ++ fans (band l.upper l.lower)
