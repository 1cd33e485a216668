use Rattle.std.proofs.Common.{◌≡◌, ◌++◌, drop}
use Rattle.scad_modules.specs.FlatShapes.{points_at}
use Rattle.scad_modules.proofs.polygons.points_at.Given as goal

-- the points so far and those of the indices left are all
abbrev pub invariant-indices : goal.invariant-indices
invariant-indices l = l.path.items ++ points_at l.points (drop l.i-index l.indices) ≡ points_at l.points l.indices
