use Rattle.std.proofs.Common.{◌≡◌, map}
use Rattle.std.specs.List.{range_with_len}
use Rattle.scad_shapes.specs.Outline.{vertex}
use Rattle.scad_shapes.proofs.outline.circle.Given as goal

-- the vertices so far
abbrev pub invariant-loop-i : goal.invariant-loop-i
invariant-loop-i l = l.outline.items ≡ map (vertex l.r l.n) (range_with_len 0 l.i)
