use Rattle.std.proofs.Common.{◌≡◌, ◌++◌, map, drop}
use Rattle.scad_geom.specs.Level.{level_of}
use Rattle.slice_events.specs.Collection.{levels_in}
use Rattle.slice_events.proofs.ends.push_all.Given as goal

abbrev pub invariant-ys : goal.invariant-ys
invariant-ys l = levels_in l.out.items ++ map level_of (drop l.y-index l.ys) ≡ levels_in l.fn.out.items
    ++ map level_of l.ys
