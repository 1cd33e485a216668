-- The levels of the list are neighbours.
use Rattle.std.proofs.Common.{pos}
use Rattle.scad_geom.specs.declared.level.Level.{Level}
use Rattle.slice_border.proofs.Neighbours.{neighbours_at}
use Rattle.slice_bool.proofs.border.rise.Goals as goal

pub advance-requires-clause-neighbours : goal.advance-requires-clause-neighbours
advance-requires-clause-neighbours c =
    let none : Level = record { n = pos 0; d = pos 0 } in
    neighbours_at c.args.sweep.now.edges.now c.args.levels.now c.args.i none none c.if-i-levels.true c.requires.levels
