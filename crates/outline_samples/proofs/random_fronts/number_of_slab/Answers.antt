-- The levels of the list are neighbours.
use Rattle.std.proofs.Common.{pos}
use Rattle.scad_geom.specs.declared.level.Level.{Level}
use Rattle.slice_border.proofs.Neighbours.{neighbours_at}
use Rattle.outline_samples.proofs.random_fronts.number_of_slab.Goals as goal

pub advance-requires-clause-neighbours : goal.advance-requires-clause-neighbours
advance-requires-clause-neighbours c =
    let none : Level = record { n = pos 0; d = pos 0 } in
    neighbours_at c.args.edges.now c.args.levels.now c.args.i none none c.requires.there c.requires.levels

pub advance-requires-2-clause-neighbours : goal.advance-requires-2-clause-neighbours
advance-requires-2-clause-neighbours c =
    let none : Level = record { n = pos 0; d = pos 0 } in
    neighbours_at c.args.edges.now c.args.levels.now c.args.i none none c.requires.there c.requires.levels

pub slab-requires-clause-neighbours : goal.slab-requires-clause-neighbours
slab-requires-clause-neighbours c =
    let none : Level = record { n = pos 0; d = pos 0 } in
    neighbours_at c.args.edges.now c.args.levels.now c.args.i none none c.requires.there c.requires.levels
