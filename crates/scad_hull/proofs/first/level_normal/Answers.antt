-- The plane is turned from the one through the least point and the one beside it.
use Rattle.std.proofs.Common.{arith, ◌<◌, length}
use Rattle.scad_hull.proofs.FirstSteps.{small_in, turned_first, turned_still, flat_beside}
use Rattle.scad_hull.proofs.first.level_normal.Goals as goal

pub outermost-normal-requires-clause-first : goal.outermost-normal-requires-clause-first
outermost-normal-requires-clause-first c = small_in c.args.cloud.now.points.now c.in-Some.c c.requires.points
    c.in-Some.ensures.some

pub outermost-normal-requires-clause-turned : goal.outermost-normal-requires-clause-turned
outermost-normal-requires-clause-turned c =
    let there = c.requires.has.1 in
    let some : 0 < length c.args.cloud.now.points.now = omega arith in
    turned_first c.args.cloud.now.points.now c.args.a c.beside-b.result c.beside-b.ensures.value c.requires.sorted some
    c.requires.first
    c.in-Some.c c.in-Some.ensures.some c.in-Some.ensures.off

pub returns-in_default : goal.returns-in_default
returns-in_default c = record {
  narrow = tt;
  turned = tt;
  none = flat_beside c.args.cloud.now.points.now c.args.a c.beside-b.result c.beside-b.ensures.value
      c.in_default.ensures.none;
}

pub returns : goal.returns
returns c = record {
  narrow = c.outermost-normal.ensures.narrow;
  turned = turned_still c.args.cloud.now.points.now c.args.a c.beside-b.result c.beside-b.ensures.value
      c.outermost-normal.result
      c.outermost-normal.ensures.turned;
  none = tt;
}
