-- The plane is turned about the line to a point beyond it.
use Rattle.scad_hull.proofs.FirstSteps.{small_in, edge_turned, edge_flat, edge_plane}
use Rattle.scad_hull.proofs.first.turned_again.Goals as goal

pub off-requires-clause-a : goal.off-requires-clause-a
off-requires-clause-a c = small_in c.args.cloud.now.points.now c.args.a c.requires.points c.requires.has_a

pub off-requires-clause-b : goal.off-requires-clause-b
off-requires-clause-b c = small_in c.args.cloud.now.points.now c.args.d c.requires.points c.requires.has_d

pub outermost-further-requires : goal.outermost-further-requires
outermost-further-requires c = record {
  points = c.requires.points;
  a = small_in c.args.cloud.now.points.now c.args.a c.requires.points c.requires.has_a;
  b = small_in c.args.cloud.now.points.now c.args.d c.requires.points c.requires.has_d;
  first = small_in c.args.cloud.now.points.now c.in-Some.e c.requires.points c.in-Some.ensures.some;
  turned = edge_turned c.args.cloud.now.points.now c.args.a c.args.d c.requires.edge c.in-Some.e c.in-Some.ensures.some
      c.in-Some.ensures.off;
}

pub returns-in_default : goal.returns-in_default
returns-in_default c = record {
  narrow = tt;
  plane = tt;
  none = edge_flat c.args.cloud.now.points.now c.args.a c.args.d c.requires.edge c.in_default.ensures.none;
}

pub returns : goal.returns
returns c = record {
  narrow = c.outermost-further.ensures.narrow;
  plane = edge_plane c.args.cloud.now.points.now c.args.a c.args.d c.requires.edge c.outermost-further.result
      c.in-Some.e
      c.outermost-further.ensures.turned c.requires.has_a c.requires.has_d c.in-Some.ensures.off;
  none = tt;
}
