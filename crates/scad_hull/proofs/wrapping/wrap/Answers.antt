-- The first face, one bend more, and all of them.
use Rattle.std.proofs.Common.{◌<◌, length, arith}
use Rattle.scad_hull.specs.Wrapping.{rings_of}
use Rattle.scad_hull.proofs.MoreFaces.{none_at, added, one_there, bend_side, still_some, still_upto, more_backs, first_in, wrapped}
use Rattle.scad_hull.proofs.wrapping.wrap.Goals as goal

pub bends-init : goal.bends-init
bends-init c = record {
  found = added c.args.cloud.now.points.now c.new-faces.result.items c.add.new.faces.items c.new-bends.result.items
      c.add.new.bends.items
      c.new-sides.result.keys c.add.new.sides.keys c.args.first
      (none_at c.args.cloud.now.points.now c.new-faces.result.items c.new-bends.result.items c.new-sides.result.keys
      c.new-faces.ensures.items c.new-bends.ensures.items c.new-sides.ensures.empty)
      c.requires.face c.in_ok-add.ensures.faces c.in_ok-add.ensures.bends c.in_ok-add.ensures.sides;
  first = one_there c.new-faces.result.items c.add.new.faces.items c.args.first c.in_ok-add.ensures.faces;
  upto = omega arith;
  backs = λ k d h. absurd (omega arith);
}

pub close-requires-clause-side : goal.close-requires-clause-side
close-requires-clause-side c =
    bend_side c.args.cloud.now.points.now c.requires.sorted (rings_of c.bends.faces.items) c.bends.bends.items
    c.bends.sides.keys
    c.bends.invariant.found c.bends.i c.index-bend.result.now (omega arith) c.index-bend.ensures

pub bends-preserved : goal.bends-preserved
bends-preserved c =
    let inside : c.bends.i < length c.bends.bends.items = omega arith in
    record {
      found = c.in_ok-close.ensures.found;
      first = still_some c.bends.faces.items c.close.new.faces.items c.in_ok-close.ensures.faces
          c.bends.invariant.first;
      upto = still_upto c.bends.bends.items c.close.new.bends.items c.bends.i c.in_ok-close.ensures.bends inside;
      backs = more_backs (rings_of c.bends.faces.items) (rings_of c.close.new.faces.items) c.bends.bends.items
          c.close.new.bends.items
          c.bends.i c.index-bend.result.now c.in_ok-close.ensures.faces c.in_ok-close.ensures.bends inside
          c.index-bend.ensures
          c.in_ok-close.ensures.back c.bends.invariant.backs;
    }

pub returns : goal.returns
returns c =
    let first = first_in c.bends.faces.items c.bends.invariant.first in
    wrapped c.args.cloud.now.points.now c.requires.sorted (rings_of c.bends.faces.items) c.bends.bends.items
    c.bends.sides.keys
    c.bends.invariant.found (λ k d h. c.bends.invariant.backs k d (omega arith)) first.0 first.1
