use Rattle.std.specs.List.{list_all}
use Rattle.scad_shapes.specs.Pushes.{ring_in_range}
use Rattle.scad_shapes.proofs.Solids.{made-more, ranged-more, ranged-fails, fails}
use Rattle.scad_extrude.specs.Revolution.{turned_ring_at, turned_rings}
use Rattle.scad_extrude.proofs.turns.turns.Goals as goal

pub turns-preserved : goal.turns-preserved
turns-preserved c =
    let ring = turned_ring_at c.args.ring.now c.args.n c.args.m.now in
    let all = turned_rings c.args.ring.now c.args.n c.args.m.now in
    record {
      made = made-more ring_in_range ring c.turns.j c.args.n c.turns-test.true c.turns.rings.items
          c.push_turn.new.out.items all c.turns.invariant.made c.in-Ok.ensures.0;
      ranged = ranged-more ring_in_range ring c.turns.j c.args.n c.turns-test.true (list_all ring_in_range all)
          c.turns.invariant.ranged c.in-Ok.ensures.1;
    }

pub returns-in-Err : goal.returns-in-Err
returns-in-Err c =
    let ring = turned_ring_at c.args.ring.now c.args.n c.args.m.now in
    let all = turned_rings c.args.ring.now c.args.n c.args.m.now in
    fails _ ring_in_range c.turns.rings.items c.push_turn.new.out.items all (ring c.turns.j) c.in-Err.end (λ v. v.items)
    c.in-Err.ensures
    (ranged-fails ring_in_range ring c.turns.j c.args.n c.turns-test.true (list_all ring_in_range all)
    c.turns.invariant.ranged)
