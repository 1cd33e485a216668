use Rattle.scad_solid.proofs.ClosedSides.{sorted_tells}
use Rattle.scad_solid.proofs.closedness.is_closed.Goals as goal

pub returns : goal.returns
returns c =
    let forwards = rw c.in_ok-forwards.ensures at c.sort_unstable.ensures.permutation in
    let backwards = rw (c.in_ok-backwards.ensures, c.as_slice.ensures.value, c.in_ok-forwards.ensures) at
    c.sort_unstable-2.ensures.permutation in
    sorted_tells c.args.triangles.now c.sort_unstable.new.self.items c.sort_unstable-2.new.self.items c.eq.result
    forwards backwards c.sort_unstable.ensures.sorted c.sort_unstable-2.ensures.sorted c.eq.ensures
