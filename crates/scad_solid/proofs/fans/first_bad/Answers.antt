use Rattle.std.proofs.Common.{sym, ◌∙◌, drop, ◌+◌}
use Rattle.std.proofs.lemmas.List.{at_drop_more}
use Rattle.scad_solid.specs.Solid.{first_bad}
use Rattle.scad_solid.proofs.Faces.{first_bad-here, first_bad-later}
use Rattle.scad_solid.proofs.fans.first_bad.Goals as goal

pub returns-in-Some : goal.returns-in-Some
returns-in-Some c =
    let found = rw c.as_slice.ensures at c.in-Some.ensures in
    let front = at_drop_more (first_bad c.args.count) c.args.faces.now c.loop-face.face-index c.face-item.result
    c.loop-face-test.true in
    sym (sym c.loop-face.invariant ∙ (rw (← c.face-item.is) at front) ∙ first_bad-here c.args.count c.face-item.result
    (drop (c.loop-face.face-index + 1) c.args.faces.now) c.in-Some.i (sym found))

pub loop-face-preserved : goal.loop-face-preserved
loop-face-preserved c =
    let missed = rw c.as_slice.ensures at c.in_default.ensures in
    let front = at_drop_more (first_bad c.args.count) c.args.faces.now c.loop-face.face-index c.face-item.result
    c.loop-face-test.true in
    sym ((rw (← c.face-item.is) at front) ∙ first_bad-later c.args.count c.face-item.result
    (drop (c.loop-face.face-index + 1) c.args.faces.now) (sym missed)) ∙ c.loop-face.invariant
