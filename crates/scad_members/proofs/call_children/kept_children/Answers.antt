use Rattle.std.proofs.Common.{◌≡◌, None, ◌<◌, length, sym, ◌∙◌, arith}
use Rattle.scad_scope.specs.FrameStore.{stored_at}
use Rattle.scad_scope.specs.View.{stored}
use Rattle.scad_expr.specs.Machine.{held, env_in}
use Rattle.scad_members.proofs.KeptRound.{kept-round_past}
use Rattle.scad_members.proofs.call_children.kept_children.Goals as goal

pub returns-then-at-parent : goal.returns-then-at-parent
unfolding held env_in
returns-then-at-parent c =
    let fs = stored c.args.m.now.frames in
    let inside : c.outwards.at < length (stored c.args.m.now.frames) = omega (arith, c.len.ensures) in
    let none : (stored_at (stored c.args.m.now.frames) c.outwards.at).kept ≡ None = sym c.in-None.ensures in
    sym (kept-round_past fs c.outwards.at inside c.in-Some-parent.parent none (sym c.in-Some-parent.ensures)
    (omega arith)) ∙ c.outwards.invariant
