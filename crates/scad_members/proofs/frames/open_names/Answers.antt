-- Frames that will be left keep how deep the machine is.
use Rattle.scad_expr.specs.Machine.{held}
use Rattle.scad_members.proofs.ScopeFrames.{depth-left}
use Rattle.scad_members.proofs.frames.open_names.Goals as goal

pub returns-clause-depth : goal.returns-clause-depth
returns-clause-depth c = depth-left c.in_ok-back.back (held c.let_names.new.machine) (held c.args.m.now)
    c.in_ok-back.ensures.back
