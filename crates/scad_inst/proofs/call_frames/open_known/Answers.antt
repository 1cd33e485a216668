use Rattle.scad_inst.proofs.CallFrames.{outer-depth}
use Rattle.scad_inst.proofs.call_frames.open_known.Goals as goal

pub returns-clause-depth : goal.returns-clause-depth
returns-clause-depth c = outer-depth _ _ _ c.in_ok-set_dollars.ensures.outer c.in_ok-back.ensures.outer
