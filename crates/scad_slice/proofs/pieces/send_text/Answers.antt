use Rattle.std.proofs.Common.{rules}
use Rattle.scad_slice.proofs.Stopping.{stops_part}
use Rattle.scad_slice.proofs.pieces.send_text.Goals as goal

pub returns-in_err-send-clause-carries : goal.returns-in_err-send-clause-carries
returns-in_err-send-clause-carries g c whole rest start left =
    stops_part whole rest _ _ start _ (search rules) (c.in_err-send.ensures.carries whole rest start left)
