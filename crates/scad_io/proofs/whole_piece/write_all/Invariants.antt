-- What is sent and what is left to send are the whole.
use Rattle.std.proofs.Common.{◌≡◌, ◌≤◌, [], length}
use Rattle.scad_io.specs.Output.{SentBut}
use Rattle.scad_io.proofs.whole_piece.write_all.Given as goal

abbrev pub invariant-pieces : goal.invariant-pieces
invariant-pieces g l =
    SentBut l.out l.bytes l.rest (g.D.Desk.view l.fn.desk) (g.D.Desk.view l.desk)
    × (g.D.Desk.files l.desk ≡ g.D.Desk.files l.fn.desk)
    × (g.D.Desk.faults l.fn.desk ≤ g.D.Desk.faults l.desk)
    × (l.bytes ≡ [] → l.desk ≡ l.fn.desk)

abbrev pub decreases-pieces : goal.decreases-pieces
decreases-pieces g l = length l.rest
