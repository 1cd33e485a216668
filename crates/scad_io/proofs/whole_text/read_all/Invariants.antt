-- What is read and what is left to read are the file.
use Rattle.std.proofs.Common.{◌≡◌, ◌≤◌, ◌+◌, ◌-◌, ◌^◌, vec_len}
use Rattle.std.specs.Prelude.{IfSome}
use Rattle.scad_io.proofs.Input.{ReadSoFar}
use Rattle.scad_io.proofs.whole_text.read_all.Given as goal

abbrev pub invariant-pieces : goal.invariant-pieces
invariant-pieces g l =
    ReadSoFar l.text.items (g.D.Desk.view l.fn.desk) (g.D.Desk.view l.desk)
    × IfSome l.limit (λ most. vec_len l.text ≤ most + 1)
    × (g.D.Desk.files l.desk ≡ g.D.Desk.files l.fn.desk)
    × (g.D.Desk.faults l.fn.desk ≤ g.D.Desk.faults l.desk)

abbrev pub decreases-pieces : goal.decreases-pieces
decreases-pieces g l = 2 ^ 64 - vec_len l.text
