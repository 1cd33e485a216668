use Rattle.std.proofs.Common.{◌≡◌, ◌++◌, drop}
use Rattle.slice_events.specs.Lines.{edges_in}
use Rattle.slice_events.specs.Stays.{all_stays}
use Rattle.slice_events.proofs.stay.all_stays.Given as goal

abbrev pub invariant-lines : goal.invariant-lines
invariant-lines l = l.stays.items ++ all_stays l.tall l.i (edges_in (drop l.i l.lines))
    ≡ all_stays l.tall 0 (edges_in l.lines)
