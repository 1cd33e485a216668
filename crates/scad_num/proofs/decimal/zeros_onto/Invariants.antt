-- The zeros that are left, put behind the value so far, give the whole value.
use Rattle.std.proofs.Common.{◌≡◌, ◌≤◌, ◌*◌, ◌^◌, min}
use Rattle.scad_num.proofs.decimal.zeros_onto.Given as goal

abbrev pub invariant-loop-left : goal.invariant-loop-left
invariant-loop-left l = record {
  capped : l.value ≤ l.cap;
  same : min (l.value * 10 ^ l.left) l.cap ≡ min (l.n * 10 ^ l.zeros) l.cap;
}

abbrev pub decreases-loop-left : goal.decreases-loop-left
decreases-loop-left l = l.left
