use Rattle.std.proofs.Common.{◌≡◌, ◌+◌, ◌-◌, ◌++◌}
use Rattle.slice_events.specs.Stays.{later_stays}
use Rattle.slice_events.proofs.stay.push_later.Given as goal

abbrev pub invariant-buckets : goal.invariant-buckets
invariant-buckets l = l.stays.items ++ later_stays l.line l.left l.bucket (l.bucket-end - l.bucket) ≡ l.fn.stays.items
    ++ later_stays l.line l.left (l.first + 1) (l.last - l.first)
