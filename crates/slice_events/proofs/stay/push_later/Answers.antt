-- One stay more.
use Rattle.std.proofs.Common.{◌+◌}
use Rattle.slice_events.proofs.Stays.{pushed_later}
use Rattle.slice_events.proofs.stay.push_later.Goals as goal

pub buckets-preserved : goal.buckets-preserved
buckets-preserved c = pushed_later c.buckets.stays.items c.push.new.self.items _ c.args.line c.buckets.bucket
    (c.args.last + 1) _ c.buckets-test.true c.in_ok-push.ensures.items c.buckets.invariant
