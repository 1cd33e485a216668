-- The ends that come before another stand before the others.
use Rattle.std.proofs.Common.{rules}
use Rattle.std.proofs.lemmas.List.Sorted.{IsPartitionPoint-from_clause}
use Rattle.slice_snap.specs.EndOrder.{end_cmp}
use Rattle.slice_snap.proofs.Ties.{comes_before, parted}
use Rattle.slice_snap.proofs.EndOrder.{end_total}
use Rattle.slice_snap.proofs.alone.first_from.Goals as goal

pub returns-clause-point : goal.returns-clause-point
returns-clause-point c =
    IsPartitionPoint-from_clause (comes_before end_cmp end_total c.args.at.now) c.args.ends.now c.partition_point.result
    c.partition_point.ensures.partitioned
    (parted end_cmp end_total c.args.at.now c.args.ends.now c.requires) (λ a r q k. search rules)
