-- The edges that start before the point stand before the others.
use Rattle.std.proofs.Common.{rules}
use Rattle.std.proofs.lemmas.List.Sorted.{IsPartitionPoint-from_clause}
use Rattle.slice_loops.specs.Order.{starts_before}
use Rattle.slice_loops.proofs.LeastEdge.{parted}
use Rattle.slice_loops.proofs.remainder.first_from.Goals as goal

pub returns : goal.returns
returns c =
    IsPartitionPoint-from_clause (starts_before c.args.at) c.args.edges.now c.partition_point.result
    c.partition_point.ensures.partitioned
    (parted c.args.at c.args.edges.now c.requires) (λ a r q k. search rules)
