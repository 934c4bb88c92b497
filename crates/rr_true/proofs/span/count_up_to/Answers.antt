use Rattle.std.proofs.Common.{rules}
use Rattle.std.specs.Prelude.{int_le}
use Rattle.std.proofs.lemmas.List.Sorted.{IsPartitionPoint-from_clause}
use Rattle.rr_true.proofs.SpanLemmas.{counted, parted}
use Rattle.rr_true.proofs.span.count_up_to.Goals as goal

pub returns : goal.returns
returns c =
    counted c.args.changes.now c.args.at c.partition_point.result c.partition_point.ensures.bound
    (IsPartitionPoint-from_clause
    (λ t. int_le t.at c.args.at) c.args.changes.now c.partition_point.result c.partition_point.ensures.partitioned
    (parted c.args.changes.now c.args.at c.requires) (λ a r q k. search rules))
