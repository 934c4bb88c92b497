use Rattle.std.proofs.Common.{rules}
use Rattle.std.specs.Prelude.{int_le}
use Rattle.std.proofs.lemmas.List.Sorted.{IsPartitionPoint-from_clause}
use Rattle.rr_zone.proofs.CountLemmas.{counted, parted}
use Rattle.rr_zone.proofs.clock.count_up_to.Goals as goal

pub returns : goal.returns
returns c =
    counted c.args.onsets.now c.args.at c.partition_point.result c.partition_point.ensures.bound
    (IsPartitionPoint-from_clause
    (λ t. int_le t c.args.at) c.args.onsets.now c.partition_point.result c.partition_point.ensures.partitioned
    (parted c.args.onsets.now c.args.at c.requires) (λ a r q k. search rules))
