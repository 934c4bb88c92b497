use Rattle.std.proofs.Common.{rules}
use Rattle.std.specs.Prelude.{int_lt}
use Rattle.std.proofs.lemmas.List.Sorted.{IsPartitionPoint-from_clause}
use Rattle.rr_model.specs.Moment.{day_part}
use Rattle.rr_lazy.proofs.StretchLemmas.{parted, first_index}
use Rattle.rr_lazy.proofs.stretch.first_from.Goals as goal

pub returns : goal.returns
returns c =
    first_index c.args.kind c.args.dates.now c.args.day c.partition_point.result c.partition_point.ensures.bound
    (IsPartitionPoint-from_clause
    (λ t. int_lt (day_part c.args.kind t) c.args.day) c.args.dates.now c.partition_point.result c.partition_point.ensures.partitioned
    (parted c.args.kind c.args.dates.now c.args.day c.requires) (λ a r q k. search rules))
