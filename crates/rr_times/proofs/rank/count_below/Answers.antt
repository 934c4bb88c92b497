use Rattle.std.proofs.Common.{arith, rules, ltb, ltb-true}
use Rattle.std.proofs.lemmas.Bool.{ltb-false}
use Rattle.std.proofs.lemmas.List.Sorted.{IsPartitionPoint-from_clause, IsPartitionedBy-ltb, IsNonDecreasingBy-from_default}
use Rattle.rr_times.proofs.SplitLemmas.{rising_le}
use Rattle.rr_times.proofs.rank.count_below.Goals as goal

pub returns : goal.returns
returns c =
    let parted = IsPartitionedBy-ltb (λ s. s) c.args.seconds.now c.args.second
    (IsNonDecreasingBy-from_default (λ s. s) c.args.seconds.now 0 (rising_le c.args.seconds.now c.requires)) in
    let point = IsPartitionPoint-from_clause (λ s. ltb s c.args.second) _ _ c.partition_point.ensures.partitioned parted (λ a r q k. search rules) in
    record {
      within = c.partition_point.ensures.bound;
      below = λ k h. ltb-true _ _ (point.0 k 0 (omega arith) h);
      from = λ k h l. ltb-false _ _ (point.1 k 0 h l);
    }
