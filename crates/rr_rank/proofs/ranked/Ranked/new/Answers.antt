use Rattle.std.proofs.Common.{w64, to_z, of_z, ◌+◌, sym, arith}
use Rattle.std.proofs.lemmas.Int.{ints}
use Rattle.rr_rank.proofs.CountLemmas.{count-zero}
use Rattle.rr_rank.proofs.EntryLemmas.{all_counted, begin_at, none_yet}
use Rattle.rr_rank.proofs.ranked.Ranked.new.Goals as goal

pub fill-requires-clause-entries : goal.fill-requires-clause-entries
fill-requires-clause-entries g c =
    none_yet (g.A.DaySeq.sketch c.args.seq.now) (to_z w64 (of_z w64 c.begin_of-from.result)) c.new-sums.result c.new-sums.ensures

pub fill-requires-clause-count : goal.fill-requires-clause-count
fill-requires-clause-count g c = sym (count-zero (g.A.DaySeq.sketch c.args.seq.now) (to_z w64 (of_z w64 c.begin_of-from.result)))

pub invariant_of-result : goal.invariant_of-result
invariant_of-result g c =
    let s = g.A.DaySeq.sketch c.args.seq.now in
    let from = to_z w64 (of_z w64 c.begin_of-from.result) in (
      all_counted s from (to_z w64 (of_z w64 c.day_after.result)) c.in_ok-head.head c.in_ok-total.total c.days_between-before.result
          (c.days_between-before.result + c.period.result) c.fill-2.new.sums c.put.new.self
          (begin_at s c.begin_of-from.result from (omega (arith, ints)) c.begin_of-from.ensures.begin)
          (omega (arith, ints, c.days_between-before.ensures.value, c.settled.ensures.value))
          (omega (arith, c.period.ensures.value)) c.in_ok-head.ensures.count c.in_ok-total.ensures.count c.in_ok-total.ensures.entries (omega (arith, ints))
          c.in_ok-put.ensures.ok,
      (omega (arith, ints, c.begin_of-from.ensures.near.0), omega (arith, ints, c.begin_of-from.ensures.near.1)),
    )
