use Rattle.std.proofs.Common.{◌≡◌, ◌≤◌, arith, sym, w64, to_z, of_z, subst}
use Rattle.std.specs.Prelude.{◌⊎◌}
use Rattle.std.proofs.lemmas.Int.{ints, to_z-of_z}
use Rattle.rr_family.specs.Lasting.{is_occupied}
use Rattle.rr_family.specs.Sorts.{many_sorts, sort_of_day}
use Rattle.rr_find.specs.Counted.{HasUnsorted, HasMixed, IsTallied}
use Rattle.rr_find.proofs.TallyDayLemmas.{room, nothing_tallied, tallied_more, lost_there}
use Rattle.rr_find.proofs.tallies.counts_all_days.Goals as goal

pub loop-k-init : goal.loop-k-init
loop-k-init g c = (
  omega (arith, ints),
  c.requires.sorts,
  c.requires.free_sorts,
  nothing_tallied c.args.occupied.now c.args.free.now (sort_of_day c.args.kind c.args.interval (to_z w64 (of_z w64 c.args.first))) (is_occupied
      (g.A.DaySeq.sketch c.args.seq.now)) (to_z w64 (of_z w64 c.args.first)) c.requires.clear c.requires.free_clear,
)

pub counts_day-sorted-requires-clause-room : goal.counts_day-sorted-requires-clause-room
counts_day-sorted-requires-clause-room g c =
    room c.loop-k.occupied _ _ _ c.loop-k.k c.loop-k.invariant.3.of_occupied (omega (arith, c.requires.few, c.loop-k-test.true))

pub counts_day-sorted-requires-clause-free_room : goal.counts_day-sorted-requires-clause-free_room
counts_day-sorted-requires-clause-free_room g c =
    room c.loop-k.free _ _ _ c.loop-k.k c.loop-k.invariant.3.of_free (omega (arith, c.requires.few, c.loop-k-test.true))

pub returns-then-not-sorted : goal.returns-then-not-sorted
returns-then-not-sorted g c =
    let first : to_z w64 (of_z w64 c.args.first) ≡ c.args.first = to_z-of_z w64 c.args.first c.ranges.first in
    let counted = c.counts_day-sorted.ensures in
    let at = c.loop-k.invariant.0 in
    let start = c.new-start.ensures in
    subst (λ z. HasUnsorted (sort_of_day c.args.kind c.args.interval z) (is_occupied (g.A.DaySeq.sketch c.args.seq.now)) z c.args.days ⊎ HasMixed
    (sort_of_day c.args.kind c.args.interval z) (is_occupied (g.A.DaySeq.sketch c.args.seq.now)) z c.args.days) first
    (lost_there c.args.kind c.args.interval _ (to_z w64 (of_z w64 c.args.first)) _ (is_occupied (g.A.DaySeq.sketch c.args.seq.now)) _ _ _ _
    c.loop-k.k c.args.days c.counts_day-sorted.result
    (omega (arith, ints, start)) (omega (arith, ints, start, at)) (omega (
      arith,
      c.loop-k-test.true,
    )) c.loop-k.invariant.3 counted.occupied counted.free counted.goes_on c.if-not-sorted.true)

pub loop-k-preserved : goal.loop-k-preserved
loop-k-preserved g c =
    let counted = c.counts_day-sorted.ensures in
    let at = c.loop-k.invariant.0 in
    let start = c.new-start.ensures in (
      omega (arith, ints, at, c.next-day.ensures),
      subst (λ n. many_sorts c.args.kind ≤ n) (sym counted.occupied.0) c.loop-k.invariant.1,
      subst (λ n. many_sorts c.args.kind ≤ n) (sym counted.free.0) c.loop-k.invariant.2,
      tallied_more c.args.kind c.args.interval _ (to_z w64 (of_z w64 c.args.first)) _ (is_occupied (g.A.DaySeq.sketch c.args.seq.now)) _ _ _ _
          c.loop-k.k c.counts_day-sorted.result
          (omega (arith, ints, start)) (omega (arith, ints, start, at)) c.loop-k.invariant.3 counted.occupied counted.free counted.goes_on c.if-not-sorted.false,
    )

pub returns : goal.returns
returns g c =
    let first : to_z w64 (of_z w64 c.args.first) ≡ c.args.first = to_z-of_z w64 c.args.first c.ranges.first in
    let all : c.loop-k.k ≡ c.args.days = omega (arith) in
    subst (λ z. IsTallied c.loop-k.occupied c.loop-k.free (sort_of_day c.args.kind c.args.interval z) (is_occupied (g.A.DaySeq.sketch
    c.args.seq.now)) z c.args.days) first
    (subst (λ n. IsTallied c.loop-k.occupied c.loop-k.free (sort_of_day c.args.kind c.args.interval (to_z w64 (of_z w64 c.args.first))) (is_occupied
    (g.A.DaySeq.sketch c.args.seq.now)) (to_z w64 (of_z w64 c.args.first)) n) all c.loop-k.invariant.3)
