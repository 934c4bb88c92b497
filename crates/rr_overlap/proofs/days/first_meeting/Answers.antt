use Rattle.std.proofs.Common.{w64, to_z, of_z, pos, ◌+ℤ◌, ◌+◌, arith}
use Rattle.std.proofs.lemmas.Int.{ints}
use Rattle.rr_overlap.proofs.DayLemmas.{walk_begins, walked_at}
use Rattle.rr_overlap.proofs.days.first_meeting.Goals as goal

pub loop-k-init : goal.loop-k-init
loop-k-init g c = (
  walk_begins (g.A.DaySeq.sketch c.args.a.now) c.args.durations.first (g.B.DaySeq.sketch c.args.b.now) c.args.durations.second c.args.from
      (to_z w64 (of_z w64 c.args.from) +ℤ pos 0) (omega (arith, ints)) c.requires.first_of_a c.requires.first_of_b,
  record { first = tt; second = tt },
  (λ a b h. absurd (c.new-pairs.ensures a b h)),
)

pub walk_day-requires-clause-walked : goal.walk_day-requires-clause-walked
walk_day-requires-clause-walked g c =
    walked_at (g.A.DaySeq.sketch c.args.a.now) c.args.durations.first (g.B.DaySeq.sketch c.args.b.now) c.args.durations.second
    (to_z w64 (of_z w64 c.args.from) +ℤ pos c.loop-k.k) (to_z w64 (of_z w64 (to_z w64 (of_z w64 c.args.from) +ℤ to_z w64 c.loop-k.k))) c.loop-k.begun
    (omega (arith, ints)) c.loop-k.invariant.0

pub loop-k-preserved : goal.loop-k-preserved
loop-k-preserved g c = (
  walked_at (g.A.DaySeq.sketch c.args.a.now) c.args.durations.first (g.B.DaySeq.sketch c.args.b.now) c.args.durations.second
      (to_z w64 (of_z w64 (to_z w64 (of_z w64 c.args.from) +ℤ to_z w64 c.loop-k.k)) +ℤ pos 1)
      (to_z w64 (of_z w64 c.args.from) +ℤ pos (c.loop-k.k + 1)) c.in-Clear.last
      (omega (arith, ints)) c.in-Clear.ensures.day.0,
  c.in-Clear.ensures.day.1,
  c.in-Clear.ensures.quiet,
)
