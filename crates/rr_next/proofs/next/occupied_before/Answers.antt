use Rattle.std.proofs.Common.{w64, to_z, of_z, ◌+ℤ◌, refl, arith}
use Rattle.std.proofs.lemmas.Int.{ints, clamps}
use Rattle.rr_next.proofs.DayLemmas.{none_on}
use Rattle.rr_next.proofs.next.occupied_before.Goals as goal

pub loop-day-smaller : goal.loop-day-smaller
loop-day-smaller g c =
    omega (
      arith,
      ints,
      clamps,
      c.loop-day.day-is,
      c.loop-day.invariant.0,
      c.loop-day-test.true,
      c.free_ahead-free.ensures.few,
      c.if-free-eq0.false,
      c.requires.low,
      c.requires.high,
    )

pub loop-day-preserved : goal.loop-day-preserved
loop-day-preserved g c = (
  omega (arith, ints, clamps, c.loop-day.day-is, c.loop-day.invariant.0, c.loop-day-test.true, c.free_ahead-free.ensures.few, c.requires.low, c.requires.high),
  none_on (g.A.DaySeq.sketch c.args.seq.now) (to_z w64 (of_z w64 c.args.from)) (to_z w64 c.loop-day.day-bits) (to_z w64 c.loop-day.day-bits)
      (to_z w64 (of_z w64 (to_z w64 c.loop-day.day-bits +ℤ to_z w64 c.free_ahead-free.result))) c.free_ahead-free.result
      refl
      (omega (arith, ints, clamps, c.loop-day.day-is, c.loop-day.invariant.0, c.loop-day-test.true, c.free_ahead-free.ensures.few, c.requires.low, c.requires.high))
      c.loop-day.invariant.1 c.free_ahead-free.ensures.free,
)
