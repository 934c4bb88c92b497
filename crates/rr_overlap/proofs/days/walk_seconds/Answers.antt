use Rattle.std.proofs.Common.{w64, to_z, of_z, arith}
use Rattle.std.proofs.lemmas.Int.{ints, to_z-of_z}
use Rattle.rr_overlap.specs.Days.{midnight}
use Rattle.rr_overlap.proofs.DayLemmas.{at_end, at_midnight, found_at, one_further}
use Rattle.rr_overlap.proofs.days.walk_seconds.Goals as goal

pub loop-next-init : goal.loop-next-init
loop-next-init g c =
    let s = g.A.DaySeq.sketch c.args.a.now in
    let u = g.B.DaySeq.sketch c.args.b.now in
    let here =
    at_midnight s c.args.durations.first u c.args.durations.second c.args.day c.args.begun (g.met.A.DaySeq.bounded c.args.a.now).valid
    (g.met.B.DaySeq.bounded c.args.b.now).valid c.requires.walked in (
      (
        midnight c.args.day,
        rw (to_z-of_z w64 c.args.day c.ranges.day, c.at-rest_a.ensures, c.at-rest_b.ensures, to_z-of_z w64 c.args.day c.ranges.day) here,
      ),
      c.requires.near,
    )

pub returns-in-Some-meeting_at : goal.returns-in-Some-meeting_at
returns-in-Some-meeting_at g c =
    let s = g.A.DaySeq.sketch c.args.a.now in
    let u = g.B.DaySeq.sketch c.args.b.now in
    let n = c.in-Some.next in
    let meets = c.in-Some-meeting_at.ensures in
    let near = c.second_at-at.ensures.near in
    let here = meets.here in (
      found_at s c.args.durations.first u c.args.durations.second (to_z w64 (of_z w64 c.args.day)) c.loop-next.invariant.0.0 c.loop-next.rest_a.now
          c.loop-next.rest_b.now c.loop-next.last (g.met.A.DaySeq.bounded c.args.a.now).valid (g.met.B.DaySeq.bounded c.args.b.now).valid
          c.loop-next.invariant.0.1 n.second n.side n.xs.now n.ys.now
          c.in-Some.ensures (to_z w64 (of_z w64 c.second_at-at.result)) (omega (arith, ints)) c.after-last.result
          c.after-last.ensures.first c.after-last.ensures.second c.in-Some-meeting_at.meeting meets,
      (omega (arith, ints, near.0, here), omega (arith, ints, near.1, here)),
    )

pub loop-next-preserved : goal.loop-next-preserved
loop-next-preserved g c =
    let s = g.A.DaySeq.sketch c.args.a.now in
    let u = g.B.DaySeq.sketch c.args.b.now in
    let n = c.in-Some.next in (
      (
        _,
        one_further s c.args.durations.first u c.args.durations.second (to_z w64 (of_z w64 c.args.day)) c.loop-next.invariant.0.0 c.loop-next.rest_a.now
            c.loop-next.rest_b.now c.loop-next.last (g.met.A.DaySeq.bounded c.args.a.now).valid (g.met.B.DaySeq.bounded c.args.b.now).valid
            c.loop-next.invariant.0.1 n.second n.side n.xs.now n.ys.now
            c.in-Some.ensures (to_z w64 (of_z w64 c.second_at-at.result)) (omega (arith, ints)) c.after-last.result
            c.after-last.ensures.first c.after-last.ensures.second c.requires.first.0 c.requires.second.0 c.in_default-meeting_at.ensures,
      ),
      c.after-last.ensures.near,
    )

pub returns : goal.returns
returns g c =
    let s = g.A.DaySeq.sketch c.args.a.now in
    let u = g.B.DaySeq.sketch c.args.b.now in
    let done =
    at_end s c.args.durations.first u c.args.durations.second (to_z w64 (of_z w64 c.args.day)) c.loop-next.invariant.0.0 c.loop-next.rest_a.now
    c.loop-next.rest_b.now c.loop-next.last c.loop-next.invariant.0.1 c.in_default.ensures.0 c.in_default.ensures.1 in
    (rw (to_z-of_z w64 c.args.day c.ranges.day) at done, c.loop-next.invariant.1)
