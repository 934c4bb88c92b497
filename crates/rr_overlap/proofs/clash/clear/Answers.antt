use Rattle.std.proofs.Common.{w64, to_z, of_z, ◌≤◌, arith}
use Rattle.std.proofs.lemmas.Int.{ints, clamps}
use Rattle.rr_overlap.proofs.RunningLemmas.{clash_at, never_shared}
use Rattle.rr_overlap.proofs.WindowLemmas.{clear_for_ever}
use Rattle.rr_overlap.proofs.clash.clear.Goals as goal

pub days_between-requires-clause-to_near : goal.days_between-requires-clause-to_near
days_between-requires-clause-to_near g c = (
  omega (arith, ints, clamps, c.in-Some.ensures.near.0, c.settled.ensures.near.0, c.settled-2.ensures.near.0),
  omega (arith, ints, clamps, c.in-Some.ensures.near.1, c.settled.ensures.near.1, c.settled-2.ensures.near.1),
)

pub first_meeting-requires-clause-high : goal.first_meeting-requires-clause-high
first_meeting-requires-clause-high g c =
    let few : c.common_cycle.result ≤ 16_777_216 = rw (c.common_cycle.ensures, c.period.ensures.value, c.period-2.ensures.value) c.requires.cycle in
    let value = c.days_between.ensures.value in
    omega (arith, ints, clamps, c.in-Some.ensures.near.1, c.settled.ensures.near.1, c.settled-2.ensures.near.1)

pub returns-in-None-clause-verdict : goal.returns-in-None-clause-verdict
returns-in-None-clause-verdict g c =
    let s = g.A.DaySeq.sketch c.args.a.now in
    let u = g.B.DaySeq.sketch c.args.b.now in
    never_shared s c.args.duration_a u c.args.duration_b (λ z.
    clear_for_ever s c.args.duration_a u c.args.duration_b c.max-last.result
    (to_z w64 (of_z w64 c.in-Some.from)) z c.days_between.result _ _ c.common_cycle.result
    (g.met.A.DaySeq.bounded c.args.a.now).valid (g.met.B.DaySeq.bounded c.args.b.now).valid (omega (arith, ints, clamps)) (omega (arith, ints, clamps))
    c.period.ensures.value c.period-2.ensures.value c.common_cycle.ensures c.requires.first.1 c.requires.second.1 (omega (arith, ints))
    c.in-None.ensures.none)

pub returns-in-Some-first_meeting-clause-verdict : goal.returns-in-Some-first_meeting-clause-verdict
returns-in-Some-first_meeting-clause-verdict g c =
    let s = g.A.DaySeq.sketch c.args.a.now in
    let u = g.B.DaySeq.sketch c.args.b.now in
    let m = c.in-Some-first_meeting.meeting in
    clash_at s c.args.duration_a u c.args.duration_b c.kind.result c.kind-in-Some-first_meeting.result m.at m.first m.second (to_z w64 (of_z w64 m.at))
    (to_z w64 (of_z w64 m.first)) (to_z w64 (of_z w64 m.second)) c.occurrence_at.result c.occurrence_at-in-Some-first_meeting.result
    (to_z w64 (of_z w64 c.occurrence_at.result)) (to_z w64 (of_z w64 c.occurrence_at-in-Some-first_meeting.result))
    (g.met.A.DaySeq.bounded c.args.a.now).valid (g.met.B.DaySeq.bounded c.args.b.now).valid c.in-Some-first_meeting.ensures.some c.kind.ensures
    c.kind-in-Some-first_meeting.ensures (omega (arith, ints)) (omega (arith, ints)) (omega (arith, ints)) c.occurrence_at.ensures
    c.occurrence_at-in-Some-first_meeting.ensures (omega (arith, ints)) (omega (arith, ints))
