use Rattle.std.proofs.Common.{◌∙◌, ap, arith, rules, tests, to_z, of_z, to_z-of_z, w64}
use Rattle.std.proofs.lemmas.Int.{ints}
use Rattle.rr_trip.specs.Grid.{usual_times}
use Rattle.rr_trip.proofs.GridLemmas.{usual_found, usual_next, usual_none}
use Rattle.rr_trip.proofs.grid.usual_times.Goals as goal

pub loop-i-init : goal.loop-i-init
loop-i-init g c = usual_none _ _ _

pub returns-then-not-is_empty : goal.returns-then-not-is_empty
returns-then-not-is_empty g c =
    let a = g.A.DaySeq.sketch c.args.a.now in
    let b = g.B.DaySeq.sketch c.args.b.now in
    usual_found a b (to_z w64 (of_z w64 c.args.first)) c.loop-i.i c.times_of_day-times.result.now (to_z w64 (of_z w64 c.day_after.result))
    (omega (arith, ints)) c.times_of_day-times.ensures c.loop-i.invariant 92 (omega arith) (search (rules, tests, arith))
    ∙ ap (λ z. usual_times a b z 92) (to_z-of_z c.ranges.first)

pub loop-i-preserved : goal.loop-i-preserved
loop-i-preserved g c =
    let a = g.A.DaySeq.sketch c.args.a.now in
    let b = g.B.DaySeq.sketch c.args.b.now in
    usual_next a b (to_z w64 (of_z w64 c.args.first)) c.loop-i.i c.times_of_day-times.result.now (to_z w64 (of_z w64 c.day_after.result))
    (omega (arith, ints)) c.times_of_day-times.ensures c.loop-i.invariant (search (rules, tests, arith))

pub returns : goal.returns
returns g c = search (rules, arith)
