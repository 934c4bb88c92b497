use Rattle.std.proofs.Common.{w64, to_z, of_z, arith}
use Rattle.std.proofs.lemmas.Int.{ints}
use Rattle.rr_trip.proofs.GridLemmas.{one_listed}
use Rattle.rr_trip.proofs.grid.push_legend.Goals as goal

pub loop-i-preserved : goal.loop-i-preserved
loop-i-preserved g c =
    one_listed c.args.usual.now (g.A.DaySeq.sketch c.args.a.now) (g.B.DaySeq.sketch c.args.b.now) (to_z w64 (of_z w64 c.args.first))
    (to_z w64 (of_z w64 c.day_after-day.result)) c.loop-i.i c.args.out.now.items c.loop-i.out.items _ _
    (omega (arith, ints)) c.loop-i.invariant c.in_ok-push_unusual.ensures c.in_ok-push_unusual-2.ensures
