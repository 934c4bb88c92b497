use Rattle.std.proofs.Common.{w64, to_z, of_z, arith}
use Rattle.std.proofs.lemmas.Int.{ints}
use Rattle.rr_trip.proofs.MonthLemmas.{one_sign}
use Rattle.rr_trip.proofs.months.signs_from.Goals as goal

pub loop-i-preserved : goal.loop-i-preserved
loop-i-preserved g c =
    one_sign (g.A.DaySeq.sketch c.args.a.now) (g.B.DaySeq.sketch c.args.b.now) (to_z w64 (of_z w64 c.args.first))
    (to_z w64 (of_z w64 c.day_after.result)) c.loop-i.i c.day_sign.result c.loop-i.signs.items _
    (omega (arith, ints)) c.loop-i.invariant c.day_sign.ensures c.in_ok-push.ensures.items
