use Rattle.std.proofs.Common.{w64, to_z, of_z, arith}
use Rattle.std.proofs.lemmas.Int.{ints}
use Rattle.rr_trip.proofs.GridLemmas.{one_marked}
use Rattle.rr_trip.proofs.grid.has_mark.Goals as goal

pub loop-i-preserved : goal.loop-i-preserved
loop-i-preserved g c =
    one_marked (g.A.DaySeq.sketch c.args.a.now) (g.B.DaySeq.sketch c.args.b.now) (to_z w64 (of_z w64 c.args.first))
    (to_z w64 (of_z w64 c.day_after.result)) c.loop-i.i c.loop-i.marked _ c.day_sign.result
    (omega (arith, ints)) c.loop-i.invariant c.day_sign.ensures c.is_marked_after-marked.ensures
