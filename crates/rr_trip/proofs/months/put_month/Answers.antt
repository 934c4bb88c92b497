use Rattle.std.proofs.Common.{to_z-of_z, to_z, of_z, w64}
use Rattle.rr_trip.proofs.MonthLemmas.{none_put, one_put}
use Rattle.rr_trip.proofs.months.put_month.Goals as goal

pub returns-then-not-has_month : goal.returns-then-not-has_month
returns-then-not-has_month g c =
    none_put (g.A.DaySeq.sketch c.args.a.now) (g.B.DaySeq.sketch c.args.b.now) (to_z w64 (of_z w64 c.args.first)) c.args.first c.args.months.now.items
    c.has_month.result (to_z-of_z c.ranges.first) c.has_month.ensures c.if-not-has_month.true

pub returns : goal.returns
returns g c =
    one_put (g.A.DaySeq.sketch c.args.a.now) (g.B.DaySeq.sketch c.args.b.now) (to_z w64 (of_z w64 c.args.first)) c.args.first c.args.months.now.items
    _ c.in_ok-month.month c.has_month.result (to_z-of_z c.ranges.first) c.has_month.ensures c.if-not-has_month.false c.in_ok-month.ensures
    c.in_ok-push.ensures.items
