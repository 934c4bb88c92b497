use Rattle.std.proofs.Common.{FitsSigned, to_z-of_z, w64, ◌∙◌}
use Rattle.rr_trip.proofs.MonthLemmas.{three_put}
use Rattle.rr_trip.proofs.months.put_months.Goals as goal

pub returns : goal.returns
returns g c =
    let back = to_z-of_z c.ranges.first in
    let second : FitsSigned w64 c.month_after-second.result = record { sfits = c.month_after-second.type_inv } in
    let third : FitsSigned w64 c.month_after-third.result = record { sfits = c.month_after-third.type_inv } in
    three_put c.put_month-3.result (g.A.DaySeq.sketch c.args.a.now) (g.B.DaySeq.sketch c.args.b.now) c.args.first _ _ c.args.months.now.items
    c.put_month.new.months.items c.put_month-2.new.months.items c.put_month-3.new.months.items
    (to_z-of_z second ∙ (rw back at c.month_after-second.ensures.value)) (to_z-of_z third ∙ c.month_after-third.ensures.value)
    (rw back at c.in_ok-put_month.ensures) c.in_ok-put_month-2.ensures c.put_month-3.ensures
