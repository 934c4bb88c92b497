use Rattle.std.proofs.Common.{FitsSigned, to_z-of_z, w64, ◌∙◌}
use Rattle.rr_trip.specs.Grid.{month_legend}
use Rattle.rr_trip.proofs.GridLemmas.{months_put}
use Rattle.rr_trip.proofs.grid.push_months_legend.Goals as goal

pub returns : goal.returns
returns g c =
    let back = to_z-of_z c.ranges.first in
    let second : FitsSigned w64 c.month_after-second.result = record { sfits = c.month_after-second.type_inv } in
    let third : FitsSigned w64 c.month_after-third.result = record { sfits = c.month_after-third.type_inv } in
    months_put c.push_month_legend-3.result c.push_month_legend-3.new.out.items c.push_month_legend-2.new.out.items c.push_month_legend.new.out.items c.args.out.now.items
    (month_legend c.args.usual.now (g.A.DaySeq.sketch c.args.a.now) (g.B.DaySeq.sketch c.args.b.now)) c.args.first _ _
    (to_z-of_z second ∙ (rw back at c.month_after-second.ensures.value)) (to_z-of_z third ∙ c.month_after-third.ensures.value)
    (rw back at c.in_ok-push_month_legend.ensures) c.in_ok-push_month_legend-2.ensures c.push_month_legend-3.ensures
