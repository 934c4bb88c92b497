use Rattle.std.proofs.Common.{to_z-of_z}
use Rattle.rr_trip.specs.Grid.{months_legend, usual_text}
use Rattle.rr_trip.proofs.GridLemmas.{put_last}
use Rattle.rr_trip.proofs.grid.push_day_times.Goals as goal

pub returns : goal.returns
returns g c =
    let a = g.A.DaySeq.sketch c.args.a.now in
    let b = g.B.DaySeq.sketch c.args.b.now in
    put_last c.push_months_legend.result c.push_months_legend.new.out.items c.push_usual.new.out.items c.args.out.now.items
    (usual_text a.kind b.kind c.args.usual.now) (months_legend c.args.usual.now a b c.args.first)
    (rw (c.kind.ensures, c.kind-2.ensures) at c.in_ok-push_usual.ensures) (rw (to_z-of_z c.ranges.first) at c.push_months_legend.ensures)
