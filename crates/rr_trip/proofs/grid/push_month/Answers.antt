use Rattle.std.proofs.Common.{codes, to_z-of_z}
use Rattle.rr_trip.specs.Grid.{cells_text, head_text, month_length}
use Rattle.rr_trip.proofs.GridLemmas.{put_three}
use Rattle.rr_trip.proofs.grid.push_month.Goals as goal

pub returns : goal.returns
returns g c =
    let same = to_z-of_z c.ranges.first in
    put_three c.push.result c.push.new.out.items c.push_cells.new.out.items c.push_head.new.out.items c.args.out.now.items (head_text c.args.first)
    (cells_text (g.A.DaySeq.sketch c.args.a.now) (g.B.DaySeq.sketch c.args.b.now) c.args.first (month_length c.args.first)) (codes "\n")
    (rw same at c.in_ok-push_head.ensures) (rw (c.month_length.ensures, same) at c.in_ok-push_cells.ensures) c.push.ensures
