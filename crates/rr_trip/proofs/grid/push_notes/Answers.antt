use Rattle.std.proofs.Common.{codes, to_z-of_z}
use Rattle.rr_trip.specs.Grid.{day_times_text}
use Rattle.rr_trip.proofs.GridLemmas.{put_last}
use Rattle.rr_trip.proofs.grid.push_notes.Goals as goal

pub returns : goal.returns
returns g c =
    put_last c.push_day_times.result c.push_day_times.new.out.items c.push.new.out.items c.args.out.now.items
    (codes "\n= both, x both at other times, A or B one alone, . none\n")
    (day_times_text c.args.usual.now (g.A.DaySeq.sketch c.args.a.now) (g.B.DaySeq.sketch c.args.b.now) c.args.first)
    c.in_ok-push.ensures (rw (to_z-of_z c.ranges.first) at c.push_day_times.ensures)
