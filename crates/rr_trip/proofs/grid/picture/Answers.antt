use Rattle.std.proofs.Common.{FitsSigned, rules, to_z-of_z, w64}
use Rattle.rr_trip.proofs.GridLemmas.{first_answered, is_picture}
use Rattle.rr_trip.proofs.grid.picture.Goals as goal

pub returns : goal.returns
returns g c = λ near.
    let fits : FitsSigned w64 c.in-Some.first = search rules in
    let same = to_z-of_z fits in
    is_picture (g.A.DaySeq.sketch c.args.a.now) (g.B.DaySeq.sketch c.args.b.now) c.args.day c.in-Some.first c.new-out.result.items
    c.push_months.new.out.items _ c.usual_times.result.now c.new-out.ensures.items
    (first_answered c.args.day c.in-Some.first c.first_painted.result c.in-Some.is (rw (to_z-of_z c.ranges.day) at c.first_painted.ensures.near) near)
    (rw same at c.in_ok-push_months.ensures) (rw same at c.usual_times.ensures) (rw same at c.in_ok-push_notes.ensures)
