use Rattle.std.proofs.Common.{◌≡◌, ℕ, ◌++◌, codes, subst, to_z-of_z, OnOk}
use Rattle.rr_model.specs.Calendar.{weekday_of}
use Rattle.rr_trip.specs.Grid.{first_row, month_name}
use Rattle.rr_trip.proofs.GridLemmas.{put_four}
use Rattle.rr_trip.proofs.grid.push_head.Goals as goal

pub returns : goal.returns
returns c =
    let same = to_z-of_z c.ranges.first in
    put_four c.push_first_row.result c.push_first_row.new.out.items c.push-2.new.out.items c.push_month_name.new.out.items c.push.new.out.items
    c.args.out.now.items (codes "\n") (month_name c.args.first) (codes "\n  Mo  Tu  We  Th  Fr  Sa  Su") (first_row (weekday_of c.args.first))
    c.in_ok-push.ensures (rw same at c.in_ok-push_month_name.ensures) c.in_ok-push-2.ensures
    (subst (λ (n : ℕ). OnOk c.push_first_row.result (c.push_first_row.new.out.items ≡ c.push-2.new.out.items ++ first_row n))
    (rw same at c.weekday.ensures.value) c.push_first_row.ensures)
