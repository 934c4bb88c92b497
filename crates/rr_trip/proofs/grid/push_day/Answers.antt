use Rattle.std.proofs.Common.{◌≡◌, ◌∙◌, ◌++◌, ap, codes, to_z-of_z}
use Rattle.rr_model.specs.Calendar.{day_of_month}
use Rattle.rr_model.specs.Text.Moments.{decimal_of}
use Rattle.rr_trip.specs.Grid.{month_name, times_text}
use Rattle.rr_trip.proofs.GridLemmas.{put_last, put_next}
use Rattle.rr_trip.proofs.grid.push_day.Goals as goal

pub returns : goal.returns
returns c =
    let same = to_z-of_z c.ranges.day in
    let number : c.two_digits.result ≡ decimal_of 2 (day_of_month c.args.day) =
    c.two_digits.ensures ∙ ap (decimal_of 2) (c.from.ensures ∙ (rw same at c.day_of_month.ensures.value)) in
    let old = c.args.out.now.items in
    let to_number =
    put_next old c.push.new.out.items c.push-2.new.out.items (month_name c.args.day ++ codes "-") (decimal_of 2 (day_of_month c.args.day))
    (put_next old c.push_month_name.new.out.items c.push.new.out.items (month_name c.args.day) (codes "-") (rw same at c.in_ok-push_month_name.ensures)
    c.in_ok-push.ensures) (c.in_ok-push-2.ensures ∙ ap (λ x. c.push.new.out.items ++ x) number) in
    let date = (month_name c.args.day ++ codes "-") ++ decimal_of 2 (day_of_month c.args.day) in
    let to_name =
    put_next old c.push-3.new.out.items c.push-4.new.out.items (date ++ codes " ") c.args.name.now
    (put_next old c.push-2.new.out.items c.push-3.new.out.items date (codes " ") to_number c.in_ok-push-3.ensures) c.in_ok-push-4.ensures in
    put_last c.push-5.result c.push-5.new.out.items c.push_times.new.out.items old (((date ++ codes " ") ++ c.args.name.now) ++ times_text c.args.times.now)
    (codes "\n") (put_next old c.push-4.new.out.items c.push_times.new.out.items ((date ++ codes " ") ++ c.args.name.now) (times_text c.args.times.now) to_name
    c.in_ok-push_times.ensures) c.push-5.ensures
