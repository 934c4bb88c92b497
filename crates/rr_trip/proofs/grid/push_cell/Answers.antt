use Rattle.std.proofs.Common.{◌≡◌, ◌∙◌, ap, subst, to_z-of_z, ℕ, [], ◌∷◌, ◌++◌, codes, OnOk}
use Rattle.rr_model.specs.Calendar.{day_of_month, weekday_of}
use Rattle.rr_trip.specs.Grid.{day_sign, row_text, two_columns}
use Rattle.rr_trip.proofs.GridLemmas.{put_four}
use Rattle.rr_trip.proofs.grid.push_cell.Goals as goal

pub returns : goal.returns
returns g c =
    let same = to_z-of_z c.ranges.day in
    let day = c.args.day in
    let sign = day_sign (g.A.DaySeq.sketch c.args.a.now) (g.B.DaySeq.sketch c.args.b.now) day in
    let columns : c.two_columns.result ≡ two_columns (day_of_month day) =
    c.two_columns.ensures ∙ ap two_columns (rw same at c.day_of_month.ensures.value) in
    put_four c.push-3.result c.push-3.new.out.items c.push-2.new.out.items c.push.new.out.items c.push_row.new.out.items c.args.out.now.items
    (row_text (weekday_of day)) (codes " ") (two_columns (day_of_month day)) (sign ∷ []) (rw same at c.in_ok-push_row.ensures) c.in_ok-push.ensures
    (c.in_ok-push-2.ensures ∙ ap (λ x. c.push.new.out.items ++ x) columns)
    (subst (λ (n : ℕ). OnOk c.push-3.result (c.push-3.new.out.items ≡ c.push-2.new.out.items ++ n ∷ [])) (rw same at c.day_sign.ensures) c.push-3.ensures)
