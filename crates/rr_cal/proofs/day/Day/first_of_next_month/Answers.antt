use Rattle.std.proofs.Common.{arith, rules, ◌≡◌, ◌∙◌, sym, ap, ◌+◌, pos, ◌+ℤ◌, FitsSigned, w64, to_z, of_z, to_z-of_z}
use Rattle.jiff_core.proofs.SignedLemmas.{signed_arith}
use Rattle.rr_model.specs.Calendar.{days_in_month, days_in_year, year_of, month_of}
use Rattle.rr_cal.proofs.NextDayLemmas.{day_of_year_below, HasDateOf-next_month, day_of_year-next}
use Rattle.rr_cal.proofs.day.Day.first_of_next_month.Goals as goal

pub overflow_add-result-2 : goal.overflow_add-result-2
overflow_add-result-2 c =
    let day = c.args.self.now in
    omega (arith, day.of_day_of_year, day_of_year_below day.number)

pub invariant_of-result : goal.invariant_of-result
invariant_of-result c =
    let day = c.args.self.now in
    let d = day.number in
    let next : to_z w64 (of_z w64 (to_z w64 (of_z w64 d) +ℤ pos 1)) ≡ d +ℤ pos 1 = omega (arith, signed_arith, c.requires.near, day.near) in
    let fits : FitsSigned w64 day.year = search rules in
    let year = to_z-of_z fits in
    let last = sym day.of_day_of_month ∙ c.requires.last ∙ day.of_days_in_month in
    let date = HasDateOf-next_month d last (omega (arith, c.requires.inside, day.of_month)) in
    let is_year = day.of_year ∙ sym date.year in
    let is_month : day.month + 1 ≡ month_of (d +ℤ pos 1) = omega (arith, day.of_month, date.month) in
    rw (next, year) (record {
      near = c.requires.near;
      of_year = is_year;
      of_month = is_month;
      of_day_of_month = sym date.day;
      of_days_in_month = c.days_in_month.ensures ∙ ap (λ y. days_in_month y (day.month + 1)) (year ∙ is_year)
          ∙ ap (days_in_month (year_of (d +ℤ pos 1))) is_month;
      of_day_of_year = omega (arith, day.of_day_of_year, day_of_year-next d date.year);
      of_days_in_year = day.of_days_in_year ∙ ap days_in_year (sym date.year);
      of_weekday = c.next_weekday.ensures;
    })
