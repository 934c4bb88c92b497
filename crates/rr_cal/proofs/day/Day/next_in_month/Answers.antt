use Rattle.std.proofs.Common.{arith, rules, ◌≡◌, ◌∙◌, sym, ap, pos, ◌+ℤ◌, FitsSigned, w64, to_z, of_z, to_z-of_z}
use Rattle.jiff_core.proofs.SignedLemmas.{signed_arith}
use Rattle.rr_model.specs.Calendar.{days_in_year}
use Rattle.rr_cal.proofs.NextDayLemmas.{day_of_year_below, HasDateOf-next_day, day_of_year-next}
use Rattle.rr_cal.proofs.day.Day.next_in_month.Goals as goal

pub overflow_add-result-3 : goal.overflow_add-result-3
overflow_add-result-3 c =
    let day = c.args.self.now in
    omega (arith, day.of_day_of_year, day_of_year_below day.number)

pub invariant_of-result : goal.invariant_of-result
invariant_of-result c =
    let day = c.args.self.now in
    let d = day.number in
    let next : to_z w64 (of_z w64 (to_z w64 (of_z w64 d) +ℤ pos 1)) ≡ d +ℤ pos 1 = omega (arith, signed_arith, c.requires.near, day.near) in
    let fits : FitsSigned w64 day.year = search rules in
    let year = to_z-of_z fits in
    let date = HasDateOf-next_day d (omega (arith, c.requires.inside, day.of_day_of_month, day.of_days_in_month)) in
    rw (next, year) (record {
      near = c.requires.near;
      of_year = day.of_year ∙ sym date.year;
      of_month = day.of_month ∙ sym date.month;
      of_day_of_month = omega (arith, day.of_day_of_month, date.day);
      of_days_in_month = rw (date.year, date.month) day.of_days_in_month;
      of_day_of_year = omega (arith, day.of_day_of_year, day_of_year-next d date.year);
      of_days_in_year = day.of_days_in_year ∙ ap days_in_year (sym date.year);
      of_weekday = c.next_weekday.ensures;
    })
