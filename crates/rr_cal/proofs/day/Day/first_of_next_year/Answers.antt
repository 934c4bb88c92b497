use Rattle.std.proofs.Common.{arith, ◌≡◌, refl, ◌∙◌, sym, ap, pos, ◌+ℤ◌, w64, to_z, of_z}
use Rattle.jiff_core.proofs.SignedLemmas.{signed_arith}
use Rattle.rr_model.specs.Calendar.{days_in_year}
use Rattle.rr_cal.proofs.UnitLemmas.{year_near}
use Rattle.rr_cal.proofs.NextDayLemmas.{HasDateOf-next_year, day_of_year-january_1}
use Rattle.rr_cal.proofs.day.Day.first_of_next_year.Goals as goal

pub overflow_add-year : goal.overflow_add-year
overflow_add-year c =
    let day = c.args.self.now in
    let near = year_near day.number day.year day.of_year day.near in
    omega (arith, signed_arith, near.0, near.1)

pub invariant_of-result : goal.invariant_of-result
invariant_of-result c =
    let day = c.args.self.now in
    let d = day.number in
    let next : to_z w64 (of_z w64 (to_z w64 (of_z w64 d) +ℤ pos 1)) ≡ d +ℤ pos 1 = omega (arith, signed_arith, c.requires.near, day.near) in
    let near = year_near day.number day.year day.of_year day.near in
    let year : to_z w64 (of_z w64 (to_z w64 (of_z w64 day.year) +ℤ pos 1)) ≡ day.year +ℤ pos 1 = omega (arith, signed_arith, near.0, near.1) in
    let last = sym day.of_day_of_month ∙ c.requires.last_day ∙ day.of_days_in_month in
    let date = HasDateOf-next_year d last (sym day.of_month ∙ c.requires.last_month) in
    let is_year = ap (λ y. y +ℤ pos 1) day.of_year ∙ sym date.year in
    rw (next, year) (record {
      near = c.requires.near;
      of_year = is_year;
      of_month = sym date.month;
      of_day_of_month = sym date.day;
      of_days_in_month = rw date.month refl;
      of_day_of_year = sym (day_of_year-january_1 (d +ℤ pos 1) _ date);
      of_days_in_year = c.days_in_year.ensures ∙ ap days_in_year (year ∙ is_year);
      of_weekday = c.next_weekday.ensures;
    })
