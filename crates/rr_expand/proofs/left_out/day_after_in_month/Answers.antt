use Rattle.std.proofs.Common.{arith, rules, ◌≡◌, ◌<◌, ◌+◌, ◌%◌, ◌∙◌, sym, ap, pos, ◌+ℤ◌, FitsSigned, w64, to_z, of_z, to_z-of_z}
use Rattle.std.proofs.lemmas.Int.{ints}
use Rattle.rr_model.specs.Calendar.{days_in_year, weekday_of}
use Rattle.rr_model.proofs.CalendarLemmas.{days_in_month_bounds, weekday_of_below}
use Rattle.rr_parts.proofs.DayLemmas.{in_year}
use Rattle.rr_expand.proofs.LeftOutLemmas.{in_month, day_of_year-later, weekday_of-later}
use Rattle.rr_expand.proofs.left_out.day_after_in_month.Goals as goal

pub overflow_add-result-3 : goal.overflow_add-result-3
overflow_add-result-3 c =
    let day = c.args.day.now in
    let low = in_year day.number _ _ day.of_day_of_year day.of_days_in_year in
    omega (arith, low.1, low.2, c.from-2.ensures, c.ranges.days.fits)

pub overflow_add-result-4 : goal.overflow_add-result-4
overflow_add-result-4 c = let day = c.args.day.now in omega (arith, day.of_weekday, weekday_of_below day.number)

pub invariant_of-result : goal.invariant_of-result
invariant_of-result c =
    let day = c.args.day.now in
    let d = day.number in
    let n = c.args.days in
    let next : to_z w64 (of_z w64 (to_z w64 (of_z w64 d) +ℤ to_z w64 (of_z w64 c.from.result))) ≡ d +ℤ pos n =
    omega (arith, ints, c.from.ensures, c.requires.near, day.near) in
    let fits : FitsSigned w64 day.year = search rules in
    let year = to_z-of_z fits in
    let date = in_month d n (omega (arith, c.requires.inside, day.of_day_of_month, day.of_days_in_month)) in
    let of_weekday : (day.weekday + n % 7) % 7 ≡ weekday_of (d +ℤ pos n) = omega (arith, weekday_of-later d n, day.of_weekday) in
    rw (next, year) (record {
      near = c.requires.near;
      of_year = day.of_year ∙ sym date.year;
      of_month = day.of_month ∙ sym date.month;
      of_day_of_month = omega (arith, day.of_day_of_month, date.day);
      of_days_in_month = rw (date.year, date.month) day.of_days_in_month;
      of_day_of_year = omega (arith, day.of_day_of_year, day_of_year-later d n date.year, c.from-2.ensures);
      of_days_in_year = day.of_days_in_year ∙ ap days_in_year (sym date.year);
      of_weekday = of_weekday;
    })
