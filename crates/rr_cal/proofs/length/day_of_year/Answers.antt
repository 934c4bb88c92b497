use Rattle.std.proofs.Common.{arith, ◌≡◌, ◌∙◌, ap, ℤ, pos, unsigned_abs, w16, to_z, of_z}
use Rattle.std.specs.Int.{int_div_euclid}
use Rattle.jiff_core.proofs.SignedLemmas.{signed_arith}
use Rattle.rr_model.specs.Calendar.{day_number, day_of_year, year_of}
use Rattle.rr_model.proofs.CalendarLemmas.{days_into_year_below, days_in_year_bounds}
use Rattle.rr_cal.proofs.JiffLemmas.{day_of_year-jiff}
use Rattle.rr_cal.proofs.length.day_of_year.Goals as goal

-- the number of a day in its year, cast
cast_is : (z d : ℤ) → z ≡ pos (day_of_year d) → unsigned_abs (to_z w16 (of_z w16 z)) ≡ day_of_year d
unfolding day_of_year
cast_is z d e = omega (arith, signed_arith, e, days_into_year_below d, days_in_year_bounds (year_of d))

pub returns : goal.returns
returns c =
    let d = c.args.date in
    let inner = c.in_first_cycle in
    let same = day_of_year-jiff d.year
    (int_div_euclid d.year (pos 400)) d.month d.day inner.result inner.ensures.year inner.ensures.month inner.ensures.day c.requires in
    cast_is c.day_of_year.result (day_number d.year d.month d.day) (c.day_of_year.ensures ∙ ap pos same)
