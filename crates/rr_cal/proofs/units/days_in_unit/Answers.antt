use Rattle.std.proofs.Common.{rules, ◌≡◌, ◌∙◌, ap, refl, ◌+◌, w64, to_z, of_z, to_z-of_z, FitsSigned}
use Rattle.rr_model.specs.Whole.{floor_div, floor_mod}
use Rattle.rr_model.specs.Calendar.{days_in_month}
use Rattle.rr_model.proofs.CalendarLemmas.{first_day_of_year-next}
use Rattle.rr_model.proofs.FloorLemmas.{quotient_is}
use Rattle.rr_cal.proofs.DayUnitLemmas.{week_next, month_next}
use Rattle.rr_cal.proofs.units.days_in_unit.Goals as goal

pub returns-in-Weekly-clause-next : goal.returns-in-Weekly-clause-next
returns-in-Weekly-clause-next c = λ w. rw c.in-Weekly.is (week_next c.args.unit w)

pub returns-in-Monthly-clause-next : goal.returns-in-Monthly-clause-next
returns-in-Monthly-clause-next c = λ w.
    let unit = c.args.unit in
    let fits : FitsSigned w64 c.div_euclid.result = search rules in
    let year : to_z w64 (of_z w64 c.div_euclid.result) ≡ floor_div unit 12 =
    to_z-of_z fits ∙ quotient_is _ c.div_euclid.result unit 12 c.div_euclid.ensures (to_z-of_z c.ranges.unit) in
    let month : c.month_of_year.result ≡ floor_mod unit 12 + 1 = c.month_of_year.ensures ∙ ap (λ z. floor_mod z 12 + 1) (to_z-of_z c.ranges.unit) in
    let many : c.from.result ≡ days_in_month (floor_div unit 12) (floor_mod unit 12 + 1) = c.from.ensures ∙ c.days_in_month.ensures ∙ rw (year, month) refl in
    rw (c.in-Monthly.is, many) (month_next unit)

pub returns-in-Yearly-clause-next : goal.returns-in-Yearly-clause-next
returns-in-Yearly-clause-next c = λ w. rw (c.in-Yearly.is, c.days_in_year.ensures, to_z-of_z c.ranges.unit) (first_day_of_year-next c.args.unit)
