use Rattle.std.proofs.Common.{◌≡◌, ◌+◌, ◌-◌, ℕ, pos, ◌+ℤ◌, false, ap, sym, ◌∙◌, arith}
use Rattle.rr_model.proofs.CalendarLemmas.{days_in_month_bounds}
use Rattle.rr_model.specs.Calendar.{year_of, month_of}
use Rattle.rr_expand.specs.Years.{allows_day}
use Rattle.rr_expand.proofs.left_out.days_on_in_month.Goals as goal

pub returns-then-day-clause-few : goal.returns-then-day-clause-few
returns-then-day-clause-few c =
    let day = c.args.day.now in
    omega (arith, c.next_in_month.ensures.within, day.of_days_in_month, (days_in_month_bounds (year_of day.number) (month_of day.number)).1)

pub returns-then-day-clause-none : goal.returns-then-day-clause-none
returns-then-day-clause-none c j some below =
    let day = c.args.day.now in
    let back : (day.day_of_month + j) - day.day_of_month ≡ j = omega arith in
    ap (λ n. allows_day (record { rule = c.args.rule.now; start_day = c.args.start.now.number }) (day.number +ℤ pos n)) (sym back)
    ∙ c.next_in_month.ensures.none (day.day_of_month + j) (omega (arith, some)) (omega (arith, below))
