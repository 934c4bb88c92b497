use Rattle.std.proofs.Common.{◌≡◌, pos, ◌+ℤ◌, arith}
use Rattle.std.proofs.lemmas.Int.{ints}
use Rattle.rr_model.specs.Moment.Units.{first_day_of_month}
use Rattle.rr_days.proofs.BackLemmas.{back}
use Rattle.rr_skip.specs.Months.{length_of_month}
use Rattle.rr_skip.proofs.MonthLemmas.{month_ends}
use Rattle.rr_skip.proofs.MonthSumLemmas.{sum_fits, sum_is}
use Rattle.rr_skip.proofs.months.Month.next.Goals as goal

pub overflow_add-result : goal.overflow_add-result
overflow_add-result c =
    let m = c.args.self.now in
    sum_fits m.number m.first c.from.result m.length m.near m.of_first m.of_length c.from.ensures

pub invariant_of-result : goal.invariant_of-result
invariant_of-result c =
    let m = c.args.self.now in
    let near = c.requires.near in
    let n = m.number +ℤ pos 1 in
    let own = back m.number (omega (arith, ints, m.near.0)) (omega (arith, ints, m.near.1)) in
    let later = back n (omega (arith, ints, near.0)) (omega (arith, ints, near.1)) in
    let sum = sum_is m.number m.first c.from.result m.length m.near m.of_first m.of_length c.from.ensures in
    let next : first_day_of_month (n +ℤ pos 1) ≡ first_day_of_month n +ℤ pos c.days_in_unit.result = rw (own, later) at (c.days_in_unit.ensures.next 0) in
    let long : c.days_in_unit.result ≡ length_of_month n = omega (arith, ints, next, month_ends n) in
    record { near = rw (own, later) near; of_first = rw (own, later) sum; of_length = rw (own, later) long }
