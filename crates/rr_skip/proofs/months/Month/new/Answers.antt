use Rattle.std.proofs.Common.{◌≡◌, pos, ◌+ℤ◌, arith}
use Rattle.std.proofs.lemmas.Int.{ints}
use Rattle.rr_model.specs.Moment.Units.{first_day_of_month}
use Rattle.rr_days.proofs.BackLemmas.{back}
use Rattle.rr_skip.specs.Months.{length_of_month}
use Rattle.rr_skip.proofs.MonthLemmas.{near_first, month_ends}
use Rattle.rr_skip.proofs.months.Month.new.Goals as goal

pub first_day_of_unit-requires-clause-near : goal.first_day_of_unit-requires-clause-near
first_day_of_unit-requires-clause-near c =
    let n = c.args.number in
    let b = back n (omega (arith, ints, c.requires.near.0)) (omega (arith, ints, c.requires.near.1)) in
    let f = near_first n c.requires.near in
    rw b (omega (arith, ints, f.0), omega (arith, ints, f.1))

pub invariant_of-result : goal.invariant_of-result
invariant_of-result c =
    let n = c.args.number in
    let b = back n (omega (arith, ints, c.requires.near.0)) (omega (arith, ints, c.requires.near.1)) in
    let first : c.first_day_of_unit.result ≡ first_day_of_month n = rw b at c.first_day_of_unit.ensures in
    let f = near_first n c.requires.near in
    let d = back c.first_day_of_unit.result (omega (arith, ints, f.0, first)) (omega (arith, ints, f.1, first)) in
    let next : first_day_of_month (n +ℤ pos 1) ≡ first_day_of_month n +ℤ pos c.days_in_unit.result = rw b at (c.days_in_unit.ensures.next 0) in
    let long : c.days_in_unit.result ≡ length_of_month n = omega (arith, ints, next, month_ends n) in
    record { near = rw b c.requires.near; of_first = rw (b, d) first; of_length = rw b long }
