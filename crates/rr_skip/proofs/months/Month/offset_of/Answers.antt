use Rattle.std.proofs.Common.{rules, pos, neg_ℤ, ◌-ℤ◌, ◌≤ℤ◌, arith}
use Rattle.std.proofs.lemmas.Int.{ints}
use Rattle.rr_days.proofs.BackLemmas.{back}
use Rattle.rr_skip.proofs.MonthLemmas.{near_first}
use Rattle.rr_skip.proofs.months.Month.offset_of.Goals as goal

pub overflow_sub-result : goal.overflow_sub-result
overflow_sub-result c =
    let m = c.args.self.now in
    let f = near_first m.number m.near in
    let b = back m.first (omega (arith, ints, f.0, m.of_first)) (omega (arith, ints, f.1, m.of_first)) in
    let d = back c.args.day (omega (arith, ints, c.requires.0)) (omega (arith, ints, c.requires.1)) in
    rw (d, b) (let low : neg_ℤ (pos 3_500_000_000_000) ≤ℤ (c.args.day -ℤ m.first) = omega (arith, ints, c.requires.0, f.1, m.of_first) in
    let high : (c.args.day -ℤ m.first) ≤ℤ pos 3_500_000_000_000 = omega (arith, ints, c.requires.1, f.0, m.of_first) in
    search rules)

pub returns : goal.returns
returns c =
    let m = c.args.self.now in
    let f = near_first m.number m.near in
    let b = back m.first (omega (arith, ints, f.0, m.of_first)) (omega (arith, ints, f.1, m.of_first)) in
    let d = back c.args.day (omega (arith, ints, c.requires.0)) (omega (arith, ints, c.requires.1)) in
    let e = back (c.args.day -ℤ m.first) (omega (arith, ints, c.requires.0, f.1, m.of_first)) (omega (arith, ints, c.requires.1, f.0, m.of_first)) in
    rw (d, b, e) (omega (arith, ints, m.of_first))
