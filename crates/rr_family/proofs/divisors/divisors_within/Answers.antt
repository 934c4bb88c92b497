use Rattle.std.proofs.Common.{◌≡◌, ◌+◌, pos, nat_abs, ◌+ℤ◌, ◌-ℤ◌, arith, sym, ap, subst, ◌∙◌, w64, to_z, of_z}
use Rattle.std.proofs.lemmas.Int.{ints, to_z-of_z}
use Rattle.rr_family.specs.Divisors.{AreDivisors}
use Rattle.rr_family.specs.Lasting.{is_occupied}
use Rattle.rr_family.proofs.DivisorLemmas.{divisors_kept, divisors_next, divisors_of_none, divisors_stay}
use Rattle.rr_family.proofs.divisors.divisors_within.Goals as goal

pub loop-read-init : goal.loop-read-init
loop-read-init g c =
    (omega arith, divisors_of_none (is_occupied (g.A.DaySeq.sketch c.args.seq.now)) (to_z w64 (of_z w64 c.args.first)) c.of_one_day-divisors.result c.of_one_day-divisors.ensures)

pub returns-in_default : goal.returns-in_default
returns-in_default g c =
    let occupied = is_occupied (g.A.DaySeq.sketch c.args.seq.now) in
    let back : to_z w64 (of_z w64 c.args.first) ≡ c.args.first = to_z-of_z w64 c.args.first c.ranges.first in
    let near = c.requires.near in
    let less = c.loop-read.invariant.0 in
    let at = c.day_after.ensures in
    let from : to_z w64 (of_z w64 c.day_after.result) ≡ c.args.first +ℤ pos c.loop-read.read =
    omega (arith, ints, at, back, near.0, near.1, less, c.requires.few) in
    subst (λ z. AreDivisors c.loop-read.divisors occupied z c.args.days) back
    (divisors_kept occupied (to_z w64 (of_z w64 c.args.first)) c.loop-read.divisors c.loop-read.read c.args.days less
    (λ d l h. c.in_default.ensures d (omega (arith, ints, from, back, l)) (omega (arith, ints, from, back, h, less))) c.loop-read.invariant.1)

pub returns-then-are_one : goal.returns-then-are_one
returns-then-are_one g c =
    let occupied = is_occupied (g.A.DaySeq.sketch c.args.seq.now) in
    let back : to_z w64 (of_z w64 c.args.first) ≡ c.args.first = to_z-of_z w64 c.args.first c.ranges.first in
    let near = c.requires.near in
    let less = c.loop-read.invariant.0 in
    let at = c.day_after.ensures in
    let few = c.requires.few in
    let from : to_z w64 (of_z w64 c.day_after.result) ≡ c.args.first +ℤ pos c.loop-read.read = omega (arith, ints, at, back, near.0, near.1, less, few) in
    let low = c.in-Some.ensures.0 in
    let high = c.in-Some.ensures.1 in
    let start : c.new-start.result.number ≡ c.args.first = omega (arith, ints, c.new-start.ensures, back, near.0, near.1) in
    let same : c.in-Some.number ≡ c.new.result.number = omega (arith, ints, c.new.ensures, low, high, from, near.0, near.1, few, less) in
    let day = c.new.result.number in
    let n = nat_abs (day -ℤ c.args.first) + 1 in
    divisors_stay occupied c.args.first c.with_day-divisors.result n c.args.days (c.are_one.ensures c.if-are_one.true)
    (omega (arith, ints, same, low, high, from, less))
    (divisors_next occupied c.args.first c.loop-read.divisors c.with_day-divisors.result c.loop-read.read n c.new-start.result.number day start
    (omega (arith, ints, same, low, from)) (omega (arith, ints, same, low, from)) (λ d l h. c.in-Some.ensures.3 d (omega (arith, ints, l, from)) (omega (arith, ints, h, same)))
    (sym (ap occupied same) ∙ c.in-Some.ensures.2) c.with_day-divisors.ensures
    (subst (λ z. AreDivisors c.loop-read.divisors occupied z c.loop-read.read) back c.loop-read.invariant.1))

pub loop-read-preserved : goal.loop-read-preserved
loop-read-preserved g c =
    let occupied = is_occupied (g.A.DaySeq.sketch c.args.seq.now) in
    let first = to_z w64 (of_z w64 c.args.first) in
    let back : to_z w64 (of_z w64 c.args.first) ≡ c.args.first = to_z-of_z w64 c.args.first c.ranges.first in
    let near = c.requires.near in
    let less = c.loop-read.invariant.0 in
    let at = c.day_after.ensures in
    let few = c.requires.few in
    let from : to_z w64 (of_z w64 c.day_after.result) ≡ c.args.first +ℤ pos c.loop-read.read = omega (arith, ints, at, back, near.0, near.1, less, few) in
    let low = c.in-Some.ensures.0 in
    let high = c.in-Some.ensures.1 in
    let start : c.new-start.result.number ≡ to_z w64 (of_z w64 c.args.first) = omega (arith, ints, c.new-start.ensures, back, near.0, near.1) in
    let same : c.in-Some.number ≡ c.new.result.number = omega (arith, ints, c.new.ensures, low, high, from, near.0, near.1, few, less) in
    let through = c.days_through-read.ensures in
    let next : (to_z w64 (of_z w64 c.args.first) +ℤ pos c.days_through-read.result) ≡ c.new.result.number +ℤ pos 1 =
    omega (arith, ints, through, same, back, low, high, from, near.0, near.1, few, less) in (
      omega (arith, ints, next, same, high, from, back, less),
      divisors_next occupied first c.loop-read.divisors c.with_day-divisors.result c.loop-read.read c.days_through-read.result c.new-start.result.number
          c.new.result.number start next (omega (arith, ints, same, low, from, back))
          (λ d l h. c.in-Some.ensures.3 d (omega (arith, ints, l, from, back)) (omega (arith, ints, h, same)))
          (sym (ap occupied same) ∙ c.in-Some.ensures.2) c.with_day-divisors.ensures c.loop-read.invariant.1,
    )

pub returns : goal.returns
returns g c =
    let occupied = is_occupied (g.A.DaySeq.sketch c.args.seq.now) in
    let back : to_z w64 (of_z w64 c.args.first) ≡ c.args.first = to_z-of_z w64 c.args.first c.ranges.first in
    let all : c.loop-read.read ≡ c.args.days = omega (arith, c.loop-read.invariant.0, c.loop-read-test.false) in
    subst (λ z. AreDivisors c.loop-read.divisors occupied z c.args.days) back
    (subst (λ n. AreDivisors c.loop-read.divisors occupied (to_z w64 (of_z w64 c.args.first)) n) all c.loop-read.invariant.1)
