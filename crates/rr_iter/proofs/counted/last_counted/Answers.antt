use Rattle.std.proofs.Common.{◌≡◌, ℤ, ◌≤ℤ◌, w64, to_z, of_z, to_z-of_z, refl, arith}
use Rattle.std.proofs.lemmas.Int.{ints}
use Rattle.rr_model.specs.Bounds.{first_day_of_all}
use Rattle.rr_model.specs.Moment.{day_part}
use Rattle.rr_model.proofs.YearLemmas.{year_1}
use Rattle.rr_iter.proofs.CountedLemmas.{span_most, start_bounds, within_cycle}
use Rattle.rr_iter.proofs.counted.last_counted.Goals as goal

pub returns-then-count-gt-MOST_MOMENTS-clause-day : goal.returns-then-count-gt-MOST_MOMENTS-clause-day
returns-then-count-gt-MOST_MOMENTS-clause-day c =
    (refl, omega (arith, span_most c.args.kind c.args.start c.args.rule.now c.requires.sound, c.if-count-gt-MOST_MOMENTS.true))

pub day_of_nth-requires-clause-high : goal.day_of_nth-requires-clause-high
day_of_nth-requires-clause-high c =
    let bounds = start_bounds c.args.kind c.args.start c.args.rule.now c.requires.sound in
    let day = rw (to_z-of_z c.ranges.start) at c.day_part.ensures in
    omega (arith, ints, day, bounds.0, bounds.1)

pub returns-in-On-clause-day : goal.returns-in-On-clause-day
returns-in-On-clause-day c =
    let first : ℤ = day_part c.args.kind c.args.start in
    let bounds = start_bounds c.args.kind c.args.start c.args.rule.now c.requires.sound in
    let day = rw (to_z-of_z c.ranges.start) at c.day_part.ensures in
    let t : to_z w64 (of_z w64 c.day_part.result) ≡ first = omega (arith, ints, day, bounds.0, bounds.1) in
    let place = rw (c.in-On.is, to_z-of_z c.ranges.start, t) at c.in_ok-day.ensures in
    let low : first_day_of_all ≤ℤ c.in-On.day = omega (arith, ints, place.1.begun, year_1) in
    let same : to_z w64 (of_z w64 c.in-On.day) ≡ c.in-On.day = omega (arith, ints, low, place.0, bounds.1) in
    rw same (omega (arith, ints, place.0), place.1)

pub returns-in-On-clause-counted : goal.returns-in-On-clause-counted
returns-in-On-clause-counted c =
    let first : ℤ = day_part c.args.kind c.args.start in
    let bounds = start_bounds c.args.kind c.args.start c.args.rule.now c.requires.sound in
    let day = rw (to_z-of_z c.ranges.start) at c.day_part.ensures in
    let t : to_z w64 (of_z w64 c.day_part.result) ≡ first = omega (arith, ints, day, bounds.0, bounds.1) in
    let place = rw (c.in-On.is, to_z-of_z c.ranges.start, t) at c.in_ok-day.ensures in
    within_cycle c.args.rule.now c.args.kind c.args.start c.args.count c.in-On.day place.1 (omega (arith, ints, place.0))
