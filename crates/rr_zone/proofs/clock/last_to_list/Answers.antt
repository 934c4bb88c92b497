use Rattle.std.proofs.Common.{FitsSigned, w64, to_z-of_z, arith}
use Rattle.std.proofs.lemmas.Int.{ints}
use Rattle.rr_model.proofs.YearLemmas.{year_1, year_10000}
use Rattle.rr_zone.proofs.clock.last_to_list.Goals as goal

pub overflow_add-day : goal.overflow_add-day
overflow_add-day c = omega (arith, ints, year_1, year_10000, c.requires.0, c.requires.1, to_z-of_z c.ranges.day)

pub up_to_last-requires : goal.up_to_last-requires
up_to_last-requires c = omega (arith, ints, year_1, year_10000, c.requires.0, c.requires.1, to_z-of_z c.ranges.day)

pub overflow_add-day-else-more-lt-SOME_YEARS : goal.overflow_add-day-else-more-lt-SOME_YEARS
overflow_add-day-else-more-lt-SOME_YEARS c =
    let more : FitsSigned w64 c.days_since-more.result = record { sfits = c.days_since-more.type_inv } in
    omega (
      arith,
      ints,
      year_1,
      year_10000,
      c.requires.0,
      c.requires.1,
      to_z-of_z c.ranges.day,
      to_z-of_z more,
      c.days_since-more.ensures,
      c.if-more-lt-SOME_YEARS.false,
    )

pub up_to_last-requires-else-more-lt-SOME_YEARS : goal.up_to_last-requires-else-more-lt-SOME_YEARS
up_to_last-requires-else-more-lt-SOME_YEARS c =
    let more : FitsSigned w64 c.days_since-more.result = record { sfits = c.days_since-more.type_inv } in
    omega (
      arith,
      ints,
      year_1,
      year_10000,
      c.requires.0,
      c.requires.1,
      to_z-of_z c.ranges.day,
      to_z-of_z more,
      c.days_since-more.ensures,
      c.if-more-lt-SOME_YEARS.false,
    )

pub returns-then-more-lt-SOME_YEARS-clause-beyond : goal.returns-then-more-lt-SOME_YEARS-clause-beyond
returns-then-more-lt-SOME_YEARS-clause-beyond c =
    let result : FitsSigned w64 c.up_to_last.result = record { sfits = c.up_to_last.type_inv } in
    rw (to_z-of_z result)
    (c.up_to_last.ensures.beyond c.args.day (omega (arith, ints, year_1, year_10000, c.requires.0, c.requires.1, to_z-of_z c.ranges.day))
    (omega (arith, ints, year_10000, c.requires.1)))

pub returns-else-more-lt-SOME_YEARS-clause-beyond : goal.returns-else-more-lt-SOME_YEARS-clause-beyond
returns-else-more-lt-SOME_YEARS-clause-beyond c =
    let more : FitsSigned w64 c.days_since-more.result = record { sfits = c.days_since-more.type_inv } in
    let result : FitsSigned w64 c.up_to_last-else-more-lt-SOME_YEARS.result = record { sfits = c.up_to_last-else-more-lt-SOME_YEARS.type_inv } in
    rw (to_z-of_z result)
    (c.up_to_last-else-more-lt-SOME_YEARS.ensures.beyond c.args.day
    (omega (
      arith,
      ints,
      year_1,
      year_10000,
      c.requires.0,
      c.requires.1,
      to_z-of_z c.ranges.day,
      to_z-of_z more,
      c.days_since-more.ensures,
      c.if-more-lt-SOME_YEARS.false,
    ))
    (omega (arith, ints, year_10000, c.requires.1)))
