use Rattle.std.proofs.Common.{FitsSigned, w64, to_z-of_z, arith}
use Rattle.std.proofs.lemmas.Int.{ints}
use Rattle.rr_model.proofs.YearLemmas.{year_1, year_10000}
use Rattle.rr_zone.proofs.clock.days_since.Goals as goal

pub overflow_sub-result : goal.overflow_sub-result
overflow_sub-result c =
    let begun : FitsSigned w64 c.day_part-begun.result = record { sfits = c.day_part-begun.type_inv } in
    omega (
      arith,
      ints,
      year_1,
      year_10000,
      c.requires.0,
      c.requires.1,
      to_z-of_z c.ranges.day,
      to_z-of_z begun,
      c.if-begun-lt-FIRST_DAY.false,
      c.if-day-begun.false,
    )

pub returns : goal.returns
returns c =
    let begun : FitsSigned w64 c.day_part-begun.result = record { sfits = c.day_part-begun.type_inv } in
    omega (
      arith,
      ints,
      year_1,
      year_10000,
      c.requires.0,
      c.requires.1,
      to_z-of_z c.ranges.day,
      to_z-of_z begun,
      c.if-begun-lt-FIRST_DAY.false,
      c.if-day-begun.false,
    )
