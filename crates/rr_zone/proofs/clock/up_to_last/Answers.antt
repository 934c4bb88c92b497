use Rattle.std.proofs.Common.{arith}
use Rattle.std.proofs.lemmas.Int.{ints}
use Rattle.rr_model.proofs.YearLemmas.{year_1}
use Rattle.rr_zone.proofs.clock.up_to_last.Goals as goal

pub returns-else-day-lt-LAST_DAY-clause-last : goal.returns-else-day-lt-LAST_DAY-clause-last
returns-else-day-lt-LAST_DAY-clause-last c = record { late = omega (arith, ints, year_1); early = omega (arith, ints) }
