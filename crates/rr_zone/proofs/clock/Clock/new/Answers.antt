use Rattle.std.proofs.Common.{arith}
use Rattle.std.proofs.lemmas.Int.{ints}
use Rattle.rr_model.proofs.YearLemmas.{year_1}
use Rattle.rr_zone.proofs.clock.Clock.new.Goals as goal

pub tables_of-requires-clause-last : goal.tables_of-requires-clause-last
tables_of-requires-clause-last c = record { late = omega (arith, ints, year_1); early = omega (arith, ints) }
