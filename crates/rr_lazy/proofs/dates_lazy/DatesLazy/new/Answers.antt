use Rattle.std.proofs.Common.{sym, arith}
use Rattle.std.proofs.lemmas.Int.{ints}
use Rattle.rr_lazy.proofs.FirstLemmas.{first_day_is}
use Rattle.rr_lazy.proofs.dates_lazy.DatesLazy.new.Goals as goal

pub invariant_of-result : goal.invariant_of-result
invariant_of-result c = record { begun = omega (arith, ints, first_day_is); in_years = c.requires.in_years }

pub returns-clause-unasked : goal.returns-clause-unasked
returns-clause-unasked c = sym first_day_is
