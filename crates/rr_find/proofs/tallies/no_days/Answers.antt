use Rattle.rr_find.proofs.TallyDayLemmas.{none_in_zeros}
use Rattle.rr_find.proofs.tallies.no_days.Goals as goal

pub returns : goal.returns
returns c = λ k. none_in_zeros 366 k
