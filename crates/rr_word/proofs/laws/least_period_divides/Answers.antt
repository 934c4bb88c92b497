use Rattle.rr_word.proofs.PeriodLemmas.{least_divides}
use Rattle.rr_word.proofs.laws.least_period_divides.Goals as goal

pub returns : goal.returns
returns c = least_divides
