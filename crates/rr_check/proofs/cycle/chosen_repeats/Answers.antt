use Rattle.rr_check.proofs.RepetitionLemmas.{chosen_repeats}
use Rattle.rr_check.proofs.cycle.chosen_repeats.Goals as goal

pub returns : goal.returns
returns c = chosen_repeats
