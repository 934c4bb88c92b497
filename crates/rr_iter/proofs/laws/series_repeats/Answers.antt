use Rattle.rr_iter.proofs.SeriesRepeatLemmas.{series_repeats as law}
use Rattle.rr_iter.proofs.laws.series_repeats.Goals as goal

pub returns : goal.returns
returns c = law
