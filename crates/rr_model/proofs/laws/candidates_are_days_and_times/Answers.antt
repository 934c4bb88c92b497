use Rattle.rr_model.proofs.DaysAndTimesLemmas.{candidates_are_days_and_times as law}
use Rattle.rr_model.proofs.laws.candidates_are_days_and_times.Goals as goal

pub returns : goal.returns
returns c = law
