use Rattle.rr_model.proofs.YearLemmas.{years_are_tested as law}
use Rattle.rr_model.proofs.calendar_laws.years_are_tested.Goals as goal

pub returns : goal.returns
returns c = law
