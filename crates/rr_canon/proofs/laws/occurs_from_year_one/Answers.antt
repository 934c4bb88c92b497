use Rattle.rr_model.proofs.YearOneLemmas.{occurs_from_year_one}
use Rattle.rr_canon.proofs.laws.occurs_from_year_one.Goals as goal

pub returns : goal.returns
returns c = occurs_from_year_one
