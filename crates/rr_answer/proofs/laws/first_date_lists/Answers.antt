use Rattle.rr_answer.proofs.FirstDateLemmas.{first_date_lists as law}
use Rattle.rr_answer.proofs.laws.first_date_lists.Goals as goal

pub returns : goal.returns
returns c = law
