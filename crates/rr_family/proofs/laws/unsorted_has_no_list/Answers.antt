use Rattle.rr_family.proofs.TallyLemmas.{unsorted_has_no_list as law}
use Rattle.rr_family.proofs.laws.unsorted_has_no_list.Goals as goal

pub returns : goal.returns
returns c = law
