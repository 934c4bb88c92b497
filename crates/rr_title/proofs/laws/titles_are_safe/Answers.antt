use Rattle.rr_title.proofs.SafeLemmas.{titles_are_safe as law}
use Rattle.rr_title.proofs.laws.titles_are_safe.Goals as goal

pub returns : goal.returns
returns c = law
