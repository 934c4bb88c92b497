use Rattle.rr_vcal.proofs.OccurrenceLemmas.{counterpart_has_occurrences as law}
use Rattle.rr_vcal.proofs.laws.counterpart_has_occurrences.Goals as goal

pub returns : goal.returns
returns c = law
