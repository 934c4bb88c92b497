use Rattle.rr_canon.proofs.KeptLemmas.{nothing_least}
use Rattle.rr_canon.proofs.least_seq.empty_seq.Goals as goal

pub invariant_of-result-clause-least : goal.invariant_of-result-clause-least
invariant_of-result-clause-least c = ∣ nothing_least c.new.result c.new-2.result c.new-3.result c.new.ensures c.new-2.ensures ∣₁
