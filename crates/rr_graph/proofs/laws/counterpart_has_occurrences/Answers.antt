use Rattle.rr_graph.proofs.OccurrenceLemmas as lemma
use Rattle.rr_graph.proofs.laws.counterpart_has_occurrences.Goals as goal

pub returns : goal.returns
returns c = lemma.counterpart_has_occurrences
