use Rattle.rr_graph.proofs.FirstOccurrenceLemmas as lemma
use Rattle.rr_graph.proofs.laws.counterpart_starts_first.Goals as goal

pub returns : goal.returns
returns c = lemma.counterpart_starts_first
