use Rattle.rr_graph.proofs.OccurrenceLemmas as lemma
use Rattle.rr_graph.proofs.laws.moving_the_start_keeps_occurrences.Goals as goal

pub returns : goal.returns
returns c = lemma.moving_start_keeps_occurrences
