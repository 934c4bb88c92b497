use Rattle.rr_graph.proofs.FirstOccurrenceLemmas as lemma
use Rattle.rr_graph.proofs.laws.refused_where_none_occurs.Goals as goal

pub returns : goal.returns
returns c = lemma.refused_where_none_occurs
