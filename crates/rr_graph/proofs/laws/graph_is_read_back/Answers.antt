use Rattle.rr_graph.proofs.GraphReadBackLemmas as lemma
use Rattle.rr_graph.proofs.laws.graph_is_read_back.Goals as goal

pub returns : goal.returns
returns c = lemma.graph_is_read_back
