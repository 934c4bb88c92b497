use Rattle.rr_graph.proofs.GraphReadBackLemmas.{graph_is_read_back}
use Rattle.rr_plan_text.proofs.TextLemmas.{event_is_read_back}
use Rattle.rr_plan_text.proofs.laws.plan_event_is_read_back.Goals as goal

pub returns : goal.returns
returns c = event_is_read_back graph_is_read_back
