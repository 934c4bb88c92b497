use Rattle.serde_json.specs.View.{view}
use Rattle.rr_graph.proofs.ReadPatternLemmas.{pattern_answer_is_valid}
use Rattle.rr_graph.proofs.pattern.pattern_in.Goals as goal

pub returns-clause-valid : goal.returns-clause-valid
returns-clause-valid c = pattern_answer_is_valid (view c.args.pattern.now) c.members_in.result c.members_in.ensures
