use Rattle.rr_graph.proofs.SoundLemmas.{answer_is_sound}
use Rattle.rr_graph.proofs.series.to_series.Goals as goal

pub returns-clause-sound : goal.returns-clause-sound
returns-clause-sound c = answer_is_sound c.args.event.now c.requires c.counterpart_of.result c.counterpart_of.ensures
