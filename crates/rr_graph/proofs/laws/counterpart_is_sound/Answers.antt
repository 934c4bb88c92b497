use Rattle.rr_graph.proofs.SoundLemmas as lemma
use Rattle.rr_graph.proofs.laws.counterpart_is_sound.Goals as goal

pub returns : goal.returns
returns c = lemma.counterpart_is_sound
