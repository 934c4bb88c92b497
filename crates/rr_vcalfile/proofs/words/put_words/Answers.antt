use Rattle.rr_vcalfile.specs.Words.{event_words}
use Rattle.rr_vcalfile.proofs.WordsLemmas.{none_put}
use Rattle.rr_vcalfile.proofs.words.put_words.Goals as goal

pub returns-in_default : goal.returns-in_default
returns-in_default c = none_put event_words c.args.words.now.items c.args.parts.now c.args.index c.in_default.ensures.lookup.3
