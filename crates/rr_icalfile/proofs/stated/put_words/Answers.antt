use Rattle.rr_icalfile.specs.Words.{event_words}
use Rattle.rr_icalfile.proofs.StatedLemmas.{none_put}
use Rattle.rr_icalfile.proofs.stated.put_words.Goals as goal

pub returns-in_default : goal.returns-in_default
returns-in_default c = none_put event_words c.args.words.now.items c.args.pieces.now c.args.index c.in_default.ensures.lookup.3
