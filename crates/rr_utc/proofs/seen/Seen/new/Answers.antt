use Rattle.rr_utc.proofs.SeenLemmas.{none_seen}
use Rattle.rr_utc.proofs.seen.Seen.new.Goals as goal

pub returns : goal.returns
returns c = none_seen
